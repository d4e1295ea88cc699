-- A proof that references of a pool stand for is over a vocabulary without names that no leaf of the table has.
use Rattle.std.proofs.Common.{◌≡◌, ◌⊎◌, inl, inr, ◌||◌, ℕ, Bool, true, false, List, [], ◌∷◌, bytes_eq, refl, ap, sym, ◌∙◌, subst}
use Rattle.std.specs.Prelude.{Contains}
use Rattle.std.proofs.lemmas.Slice.Eq.{bytes_eq-Decides}
use Rattle.std.specs.List.{AllByRecursion, AllZip}
use Rattle.sym_table.specs.Table.{Table}
use Rattle.term_model.specs.declared.symbols.Sort.{Sort}
use Rattle.term_model.specs.Terms.{Var, Term, numeral, variable, operation, call, let_in, Terms, no_terms, term, Bindings, no_bindings, binding}
use Rattle.term_model.proofs.Lists.{contains_none, contains_cases, contains_head, contains_later}
use Rattle.term_pool.specs.Bindings.{IsBindingOf}
use Rattle.term_pool.specs.StandsFor.{variable_leaf}
use Rattle.term_pool.specs.Views.{TermsView, RefersTo}
use Rattle.rule_model.specs.Proofs.{Step, ProofItems}
use Rattle.rule_model.specs.Scopes.{Nesting, inner}
use Rattle.proof_store.specs.Meaning.{IsPivotOf, IsProofStepOf, StandForItems, no_items_stand, assume_stands, step_stands, subproof_stands}
use Rattle.problem_text.specs.Scripts.{Named}
use Rattle.problem_text.specs.Words.{is_among}
use Rattle.printed_proofs.specs.Naming.{IsApart, BindsNot, BindNot, AreOtherNames}
use Rattle.printed_proofs.specs.Shared.{Plan}
use Rattle.readable_proofs.specs.Names.{Vocabulary}
use Rattle.readable_proofs.specs.ProofsOver.{IsTermIn, IsPivotIn, IsStepIn, AreVariablesIn, AreIn}
use Rattle.readable_proofs.specs.TermsOver.{IsTermOver, AreTermsOver, AreBoundOver}
use Rattle.term_sharing.specs.Naming.{HasNoLeaf}

other_way : (a b : List ℕ) → bytes_eq a b ≡ false → bytes_eq b a ≡ false
other_way a b e = go (bytes_eq b a) refl
  where
    go : (test : Bool) → bytes_eq b a ≡ test → test ≡ false
    go true f = let g = (bytes_eq-Decides a b).1 (sym ((bytes_eq-Decides b a).0 f)) in absurd (cc)
    go false f = refl

-- a name that is not taken is another than one that is
pub differs_from_taken : (names : List (List ℕ)) (new name : List ℕ) → is_among names new ≡ false → is_among names name ≡ true → bytes_eq new name ≡ false
differs_from_taken names new name e f = go (bytes_eq new name) refl
  where
    go : (test : Bool) → bytes_eq new name ≡ test → test ≡ false
    go true h = let g = ap (is_among names) ((bytes_eq-Decides new name).0 h) in absurd (cc)
    go false h = refl

-- the plan gives the name
abbrev gives : Plan → List ℕ → Bool
gives [] name = false
gives (n ∷ plan) name = bytes_eq name n.name || gives plan name

-- the names that the plan does not give
abbrev unless : Bool → List ℕ → List (List ℕ) → List (List ℕ)
unless true name names = names
unless false name names = name ∷ names

abbrev pub names_without : Plan → List (List ℕ) → List (List ℕ)
names_without plan [] = []
names_without plan (name ∷ names) = unless (gives plan name) name (names_without plan names)

-- the vocabulary without the names of the plan
abbrev pub without : Plan → Vocabulary → Vocabulary
without plan v = record { functions = v.functions; variables = names_without plan v.variables }

not_given : (plan : Plan) (name : List ℕ) → ((n : Named) → Contains plan n → bytes_eq name n.name ≡ false) → gives plan name ≡ false
not_given [] name h = refl
not_given (n ∷ plan) name h =
    let first = h n (contains_head n plan) in
    let rest = not_given plan name (λ m there. h m (contains_later n m plan there)) in
    rw (first, rest) refl

given : (plan : Plan) (n : Named) → Contains plan n → (name : List ℕ) → bytes_eq name n.name ≡ true → gives plan name ≡ true
given [] n there name e = absurd (contains_none n there)
given (m ∷ plan) n there name e = go (contains_cases m n plan there) (λ later. given plan n later name e)
  where
    either : (test : Bool) → gives plan name ≡ true → (test || gives plan name) ≡ true
    either true f = refl
    either false f = f

    go : (m ≡ n) ⊎ Contains plan n → (Contains plan n → gives plan name ≡ true) → gives (m ∷ plan) name ≡ true
    go (inl same) rest = let f = ap (λ (k : Named). bytes_eq name k.name) same ∙ e in rw f refl
    go (inr later) rest = either (bytes_eq name m.name) (rest later)

-- what is left
stays : (plan : Plan) (names : List (List ℕ)) (name : List ℕ) → gives plan name ≡ false → Contains names name → Contains (names_without plan names) name
stays plan [] name free there = absurd (contains_none name there)
stays plan (first ∷ names) name free there = go (contains_cases first name names there) (stays plan names name free)
  where
    later : (test : Bool) → Contains (names_without plan names) name → Contains (unless test first (names_without plan names)) name
    later true h = h
    later false h = contains_later first name (names_without plan names) h

    go : (first ≡ name) ⊎ Contains names name → (Contains names name → Contains (names_without plan names) name)
        → Contains (names_without plan (first ∷ names)) name
    go (inl same) rest =
        let e : gives plan first ≡ false = ap (gives plan) same ∙ free in
        rw e (subst (λ x. Contains (first ∷ names_without plan names) x) same (contains_head first (names_without plan names)))
    go (inr there) rest = later (gives plan first) (rest there)

pub was_there : (plan : Plan) (names : List (List ℕ)) (name : List ℕ) → Contains (names_without plan names) name
    → Contains names name × (gives plan name ≡ false)
was_there plan [] name there = absurd (contains_none name there)
was_there plan (first ∷ names) name there = go (gives plan first) refl there (was_there plan names name)
  where
    more : Contains names name × (gives plan name ≡ false) → Contains (first ∷ names) name × (gives plan name ≡ false)
    more h = (contains_later first name names h.0, h.1)

    cases : (first ≡ name) ⊎ Contains (names_without plan names) name → gives plan first ≡ false
        → (Contains (names_without plan names) name → Contains names name × (gives plan name ≡ false))
        → Contains (first ∷ names) name × (gives plan name ≡ false)
    cases (inl same) e rest = (subst (λ x. Contains (first ∷ names) x) same (contains_head first names), ap (gives plan) (sym same) ∙ e)
    cases (inr there) e rest = more (rest there)

    go : (test : Bool) → gives plan first ≡ test → Contains (unless test first (names_without plan names)) name
        → (Contains (names_without plan names) name → Contains names name × (gives plan name ≡ false))
        → Contains (first ∷ names) name × (gives plan name ≡ false)
    go true e h rest = more (rest h)
    go false e h rest = cases (contains_cases first name (names_without plan names) h) e rest

-- no name of the plan is left
pub plan_left_out : (plan : Plan) (names : List (List ℕ)) (n : Named) → Contains plan n → Contains (names_without plan names) n.name → ⊥
plan_left_out plan names n inside there =
    let free = (was_there plan names n.name there).1 in
    let taken = given plan n inside n.name ((bytes_eq-Decides n.name n.name).1 refl) in
    absurd (cc)

module _ (v : Vocabulary) (plan : Plan) where
  abbrev BindsNone : Term → Type 0
  BindsNone t = (n : Named) → Contains plan n → BindsNot n.name t

  kept : (name : List ℕ) → ((n : Named) → Contains plan n → bytes_eq name n.name ≡ false) → Contains v.variables name
      → Contains (without plan v).variables name
  kept name h there = stays plan v.variables name (not_given plan name h) there

  mutual
    narrowed : (t : Term) → BindsNone t → IsTermOver v t → IsTermOver (without plan v) t
    narrowed (numeral n) none h = h
    narrowed (variable x) none h = tt
    narrowed (operation op ts) none h = all_narrowed ts none h
    narrowed (call f ts) none h = (h.0, all_narrowed ts none h.1)
    narrowed (let_in bs t) none h =
        (h.0, bound_narrowed bs (λ n inside. (none n inside).0) h.1, narrowed t (λ n inside. (none n inside).1) h.2)

    all_narrowed : (ts : Terms) → ((n : Named) → Contains plan n → BindNot n.name ts) → AreTermsOver v ts → AreTermsOver (without plan v) ts
    all_narrowed no_terms none h = tt
    all_narrowed (term t ts) none h =
        (narrowed t (λ n inside. (none n inside).0) h.0, all_narrowed ts (λ n inside. (none n inside).1) h.1)

    bound_narrowed : (bs : Bindings) → ((n : Named) → Contains plan n → AreOtherNames n.name bs) → AreBoundOver v bs
        → AreBoundOver (without plan v) bs
    bound_narrowed no_bindings none h = tt
    bound_narrowed (binding x t bs) none h = (
      kept x.name (λ n inside. (none n inside).0) h.0,
      narrowed t (λ n inside. (none n inside).1) h.1,
      bound_narrowed bs (λ n inside. (none n inside).2) h.2,
    )

  module _ (s : Table) (w : TermsView) (no_leaf : HasNoLeaf s plan) (apart : (r : ℕ) (t : Term) → RefersTo s w r t → IsApart plan t) where
    term_in : (nesting : Nesting Var Term) (r : ℕ) (t : Term) (sort : Sort) → RefersTo s w r t → IsTermIn v nesting t sort
        → IsTermIn (without plan v) nesting t sort
    term_in nesting r t sort refers h = record {
      of = narrowed t (λ n inside. (apart r t refers n inside).1) h.of;
      sorted = h.sorted;
      closed = h.closed;
    }

    clause_in : (nesting : Nesting Var Term) (rs : List ℕ) (ts : List Term) → AllZip (RefersTo s w) rs ts
        → AllByRecursion (λ t. IsTermIn v nesting t Sort.Bool) ts → AllByRecursion (λ t. IsTermIn (without plan v) nesting t Sort.Bool) ts
    clause_in nesting rs [] zip h = tt
    clause_in nesting [] (t ∷ ts) zip h = absurd zip
    clause_in nesting (r ∷ rs) (t ∷ ts) zip h = (term_in nesting r t Sort.Bool zip.0 h.0, clause_in nesting rs ts zip.1 h.1)

    pivots_in : (nesting : Nesting Var Term) (rs : List (ℕ × Bool)) (ts : List (Term × Bool)) → AllZip (IsPivotOf s w) rs ts
        → AllByRecursion (λ p. IsPivotIn v nesting p.0) ts → AllByRecursion (λ p. IsPivotIn (without plan v) nesting p.0) ts
    pivots_in nesting rs [] zip h = tt
    pivots_in nesting [] (t ∷ ts) zip h = absurd zip
    pivots_in nesting (r ∷ rs) (t ∷ ts) zip h =
        (record { sort = h.0.sort; is = term_in nesting r.0 t.0 h.0.sort zip.0.term h.0.is }, pivots_in nesting rs ts zip.1 h.1)

    step_in : (nesting : Nesting Var Term) (step : Step ℕ) (of : Step Term) → IsProofStepOf s w step of → IsStepIn v nesting of
        → IsStepIn (without plan v) nesting of
    step_in nesting step of is h = record {
      clause = clause_in nesting step.clause of.clause is.clause h.clause;
      pivots = pivots_in nesting step.pivots of.pivots is.pivots h.pivots;
    }

    variables_in : (nesting : Nesting Var Term) (earlier : List (List ℕ)) (rs : List (ℕ × ℕ)) (bs : List (Var × Term))
        → AllZip (IsBindingOf s w) rs bs → AreVariablesIn v nesting earlier bs → AreVariablesIn (without plan v) nesting earlier bs
    variables_in nesting earlier rs [] zip h = tt
    variables_in nesting earlier [] (b ∷ bs) zip h = absurd zip
    variables_in nesting earlier (r ∷ rs) (b ∷ bs) zip h = (
      record {
        named = kept b.0.name (λ n inside. other_way n.name b.0.name (no_leaf n inside r.0 (variable_leaf b.0) zip.0.variable)) h.0.named;
        unbound = h.0.unbound;
        term = term_in nesting r.1 b.1 b.0.sort zip.0.term h.0.term;
      },
      variables_in nesting (b.0.name ∷ earlier) rs bs zip.1 h.1,
    )

    pub items_in : (nesting : Nesting Var Term) (refs : ProofItems ℕ ℕ) (proof : ProofItems Var Term) → StandForItems s w refs proof
        → AreIn v nesting proof → AreIn (without plan v) nesting proof
    items_in nesting _ _ no_items_stand h = tt
    items_in nesting _ _ (assume_stands is ps id r t rest refers) h =
        (items_in nesting is ps rest h.0, term_in nesting r t Sort.Bool refers h.1)
    items_in nesting _ _ (step_stands is ps step of rest same) h = (items_in nesting is ps rest h.0, step_in nesting step of same h.1)
    items_in nesting _ _ (subproof_stands is ps bindings bound inside proof step of rest zip deep same) h = (
      items_in nesting is ps rest h.0,
      variables_in nesting [] bindings bound zip h.1,
      items_in (inner nesting ps bound of) inside proof deep h.2,
      step_in nesting step of same h.3,
    )
