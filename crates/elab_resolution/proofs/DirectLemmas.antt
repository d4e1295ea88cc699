-- A step that needs nothing but pivots: its pivots are known and near to its literals, and it is met, linked and spelled as an added one.
use Rattle.std.proofs.Common.{◌≡◌, inl, inr, ℕ, zero, suc, Bool, List, [], ◌∷◌, ◌++◌, map, drop, take, Option, Some, IfSome}
use Rattle.std.proofs.Common.{refl, sym, ◌∙◌, ap, subst, All, Contains}
use Rattle.std.proofs.lemmas.List.Elements.{All-contains, All-contains_itself, All-drop, All-map, All-take, All-weaker}
use Rattle.std.proofs.lemmas.List.Elements.{Contains-append_left, Contains-append_right}
use Rattle.std.specs.Borrow.{Bor}
use Rattle.std.specs.List.{AllZip, flat_map}
use Rattle.sym_table.specs.Table.{Table}
use Rattle.term_model.specs.Terms.{Var, Term}
use Rattle.term_model.proofs.Lists.{contains_cases, contains_head, contains_later, contains_none}
use Rattle.term_parts.specs.Judging.{ReferToClauses}
use Rattle.term_pool.specs.Nots.{negated}
use Rattle.term_pool.specs.Views.{TermsView, IsTerm, RefersTo, ReferToAll}
use Rattle.term_pool.proofs.References.{AreOne}
use Rattle.proof_store.specs.AddedSteps.{AddedStep}
use Rattle.proof_store.specs.declared.added.Link.{Link}
use Rattle.rule_model.specs.declared.rules.Rule.{Rule}
use Rattle.rule_model.specs.Proofs.{ProofItems}
use Rattle.rule_model.specs.Reading.{clause_at, premise_clauses, premises_at}
use Rattle.elab_resolution.specs.Adding.{AreAddedFor, AreNear, EndsInClause, IsAddedFor, IsLinkFor, ResolvesAt, linked_clause, roots_at}
use Rattle.elab_resolution.specs.Guessed.{AreMetWith, IsPivotOn, IsPivotOfSome, link_to}
use Rattle.elab_resolution.specs.Spellings.{IsNearTo, roots_of}
use Rattle.elab_resolution.specs.Levels.{falsity_term, truth_term}

pub found_of : {X : Type 0} (o : Option X) (x : X) (P : X → Type 0) → o ≡ Some x → IfSome o P → P x
found_of o x P e h = (subst (λ y. IfSome y P) e h)

-- what stands in a list stands in step with an item of the other
in_step : {A B : Type 0} (R : A → B → Type 0) (xs : List A) (ys : List B) → AllZip R xs ys → (x : A) → Contains xs x → (y : B) × Contains ys y × R x y
in_step R [] ys h x is = absurd (contains_none x is)
in_step R (z ∷ xs) [] h x is = absurd h
in_step {A} {B} R (z ∷ xs) (y ∷ ys) h x is = elim (contains_cases z x xs is) [
  | inl here ↦ (y, contains_head y ys, subst (λ a. R a y) here h.0)
  | inr later ↦ let rest = in_step R xs ys h.1 x later in (rest.0, contains_later y rest.0 ys rest.1, rest.2)
]

in_all : (ps : List (List Term)) (c : List Term) (t : Term) → Contains ps c → Contains c t → Contains (flat_map (λ (d : List Term). d) ps) t
in_all [] c t h k = absurd (contains_none c h)
in_all (p ∷ ps) c t h k = elim (contains_cases p c ps h) [
  | inl here ↦ Contains-append_left p (flat_map (λ (d : List Term). d) ps) t (subst (λ d. Contains d t) (sym here) k)
  | inr later ↦ Contains-append_right p (flat_map (λ (d : List Term). d) ps) t (in_all ps c t later k)
]

pub root_near : (roots : List Term) (t : Term) → Contains roots t → IsNearTo roots t
root_near roots t h = record { root = t; is = h; nots = 3; same = refl }

module _ (s : Table) (v : TermsView) where
  -- a pivot on a literal is known as it is
  pub pivot_known : (literal p : ℕ) → IsTerm s v literal → IsPivotOn s v literal p → IsTerm s v p
  pivot_known literal p known on = elim on [
    | inl same ↦ subst (IsTerm s v) (sym same) known
    | inr under ↦ let u = under known.means known.refers in record { means = u.inner; refers = u.refers }
  ]

  pub pivots_known : (premises : List (Bor (List ℕ))) → All (λ p. All (IsTerm s v) p.now) premises → (p : ℕ) → IsPivotOfSome s v premises p → IsTerm s v p
  pivots_known premises known p h =
      pivot_known h.pivot.literal p
      (All-contains (IsTerm s v) h.clause.now h.pivot.literal (All-contains (λ (c : Bor (List ℕ)). All (IsTerm s v) c.now) premises h.clause known h.is)
      h.pivot.is)
      h.pivot.on

  -- those of the premises behind the first are of all
  pub pivot_of_all : (premises : List (Bor (List ℕ))) (n p : ℕ) → IsPivotOfSome s v (take n (drop 1 premises)) p → IsPivotOfSome s v premises p
  pivot_of_all premises n p h = record {
    clause = h.clause;
    is =
        All-contains (Contains premises) (take n (drop 1 premises)) h.clause
        (All-take (Contains premises) n (drop 1 premises) (All-drop (Contains premises) 1 premises (All-contains_itself premises))) h.is;
    pivot = h.pivot;
  }

  module _ (one : AreOne s v) where
    -- and near to the literal's term, which is one of the roots
    pivot_near : (roots : List Term) (literal p : ℕ) (root : Term) → RefersTo s v literal root → Contains roots root → IsPivotOn s v literal p → (t : Term)
        → RefersTo s v p t → IsNearTo roots t
    pivot_near roots literal p root refers is on t here = elim on [
      | inl same ↦ subst (IsNearTo roots) ((one literal p root t refers here).0 (sym same)) (root_near roots root is)
      | inr under ↦
          let u = under root refers in
          record {
            root = root;
            is = is;
            nots = 4;
            same = ap (negated 4) ((one p p t u.inner here u.refers).0 refl) ∙ sym (ap (negated 3) u.is);
          }
    ]

    pub pivots_near : (premises : List (Bor (List ℕ))) (ps : List (List Term)) (ts : List Term) → ReferToClauses s v premises ps → (p : ℕ)
        → IsPivotOfSome s v premises p → (t : Term) → RefersTo s v p t → IsNearTo (roots_of ps ts) t
    pivots_near premises ps ts refer p h t here =
        let clause = in_step (λ (r : Bor (List ℕ)) c. ReferToAll s v r.now c) premises ps refer h.clause h.is in
        let literal = in_step (RefersTo s v) h.clause.now clause.0 clause.2 h.pivot.literal h.pivot.is in
        pivot_near (roots_of ps ts) h.pivot.literal p literal.0 literal.2
        (Contains-append_left (flat_map (λ (c : List Term). c) ps) (ts ++ truth_term ∷ falsity_term ∷ []) literal.0
        (in_all ps clause.0 literal.0 clause.1 literal.1)) h.pivot.on t here

    pub literals_near : (rs : List ℕ) (ps : List (List Term)) (ts : List Term) → ReferToAll s v rs ts → (r : ℕ) → Contains rs r → (t : Term)
        → RefersTo s v r t → IsNearTo (roots_of ps ts) t
    literals_near rs ps ts refer r is t here =
        let literal = in_step (RefersTo s v) rs ts refer r is in
        subst (IsNearTo (roots_of ps ts)) ((one r r literal.0 t literal.2 here).0 refl)
        (root_near (roots_of ps ts) literal.0
        (Contains-append_right (flat_map (λ (c : List Term). c) ps) (ts ++ truth_term ∷ falsity_term ∷ []) literal.0
        (Contains-append_left ts (truth_term ∷ falsity_term ∷ []) literal.0 literal.1)))

-- the clauses of what links name
linked : (proof : ProofItems ℕ ℕ) (premises : List ℕ) → map (linked_clause proof []) (map link_to premises) ≡ map (clause_at proof) premises
linked proof [] = refl
linked proof (p ∷ premises) = ap (λ cs. clause_at proof p ∷ cs) (linked proof premises)

over_borrowed : (s : Table) (v : TermsView) (premises : List (Bor (List ℕ))) (clauses : List (List ℕ)) (ps : List (List Term))
    → map (λ (p : Bor (List ℕ)). p.now) premises ≡ clauses → AllZip (ReferToAll s v) clauses ps → ReferToClauses s v premises ps
over_borrowed s v premises clauses ps is h = go premises ps (subst (λ cs. AllZip (ReferToAll s v) cs ps) (sym is) h)
  where
    go : (list : List (Bor (List ℕ))) (qs : List (List Term)) → AllZip (ReferToAll s v) (map (λ (p : Bor (List ℕ)). p.now) list) qs → ReferToClauses s v list qs
    go [] [] k = tt
    go [] (q ∷ qs) k = absurd k
    go (c ∷ list) [] k = absurd k
    go (c ∷ list) (q ∷ qs) k = (k.0, go list qs k.1)

-- the step itself, with pivots
abbrev pub direct : ProofItems ℕ ℕ → ℕ → List (ℕ × Bool) → AddedStep
direct proof i pivots = record { rule = Rule.Resolution; clause = clause_at proof i; premises = map link_to (premises_at proof i); pivots = pivots }

module _ (s : Table) (v : TermsView) (proof : ProofItems ℕ ℕ) (of : ProofItems Var Term) (i : ℕ) (premises : List (Bor (List ℕ)))
    (pivots : List (ℕ × Bool)) (refer : ReferToAll s v (clause_at proof i) (clause_at of i)) (given : ReferToClauses s v premises (premise_clauses of i))
    (found : All (λ (p : ℕ × Bool). IsPivotOfSome s v premises p.0) pivots) where
  links_are : All (IsLinkFor (premises_at proof i) 0) (map link_to (premises_at proof i))
  links_are = All-map (IsLinkFor (premises_at proof i) 0) link_to (premises_at proof i) (All-contains_itself (premises_at proof i))

  pub direct_added : map (λ (p : Bor (List ℕ)). p.now) premises ≡ map (clause_at proof) (premises_at proof i)
      → All (λ (p : Bor (List ℕ)). All (IsTerm s v) p.now) premises → ResolvesAt of i
      → AreMetWith s v premises (clause_at proof i) pivots → AreAddedFor s v proof i (direct proof i pivots ∷ [])
  direct_added is known resolves met zero a e = subst (IsAddedFor s v proof i []) (some_is (direct proof i pivots) a e) (record {
    rule = inl refl;
    links = links_are;
    clause = record { clause = clause_at of i; refer = refer; truths = resolves.clause };
    pivots =
        All-weaker (λ (p : ℕ × Bool). IsPivotOfSome s v premises p.0) (λ p. IsTerm s v p.0) (λ p h. pivots_known s v premises known p.0 h) pivots found;
    met = λ j stands.
        met j stands.mode stands.rule
        (over_borrowed s v premises (map (linked_clause proof []) (map link_to (premises_at proof i))) j.premises
        (is ∙ sym (linked proof (premises_at proof i))) stands.premises)
        stands.clause stands.pivots;
  })
    where
      some_is : (x y : AddedStep) → Some x ≡ Some y → x ≡ y
      some_is x y f = cc
  direct_added is known resolves met (suc k) a e = absurd (cc)

  pub direct_spelled : AreOne s v → AreNear s v (roots_at of i) (direct proof i pivots ∷ [])
  direct_spelled one zero a e t =
      subst (λ (x : AddedStep). All (λ r. RefersTo s v r t → IsNearTo (roots_at of i) t) x.clause
      × All (λ q. RefersTo s v q.0 t → IsNearTo (roots_at of i) t) x.pivots) (some_is (direct proof i pivots) a e) (
        All-weaker (Contains (clause_at proof i)) (λ r. RefersTo s v r t → IsNearTo (roots_at of i) t)
            (λ r h here. literals_near s v one (clause_at proof i) (premise_clauses of i) (clause_at of i) refer r h t here)
            (clause_at proof i) (All-contains_itself (clause_at proof i)),
        All-weaker (λ (p : ℕ × Bool). IsPivotOfSome s v premises p.0) (λ q. RefersTo s v q.0 t → IsNearTo (roots_at of i) t)
            (λ p h here. pivots_near s v one premises (premise_clauses of i) (clause_at of i) given p.0 h t here)
            pivots found,
      )
    where
      some_is : (x y : AddedStep) → Some x ≡ Some y → x ≡ y
      some_is x y f = cc
  direct_spelled one (suc k) a e t = absurd (cc)

-- what is put together is that step alone
pub is_direct : (proof : ProofItems ℕ ℕ) (i : ℕ) (pivots : List (ℕ × Bool)) (old steps : List AddedStep) (before literals clause seen : List ℕ)
    (links : List Link) → steps ≡ old ++ record { rule = Rule.Resolution; clause = literals; premises = links; pivots = pivots } ∷ [] → old ≡ []
    → literals ≡ before ++ clause → before ≡ [] → clause ≡ clause_at proof i → links ≡ map link_to seen → seen ≡ premises_at proof i
    → steps ≡ direct proof i pivots ∷ []
is_direct proof i pivots old steps before literals clause seen links e none l no_before c m p =
    e ∙ (ap (λ o. o ++ record { rule = Rule.Resolution; clause = literals; premises = links; pivots = pivots } ∷ []) none
    ∙ (ap (λ x. record { rule = Rule.Resolution; clause = x; premises = links; pivots = pivots } ∷ []) (l ∙ (ap (λ b. b ++ clause) no_before ∙ c))
    ∙ ap (λ x. record { rule = Rule.Resolution; clause = clause_at proof i; premises = x; pivots = pivots } ∷ []) (m ∙ ap (map link_to) p)))

pub direct_ends : (proof : ProofItems ℕ ℕ) (i : ℕ) (pivots : List (ℕ × Bool)) → EndsInClause (clause_at proof i) (direct proof i pivots ∷ [])
direct_ends proof i pivots = record { before = []; last = direct proof i pivots; is = refl; ends = refl }
