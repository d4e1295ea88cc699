-- The steps in the place of a command, from what its step over numbers and the plan say.
use Rattle.std.proofs.Common.{◌≡◌, inl, inr, ◌+◌, ◌<◌, ◌≤◌, ◌^◌, ℕ, zero, suc, List, [], ◌∷◌, ◌++◌, length, map, get_or, Option, Some}
use Rattle.std.proofs.Common.{None, IsSome, IfSome, IfNone, refl, sym, ◌∙◌, ap, subst, arith, All, Contains}
use Rattle.std.proofs.lemmas.List.{get_or-map, length-map}
use Rattle.std.proofs.lemmas.List.Elements.{All-head, All-tail, All-contains, Contains-append_cases, Contains-append_right}
use Rattle.std.specs.List.{flat_map}
use Rattle.sym_table.specs.Table.{Table}
use Rattle.term_model.specs.declared.symbols.Sort.{Sort}
use Rattle.term_model.specs.Sorts.{IsOf}
use Rattle.term_model.specs.Terms.{Var, Term}
use Rattle.term_model.proofs.Lists.{contains_cases, contains_head, contains_later, contains_none}
use Rattle.term_pool.specs.Views.{TermsView, ReferToAll}
use Rattle.term_pool.proofs.References.{AreOne}
use Rattle.proof_store.specs.AddedSteps.{AddedStep}
use Rattle.rule_model.specs.Conditions.{IsClauseOfTruths}
use Rattle.rule_model.specs.Proofs.{ProofItems}
use Rattle.rule_model.specs.Reading.{clause_at, premise_clauses, premises_at}
use Rattle.rule_model.specs.Resolution.{as_clause}
use Rattle.rules_resolution.specs.Shows.{Shows}
use Rattle.rules_resolution.specs.Trace.{Trace}
use Rattle.chain_plan.specs.Plans.{AreMet, EndsIn, HavePlannedRules, PlannedStep}
use Rattle.chain_plan.specs.Towers.{nots_in, nots_of, terms_of}
use Rattle.chain_plan.specs.Trails.{IsShown, literals_of}
use Rattle.clause_chain.specs.Chaining.{clauses_of}
use Rattle.clause_chain.specs.declared.signed_term.SignedTerm.{SignedTerm}
use Rattle.elab_resolution.specs.Adding.{AreAddedFor, AreNear, EndsInClause, ResolvesAt, nots_at_step, roots_at}
use Rattle.elab_resolution.specs.Levels.{falsity_term, numbered, truth_term}
use Rattle.elab_resolution.specs.Loaded.{added_for}
use Rattle.elab_resolution.specs.Plannable.{IsLoaded, IsPlannable}
use Rattle.elab_resolution.specs.Spellings.{IsNearTo, leading_nots_in, leading_nots_of, roots_of}
use Rattle.elab_resolution.specs.declared.loading.OverNumbers.{OverNumbers}
use Rattle.elab_resolution.proofs.AddLemmas.{all_added_for, all_spelled_by, ends_with, nots_in_clauses, nots_of_items, spelling_truth}

pub there_is : (o : Option Trace) (X : Type 0) → IfNone o X → (X → ⊥) → IsSome o
there_is None X h none = absurd (none h)
there_is (Some t) X h none = refl

pub shown_of : (o : Option Trace) (t : Trace) (P : Trace → Type 0) → o ≡ Some t → IfSome o P → P t
shown_of o t P e h = (subst (λ x. IfSome x P) e h)

literals_mapped : (T : ℕ → Term) (given : List (List SignedTerm)) → literals_of T given ≡ map as_clause (map (terms_of T) given)
literals_mapped T [] = refl
literals_mapped T (c ∷ given) = ap (λ cs. as_clause (terms_of T c) ∷ cs) (literals_mapped T given)

-- what a trail shows of the terms it shows of their numbers
shown_over : (T : ℕ → Term) (given : List (List SignedTerm)) (goal : List SignedTerm) (ps : List (List Term)) (ts : List Term) (trail : Trace)
    → map (terms_of T) given ≡ ps → terms_of T goal ≡ ts → Shows (map as_clause ps) (as_clause ts) trail → IsShown T given goal trail.units trail.last
shown_over T given goal ps ts trail given_is goal_is shows = go trail.last clauses
  where
    clauses : Shows (literals_of T given) (as_clause (terms_of T goal)) trail
    clauses =
        subst (λ cs. Shows cs (as_clause (terms_of T goal)) trail) (sym (literals_mapped T given ∙ ap (map as_clause) given_is))
        (subst (λ us. Shows (map as_clause ps) (as_clause us) trail) (sym goal_is) shows)

    go : (last : Option ℕ) → Shows (literals_of T given) (as_clause (terms_of T goal)) (record { units = trail.units; last = last })
        → IsShown T given goal trail.units last
    go None h = h.1
    go (Some j) h = h

pub plannable : (s : Table) (v : TermsView) (ps : List (List Term)) (ts : List Term) (clause : List ℕ) (l : OverNumbers) (trail : Trace)
    → IsLoaded s v ps ts clause l → length ps < 2 ^ 32 → Shows (map as_clause ps) (as_clause ts) trail → IsPlannable l trail
plannable s v ps ts clause l trail h short shows = record {
  towers = h.towers;
  few = h.few;
  short =
      let a = length-map l.given.items (λ c. c.items) in
      let b = length-map (clauses_of l.given.items) (terms_of (numbered h.terms)) in
      let e = ap length h.given in
      omega arith;
  literals = h.literals;
  goal_literals = h.goal_literals;
  follows = record {
    terms = numbered h.terms;
    named = h.named;
    shown = shown_over (numbered h.terms) (clauses_of l.given.items) l.goal.items ps ts trail h.given h.goal shows;
  };
}

-- what holds of all items and of the default holds at each place
all_or : (P : Term → Type 0) (ts : List Term) (d : Term) → All P ts → P d → (k : ℕ) → P (get_or ts k d)
all_or P [] d all h k = h
all_or P (t ∷ ts) d all h zero = All-head P t ts all
all_or P (t ∷ ts) d all h (suc k) = all_or P ts d (All-tail P t ts all) h k

truth_is_root : (ps : List (List Term)) (ts : List Term) → Contains (roots_of ps ts) truth_term
truth_is_root ps ts =
    Contains-append_right (flat_map (λ (c : List Term). c) ps) (ts ++ truth_term ∷ falsity_term ∷ []) truth_term
    (Contains-append_right ts (truth_term ∷ falsity_term ∷ []) truth_term (contains_head truth_term (falsity_term ∷ [])))

pub in_some : (ps : List (List Term)) (t : Term) → Contains (flat_map (λ (c : List Term). c) ps) t → (c : List Term) × Contains ps c × Contains c t
in_some [] t h = absurd (contains_none t h)
in_some (p ∷ ps) t h = elim (Contains-append_cases p (flat_map (λ (c : List Term). c) ps) t h) [
  | inl here ↦ (p, contains_head p ps, here)
  | inr later ↦ let rest = in_some ps t later in (rest.0, contains_later p rest.0 ps rest.1, rest.2)
]

constant_truth : (t : Term) → Contains (truth_term ∷ falsity_term ∷ []) t → IsOf t Sort.Bool
constant_truth t h = elim (contains_cases truth_term t (falsity_term ∷ []) h) [
  | inl yes_is ↦ subst (λ u. IsOf u Sort.Bool) yes_is (record { sorts = []; arguments = tt; is = refl })
  | inr later ↦ elim (contains_cases falsity_term t [] later) [
    | inl no_is ↦ subst (λ u. IsOf u Sort.Bool) no_is (record { sorts = []; arguments = tt; is = refl })
    | inr none ↦ absurd (contains_none t none)
  ]
]

roots_truths : (ps : List (List Term)) (ts : List Term) → All IsClauseOfTruths ps → IsClauseOfTruths ts → (t : Term) → Contains (roots_of ps ts) t
    → IsOf t Sort.Bool
roots_truths ps ts given goal t h =
    elim (Contains-append_cases (flat_map (λ (c : List Term). c) ps) (ts ++ truth_term ∷ falsity_term ∷ []) t h) [
      | inl premise ↦
          let c = in_some ps t premise in
          All-contains (λ u. IsOf u Sort.Bool) c.0 t (All-contains IsClauseOfTruths ps c.0 given c.1) c.2
      | inr other ↦ elim (Contains-append_cases ts (truth_term ∷ falsity_term ∷ []) t other) [
        | inl literal ↦ All-contains (λ u. IsOf u Sort.Bool) ts t goal literal
        | inr constant ↦ constant_truth t constant
      ]
    ]

module _ (s : Table) (v : TermsView) (one : AreOne s v) (proof : ProofItems ℕ ℕ) (of : ProofItems Var Term) (i : ℕ)
    (clauses : (m : ℕ) → ReferToAll s v (clause_at proof m) (clause_at of m)) (premises : premises_at proof i ≡ premises_at of i)
    (l : OverNumbers) (clause : List ℕ) (h : IsLoaded s v (premise_clauses of i) (clause_at of i) clause l) where
  abbrev given : List (List SignedTerm)
  given = clauses_of l.given.items

  abbrev T : ℕ → Term
  T = numbered h.terms

  same_many : length given ≡ length (premises_at proof i)
  same_many =
      let a = length-map given (terms_of T) in
      let b = length-map (premises_at of i) (clause_at of) in
      let e = ap length h.given in
      let f = ap length premises in
      omega arith

  given_refer : (j : ℕ) → j < length given → ReferToAll s v (clause_at proof (get_or (premises_at proof i) j 0)) (terms_of T (get_or given j []))
  given_refer j below =
      subst (ReferToAll s v (clause_at proof (get_or (premises_at proof i) j 0))) (sym is) (clauses (get_or (premises_at proof i) j 0))
    where
      within : j < length (premises_at of i)
      within = let m = same_many in let f = ap length premises in omega arith

      is : terms_of T (get_or given j []) ≡ clause_at of (get_or (premises_at proof i) j 0)
      is =
          sym (get_or-map (terms_of T) given j [] [] below)
          ∙ (ap (λ cs. get_or cs j []) h.given
          ∙ (get_or-map (clause_at of) (premises_at of i) j 0 [] within ∙ ap (λ ms. clause_at of (get_or ms j 0)) (sym premises)))

  spelled : (k : ℕ) → IsNearTo (roots_at of i) (T k)
  spelled =
      all_or (IsNearTo (roots_at of i)) h.terms truth_term h.spelled
      (record { root = truth_term; is = truth_is_root (premise_clauses of i) (clause_at of i); nots = 3; same = refl })

  truths : ResolvesAt of i → (k : ℕ) → IsOf (T k) Sort.Bool
  truths resolves k =
      spelling_truth (roots_at of i) (roots_truths (premise_clauses of i) (clause_at of i) resolves.premises resolves.clause) (T k) (spelled k)

  -- the added steps for those of a plan
  module _ (steps : List PlannedStep) (added : List AddedStep) (is : added ≡ map (added_for l.refs.items l.truth (premises_at proof i)) steps) where
    pub are_added : ResolvesAt of i → HavePlannedRules steps → AreMet T given steps → AreAddedFor s v proof i added
    are_added resolves rules met =
        subst (AreAddedFor s v proof i) (sym is)
        (all_added_for s v l.refs.items h.terms l.truth h.refer h.truth proof i given given_refer same_many one (truths resolves) steps rules met)

    pub are_spelled : AreNear s v (roots_at of i) added
    are_spelled =
        subst (AreNear s v (roots_at of i)) (sym is)
        (all_spelled_by s v l.refs.items h.terms l.truth h.refer h.truth proof i given given_refer same_many one (roots_at of i) spelled steps)

    pub end_added : clause ≡ clause_at proof i → EndsIn l.goal.items steps → EndsInClause (clause_at proof i) added
    end_added same ends =
        subst (EndsInClause (clause_at proof i)) (sym is)
        (ends_with s v l.refs.items h.terms l.truth h.refer h.truth proof i given given_refer same_many l.goal.items steps (clause_at proof i)
        (h.clause_is ∙ same) ends)

    pub few_added : length steps ≤ nots_in l.spellings given + nots_of l.spellings l.goal.items + 4 → length added ≤ nots_at_step of i + 4
    few_added few =
        let a = nots_in_clauses l.spellings T h.nots l.given.items h.literals ∙ ap leading_nots_in h.given in
        let b = nots_of_items l.spellings T h.nots l.goal.items h.goal_literals ∙ ap leading_nots_of h.goal in
        let c = ap length is ∙ length-map steps (added_for l.refs.items l.truth (premises_at proof i)) in
        omega arith
