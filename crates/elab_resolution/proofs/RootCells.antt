-- Private. The literals of a step are known, and how many they are with the constants.
use Rattle.std.proofs.Common.{inl, inr, ◌+◌, ◌*◌, ◌≤◌, ◌<◌, ◌^◌, ℕ, List, [], ◌∷◌, ◌++◌, length, map, refl, subst, arith, Contains}
use Rattle.std.proofs.lemmas.List.{length-append}
use Rattle.std.proofs.lemmas.List.Concat.{length-flat_map}
use Rattle.std.proofs.lemmas.List.Elements.{Contains-append_cases}
use Rattle.std.specs.List.{flat_map}
use Rattle.pair_pool.specs.Trees.{leaf}
use Rattle.pair_pool.specs.Views.{Knows, PassView}
use Rattle.sym_table.specs.Table.{Table, IsTable}
use Rattle.term_model.specs.Terms.{Var, Term}
use Rattle.term_model.proofs.Lists.{contains_cases, contains_none}
use Rattle.term_pool.specs.Views.{TermsView, RefersTo, ReferToAll}
use Rattle.rule_model.specs.Proofs.{ProofItems}
use Rattle.rule_model.specs.Reading.{clause_at, premise_clauses, premises_at}
use Rattle.elab_resolution.specs.Adding.{literals_at_step, nots_at_step, roots_at}
use Rattle.elab_resolution.specs.Levels.{falsity_term, truth_term}
use Rattle.elab_resolution.specs.Placed.{PlacesAtMost}
use Rattle.elab_resolution.proofs.StepLemmas.{in_some}

leaf_known : (pass : PassView) (k : ℕ) → k < 2 ^ 30 → Knows pass k (leaf k)
unfolding Knows
leaf_known pass k low = (refl, low)

module _ (s : Table) (v : TermsView) where
  -- a term has a reference
  abbrev pub IsReferred : Term → Type 0
  IsReferred t = (r : ℕ) × RefersTo s v r t

  clause_known : (rs : List ℕ) (ts : List Term) (t : Term) → ReferToAll s v rs ts → Contains ts t → IsReferred t
  clause_known rs [] t refer there = absurd (contains_none t there)
  clause_known [] (u ∷ ts) t refer there = absurd refer
  clause_known (r ∷ rs) (u ∷ ts) t refer there = elim (contains_cases u t ts there) [
    | inl same ↦ (r, subst (RefersTo s v r) same refer.0)
    | inr later ↦ clause_known rs ts t refer.1 later
  ]

  premise_known : (proof : ProofItems ℕ ℕ) (of : ProofItems Var Term) → ((m : ℕ) → ReferToAll s v (clause_at proof m) (clause_at of m)) → (ms : List ℕ)
      (c : List Term) (t : Term) → Contains (map (clause_at of) ms) c → Contains c t → IsReferred t
  premise_known proof of clauses [] c t there inside = absurd (contains_none c there)
  premise_known proof of clauses (m ∷ ms) c t there inside = elim (contains_cases (clause_at of m) c (map (clause_at of) ms) there) [
    | inl same ↦ clause_known (clause_at proof m) c t (subst (ReferToAll s v (clause_at proof m)) same (clauses m)) inside
    | inr later ↦ premise_known proof of clauses ms c t later inside
  ]

  -- `true` and `false` are leaves 2 and 3 in every table
  constant_known : IsTable s → (t : Term) → Contains (truth_term ∷ falsity_term ∷ []) t → IsReferred t
  constant_known table t there = elim (contains_cases truth_term t (falsity_term ∷ []) there) [
    | inl same ↦ subst IsReferred same (2, record { tree = leaf 2; known = leaf_known v.pass 2 (omega arith); stands = table.begins 2 _ refl })
    | inr later ↦ elim (contains_cases falsity_term t [] later) [
      | inl same ↦ subst IsReferred same (3, record { tree = leaf 3; known = leaf_known v.pass 3 (omega arith); stands = table.begins 3 _ refl })
      | inr none ↦ absurd (contains_none t none)
    ]
  ]

  pub roots_known : IsTable s → (proof : ProofItems ℕ ℕ) (of : ProofItems Var Term) (i : ℕ)
      → ((m : ℕ) → ReferToAll s v (clause_at proof m) (clause_at of m)) → (t : Term) → Contains (roots_at of i) t → IsReferred t
  roots_known table proof of i clauses t there =
      elim (Contains-append_cases (flat_map (λ (c : List Term). c) (premise_clauses of i)) (clause_at of i ++ truth_term ∷ falsity_term ∷ []) t there) [
        | inl premise ↦
            let c = in_some (premise_clauses of i) t premise in
            premise_known proof of clauses (premises_at of i) c.0 t c.1 c.2
        | inr other ↦ elim (Contains-append_cases (clause_at of i) (truth_term ∷ falsity_term ∷ []) t other) [
          | inl literal ↦ clause_known (clause_at proof i) (clause_at of i) t (clauses i) literal
          | inr constant ↦ constant_known table t constant
        ]
      ]

-- six cells for each are few
pub few_roots : (of : ProofItems Var Term) (i : ℕ) → 6 * length (roots_at of i) ≤ 64 * (nots_at_step of i + literals_at_step of i + 1)
few_roots of i =
    let premises = premise_clauses of i in
    let goal = clause_at of i in
    let a = length-append (flat_map (λ (c : List Term). c) premises) (goal ++ truth_term ∷ falsity_term ∷ []) in
    let b = length-append goal (truth_term ∷ falsity_term ∷ []) in
    let c = length-flat_map (λ (c : List Term). c) premises in
    omega arith

pub places_more : (old new : PassView) (m n : ℕ) → m ≤ n → PlacesAtMost old new m → PlacesAtMost old new n
places_more old new m n more few cells apart each = let h = few cells apart each in omega arith
