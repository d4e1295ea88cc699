-- Public. When the terms of a proof are well sorted, by their references.
use Rattle.std.specs.Prelude.{ℕ, List, All}
use Rattle.sym_table.specs.Table.{Table}
use Rattle.rule_model.specs.Proofs.{ProofItems}
use Rattle.rule_model.specs.Reading.{clause_at, bindings_at}
use Rattle.sort_check.specs.WellSorted.{IsWellSortedTerm}
use Rattle.term_pool.specs.Views.{TermsView}

-- what variables are given is well sorted
abbrev pub AreValuesSorted : Table → TermsView → List (ℕ × ℕ) → Type 0
AreValuesSorted s v bindings = All (λ b. IsWellSortedTerm s v b.1) bindings

-- so are all literals of the proof, and what its anchors bind
pub record AreTermsSorted (s : Table) (v : TermsView) (proof : ProofItems ℕ ℕ) : Type 0 where
  pub clauses : (i : ℕ) → All (IsWellSortedTerm s v) (clause_at proof i)
  pub bindings : (k : ℕ) → AreValuesSorted s v (bindings_at proof k)
