-- Public. What the calls ask of premises, and the steps for which references and pivots stand.
use Rattle.std.specs.Prelude.{◌<◌, ◌^◌, ℕ, Bool, List, length, All}
use Rattle.std.specs.Borrow.{Bor}
use Rattle.std.specs.List.{AllZip}
use Rattle.sym_table.specs.Table.{Table}
use Rattle.term_parts.specs.Judging.{StandsForStep}
use Rattle.term_parts.specs.declared.steps.Step.{Step}
use Rattle.term_pool.specs.Views.{TermsView}
use Rattle.proof_store.specs.Meaning.{IsPivotOf}
use Rattle.rule_model.specs.Judged.{Judged}
use Rattle.rule_model.specs.Proofs.{ProofItems}
use Rattle.rule_model.specs.Reading.{clause_at, premises_at}

-- there are fewer than 2^32 premises, of fewer than 2^32 literals each
pub record AreShort (premises : List (Bor (List ℕ))) : Type 0 where
  pub few : length premises < 2 ^ 32
  pub short : All (λ p. length p.now < 2 ^ 32) premises

-- no clause and no list of premises of a proof has 2^32 items
pub record IsShort {V T : Type 0} (proof : ProofItems V T) : Type 0 where
  pub clauses : (i : ℕ) → length (clause_at proof i) < 2 ^ 32
  pub premises : (i : ℕ) → length (premises_at proof i) < 2 ^ 32

-- the references stand for those of the step, and the pivots for its pivots
pub record StandsWithPivots (s : Table) (v : TermsView) (given : Step) (taken : List (ℕ × Bool)) (j : Judged) : Type 0 where
  pub step : StandsForStep s v given j
  pub pivots : AllZip (IsPivotOf s v) taken j.pivots
