-- Public. What the check of a rule speaks of: a proof over references that stands for one over terms, and a step of it.
use Rattle.std.specs.Prelude.{ℕ}
use Rattle.sym_table.specs.Table.{Table}
use Rattle.term_model.specs.Interpretations.{Interpretation}
use Rattle.term_model.specs.Meaning.{Valuation}
use Rattle.term_model.specs.Terms.{Var, Term}
use Rattle.term_pool.specs.Views.{TermsView}
use Rattle.rule_model.specs.declared.rules.Mode.{Mode}
use Rattle.rule_model.specs.Conditions.{IsWellSortedStep, KeepsTruth}
use Rattle.rule_model.specs.Judged.{judged_at}
use Rattle.rule_model.specs.Proofs.{ProofItems}
use Rattle.proof_store.specs.Meaning.{StandForItems}

-- the references stand for some proof over terms
pub record StandForSome (s : Table) (v : TermsView) (refs : ProofItems ℕ ℕ) : Type 0 where
  pub proof : ProofItems Var Term
  pub stand : StandForItems s v refs proof

-- Under every interpretation, and values of variables of their sorts, that make the premises' clauses true, its clause is
-- true. The literals are terms of Bool.
abbrev pub KeepsTruthAt : Mode → ProofItems Var Term → ℕ → Type 0
KeepsTruthAt mode proof i =
    (I : Interpretation) (r : Valuation) → IsWellSortedStep r (judged_at mode proof i) →
    KeepsTruth I r (judged_at mode proof i)
