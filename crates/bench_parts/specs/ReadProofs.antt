-- Private. What was read of the two texts of a proof that is printed.
use Rattle.std.specs.Prelude.{ℕ, Bool, List}
use Rattle.sym_table.specs.Table.{Table}
use Rattle.term_pool.specs.Views.{TermsView}
use Rattle.rule_model.specs.Proofs.{ProofItems}
use Rattle.problem_text.specs.Problems.{StandsForProblem}
use Rattle.problem_text.specs.Scripts.{Script}
use Rattle.alethe_text.specs.States.{ProofSettings}
use Rattle.term_reader.specs.ProblemViews.{ProblemView, IsProblemOf}
use Rattle.alethe_reader.specs.Reading.{IsProofOf}

-- the problem was read from some text
pub record IsReadProblem (s : Table) (v : TermsView) (p : ProblemView) : Type 0 where
  pub text : List ℕ
  pub replaces : Bool
  pub script : Script
  pub stands : StandsForProblem text replaces script
  pub is : IsProblemOf s v p script

-- and a proof from one behind it
pub record IsReadProof (s : Table) (v : TermsView) (p : ProblemView) (refs : ProofItems ℕ ℕ) : Type 0 where
  pub problem : IsReadProblem s v p
  pub text : List ℕ
  pub settings : ProofSettings
  pub read : IsProofOf text settings problem.script s v refs
