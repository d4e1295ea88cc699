-- Public. That the text of a question is read as the problem that it is to be.
use Rattle.std.specs.Prelude.{◌≡◌, ℕ, false, List}
use Rattle.term_model.specs.Terms.{Var, Term}
use Rattle.rule_model.specs.Proofs.{ProofItems}
use Rattle.problem_text.specs.Problems.{StandsForProblem}
use Rattle.problem_text.specs.Scripts.{Script}
use Rattle.hole_fillers.specs.Questions.{asserted_at, question_terms, HasFewNames}

-- The question about a step of a proof has few names, and its text stands for no script but one whose assertions are its terms.
pub record IsReadBack (proof : ProofItems Var Term) (i : ℕ) (text : List ℕ) : Type 0 where
  pub few : HasFewNames (asserted_at proof i)
  pub terms : (script : Script) → StandsForProblem text false script → script.assertions ≡ question_terms (asserted_at proof i)
