-- So many of the variables are in scope still.
use Rattle.std.proofs.Common.{◌≡◌, ◌≤◌, length}
use Rattle.sym_table.specs.Table.{Table}
use Rattle.term_model.specs.Terms.{Var, Term}
use Rattle.term_pool.specs.Views.{TermsView}
use Rattle.rule_model.specs.Proofs.{ProofItems}
use Rattle.rule_model.specs.Scopes.{Anchor, Nesting, inside}
use Rattle.problem_text.specs.Scripts.{Script}
use Rattle.term_reader.specs.ProblemViews.{IsReaderOf}
use Rattle.alethe_text.specs.ProofTerms.{place_in}
use Rattle.alethe_text.specs.States.{ProofSettings}
use Rattle.alethe_reader.proofs.ScopeReading.{place_with}
use Rattle.alethe_reader.proofs.scopes.leave_variables.Given as goal

abbrev pub invariant-variables : goal.invariant-variables
invariant-variables l = record {
  fewer : l.left ≤ l.count;
  scope : (s : Table) (v : TermsView) (sc : Script) (settings : ProofSettings) (around : Nesting Var Term) (before : ProofItems Var Term) (anchor : Anchor Var Term) → l.count ≡ length anchor.bindings → IsReaderOf s v l.fn.reader sc (place_in settings (inside around before anchor))
      → IsReaderOf s v l.reader sc (place_with settings around anchor l.left);
}

abbrev pub decreases-variables : goal.decreases-variables
decreases-variables l = l.left
