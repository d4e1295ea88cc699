-- The first of the variables are in scope.
use Rattle.std.proofs.Common.{◌-◌, length, List}
use Rattle.std.specs.List.{AllZip}
use Rattle.sym_table.specs.Table.{Table}
use Rattle.term_model.specs.Terms.{Var, Term}
use Rattle.term_pool.specs.Views.{TermsView}
use Rattle.term_pool.specs.Bindings.{IsBindingOf}
use Rattle.problem_text.specs.Names.{Place}
use Rattle.problem_text.specs.Scripts.{Script}
use Rattle.term_reader.specs.ProblemViews.{IsReaderOf}
use Rattle.alethe_reader.specs.Opening.{entered}
use Rattle.alethe_reader.proofs.scopes.enter_variables.Given as goal

abbrev pub invariant-variables : goal.invariant-variables
invariant-variables l =
    (s : Table) (v : TermsView) (sc : Script) (p : Place) (bs : List (Var × Term)) → AllZip (IsBindingOf s v) l.opened bs → IsReaderOf s v l.fn.reader sc p → IsReaderOf s v l.reader sc (record p { scope = entered l.k bs p.scope })

abbrev pub decreases-variables : goal.decreases-variables
decreases-variables l = length l.opened - l.k
