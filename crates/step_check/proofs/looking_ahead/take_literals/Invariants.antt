use Rattle.std.specs.List.{AllByRecursion}
use Rattle.proof_store.specs.Checks.{StandForSome}
use Rattle.sym_table.specs.Table.{Table}
use Rattle.term_pool.specs.Views.{TermsView, IsTerm}
use Rattle.step_check.proofs.looking_ahead.take_literals.Given as goal

abbrev pub invariant-commands : goal.invariant-commands
invariant-commands l = (s : Table) (v : TermsView) → StandForSome s v l.proof → AllByRecursion (IsTerm s v) l.cells.items
