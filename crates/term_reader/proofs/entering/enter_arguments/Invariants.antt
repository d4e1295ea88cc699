use Rattle.std.proofs.Common.{◌-◌, length}
use Rattle.term_reader.proofs.EnteringArguments.{HasArguments}
use Rattle.term_reader.proofs.entering.enter_arguments.Given as goal

abbrev pub invariant-arguments : goal.invariant-arguments
invariant-arguments l = HasArguments l.fn.items l.fn.settings l.fn.form l.fn.symbols l.fn.terms l.fn.reader l.fn.k l.terms l.reader l.at

abbrev pub decreases-arguments : goal.decreases-arguments
decreases-arguments l = length l.fn.items.nodes - l.at
