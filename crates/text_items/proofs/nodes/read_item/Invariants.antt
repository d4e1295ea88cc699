use Rattle.std.proofs.Common.{length, ◌-◌}
use Rattle.sexpr.specs.Source.{source, position}
use Rattle.text_items.proofs.ItemsRead.{IsReadSoFar}
use Rattle.text_items.proofs.nodes.read_item.Given as goal

abbrev pub invariant-loop-inner : goal.invariant-loop-inner
invariant-loop-inner l = IsReadSoFar l.fn.lexer l.fn.first l.reading l.nodes.items l.inner

abbrev pub decreases-loop-inner : goal.decreases-loop-inner
decreases-loop-inner l = length (source l.reading) - position l.reading
