-- What was read so far, and what is left.
use Rattle.std.proofs.Common.{◌≡◌, ◌-◌}
use Rattle.text_items.specs.ItemsAt.{items_at}
use Rattle.problem_text.specs.Sorts.{sorts_from}
use Rattle.smtlib_reader.proofs.ReadLists.{behind_read}
use Rattle.smtlib_reader.proofs.sorts_at.sorts_at.Given as goal

abbrev pub invariant-sorts : goal.invariant-sorts
invariant-sorts l = sorts_from l.symbols.sorts (items_at l.items l.first l.end) ≡ behind_read l.out.items (sorts_from l.symbols.sorts (items_at l.items l.k l.end))

abbrev pub decreases-sorts : goal.decreases-sorts
decreases-sorts l = l.end - l.k
