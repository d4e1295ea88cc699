use Rattle.std.proofs.Common.{take}
use Rattle.clause_chain.specs.Adding.{AddsOthers}
use Rattle.clause_chain.proofs.pairs.add_others.Given as goal

abbrev pub invariant-items : goal.invariant-items
invariant-items l = AddsOthers l.but l.fn.list.items (take l.item-index l.items) l.list.items
