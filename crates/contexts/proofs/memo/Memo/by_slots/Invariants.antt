use Rattle.contexts.specs.Remembering.{IsCopy}
use Rattle.contexts.proofs.memo.Memo.by_slots.Given as goal

abbrev pub invariant-met : goal.invariant-met
invariant-met l = IsCopy l.self l.slots.items
