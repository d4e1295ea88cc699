use Rattle.std.proofs.Common.{sym, ◌∙◌}
use Rattle.alethe_commands.proofs.ItemsApart.{no_fault}
use Rattle.alethe_commands.proofs.items.enter_list.Goals as goal

pub unreachable-requires : goal.unreachable-requires
unreachable-requires c = let (items, h) = c.requires in no_fault _ _ _ items _ _ (sym c.next.ensures.exact ∙ c.in_default.is) h
