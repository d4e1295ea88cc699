use Rattle.std.proofs.Common.{replicate, sym, subst}
use Rattle.contexts.specs.Remembering.{IsCopy}
use Rattle.contexts.proofs.SlotLemmas.{copy_start}
use Rattle.contexts.proofs.memo.Memo.by_slots.Goals as goal

pub met-init : goal.met-init
met-init c =
    subst (IsCopy c.args.self.now) (sym (c.in_ok-slots.ensures.items_if_clones_equal (λ y same. same)))
    (subst (λ r. IsCopy c.args.self.now (replicate c.args.size r)) (sym c.leaf.ensures.number) (copy_start c.args.self.now c.args.size))
