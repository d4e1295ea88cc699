use Rattle.std.proofs.Common.{take, false}
use Rattle.std.proofs.lemmas.List.{take_more}
use Rattle.clause_chain.proofs.Joining.{firsts_more}
use Rattle.clause_chain.proofs.Keys.{of}
use Rattle.clause_chain.proofs.chain.add_all.Goals as goal

pub items-preserved : goal.items-preserved
items-preserved c =
    rw (take_more c.args.items.now c.items.item-index (of 0 false) c.items-test.true)
    (firsts_more (take c.items.item-index c.args.items.now) c.items.chain _ c.add.new.self c.items.invariant c.in_ok-add.ensures)
