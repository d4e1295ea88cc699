use Rattle.pair_pool.specs.Views.{IsKnown}
use Rattle.step_check.proofs.AheadLemmas.{all_at}
use Rattle.step_check.proofs.looking_ahead.take_parts.Goals as goal

pub add_parts-requires-clause-cell : goal.add_parts-requires-clause-cell
add_parts-requires-clause-cell c =
    rw c.cells.invariant.0
    (all_at (IsKnown c.args.terms.now.pass) c.args.cells.now c.cells.r-index c.r-item.result c.requires c.cells-test.true c.r-item.is)
