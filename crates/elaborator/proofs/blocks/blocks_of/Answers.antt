use Rattle.elaborator.proofs.BlockLists.{pieces_next}
use Rattle.elaborator.proofs.blocks.blocks_of.Goals as goal

pub pieces-preserved : goal.pieces-preserved
pieces-preserved c =
    pieces_next _ _ _ _ _ _ c.pieces-test.true c.piece-item.is c.pieces.invariant c.in_ok-add_piece.ensures c.deref.ensures.value
