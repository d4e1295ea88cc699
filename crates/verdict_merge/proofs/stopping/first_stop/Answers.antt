use Rattle.std.proofs.Common.{arith}
use Rattle.verdict_merge.proofs.Joining.{piece_within, stop_of_piece}
use Rattle.verdict_merge.proofs.stopping.first_stop.Goals as goal

pub stop_in-stop-requires : goal.stop_in-stop-requires
stop_in-stop-requires c =
    let within = piece_within _ _ _ c.pieces-test.true c.piece-item.is in
    let n = c.pieces.invariant.0 in
    let r = c.requires in rw c.deref.ensures.value (omega arith)

pub returns-then-is_some-clause-stops : goal.returns-then-is_some-clause-stops
returns-then-is_some-clause-stops c =
    stop_of_piece _ _ _ _ _ c.pieces-test.true c.piece-item.is c.pieces.invariant.0 c.pieces.invariant.1
    (rw c.deref.ensures.value at c.stop_in-stop.ensures.stops)

pub overflow_cast-first : goal.overflow_cast-first
overflow_cast-first c =
    let within = piece_within _ _ _ c.pieces-test.true c.piece-item.is in
    let n = c.pieces.invariant.0 in
    let r = c.requires in
    let e = c.len.ensures in omega arith

pub overflow_add-first : goal.overflow_add-first
overflow_add-first c =
    let within = piece_within _ _ _ c.pieces-test.true c.piece-item.is in
    let n = c.pieces.invariant.0 in
    let r = c.requires in
    let e = c.len.ensures in omega arith
