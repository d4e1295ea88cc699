use Rattle.std.proofs.Common.{◌<◌, arith}
use Rattle.step_claimer.proofs.Seating.{splits, splits_live}
use Rattle.step_claimer.proofs.claimer.split_off.Goals as goal

pub split_seat-requires : goal.split_seat-requires
split_seat-requires c =
    let some' : 0 < c.args.word.now.table_id.words = let w = c.requires.table.1 in omega arith in
    (c.requires.table.0, some', splits _ _ _ c.requires.shares)

pub returns-clause-live : goal.returns-clause-live
returns-clause-live c = splits_live c.args.seat.now c.requires.live c.requires.shares _ _ c.split_seat.ensures.2 c.split_seat.ensures.4
