use Rattle.std.proofs.Common.{◌<◌, arith, sym}
use Rattle.step_claimer.proofs.Seating.{draws_next, draws_live}
use Rattle.step_claimer.proofs.claimer.draw.Goals as goal

pub fetch_add-requires : goal.fetch_add-requires
fetch_add-requires c =
    let some' : 0 < c.args.word.now.table_id.words = let w = c.requires.table.1 in omega arith in
    (c.requires.table.0, some', draws_next _ _ _ _ c.requires.live.some (sym c.requires.count) c.requires.goes_on)

pub returns-clause-live : goal.returns-clause-live
returns-clause-live c = draws_live c.args.seat.now _ _ c.requires.live c.fetch_add.ensures.2
