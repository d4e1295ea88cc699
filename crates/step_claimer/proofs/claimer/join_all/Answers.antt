use Rattle.std.proofs.Common.{◌∙◌, ap, ◌<◌, arith, sym}
use Rattle.step_claimer.proofs.Seating.{joins, looks_at}
use Rattle.step_claimer.proofs.claimer.join_all.Goals as goal

pub join_seat-requires : goal.join_seat-requires
join_seat-requires g c =
    let some' : 0 < c.args.word.now.table_id.words = let w = c.requires.table.2 in omega arith in
    (c.requires.table.0, c.requires.table.1, c.requires.live.1.slots, some', joins _ _ _ _ _ _ c.requires.live.0.some c.requires.extent)

pub load-requires : goal.load-requires
load-requires g c =
    let some' : 0 < c.args.word.now.table_id.words = let w = c.requires.table.2 in omega arith in
    let share : 0 < c.args.seat.now.me.0.shares = c.requires.live.0.some in
    let e = ap (λ me. me.0.shares) c.join_seat.ensures.2 in
    let count = ap (λ me. me.0.count) c.join_seat.ensures.2 ∙ sym c.requires.count in
    (c.join_seat.ensures.0 ∙ c.requires.table.0, some', looks_at _ _ _ _ (omega arith) count)
