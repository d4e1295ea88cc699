use Rattle.std.proofs.Common.{◌<◌, ◌^◌, arith}
use Rattle.pair_pool.proofs.StateLemmas.{only_state_good}
use Rattle.pair_pool.proofs.HeldLemmas.{held_words, own_part, own_found, own_low, own_no_room, seat_found, seat_no_room}
use Rattle.pair_pool.proofs.hold.place_in.Goals as goal

pub insert-requires-clause-first : goal.insert-requires-clause-first
insert-requires-clause-first c = own_part _ (held_words _ _ c.in-Words.is c.requires.held) c.args.first (rw c.in-Words.is at c.requires.parts.0)

pub insert-requires-clause-second : goal.insert-requires-clause-second
insert-requires-clause-second c = own_part _ (held_words _ _ c.in-Words.is c.requires.held) c.args.second (rw c.in-Words.is at c.requires.parts.1)

pub returns-in-Ok-clause-held : goal.returns-in-Ok-clause-held
returns-in-Ok-clause-held c = only_state_good _ c.insert.ensures.table

pub returns-in-Ok-clause-found : goal.returns-in-Ok-clause-found
returns-in-Ok-clause-found c =
    let is = c.in-Ok.ensures in
    rw c.in-Words.is (
      own_low _ _ c.args.first c.args.second c.in-Ok.number is.table is.adds,
      own_found _ _ c.args.first c.args.second c.in-Ok.number (held_words _ _ c.in-Words.is c.requires.held) is.table is.length is.adds is.was_there,
    )

pub returns-in-Err-clause-full : goal.returns-in-Err-clause-full
returns-in-Err-clause-full c =
    rw c.in-Words.is (own_no_room _ _ c.args.first c.args.second (held_words _ _ c.in-Words.is c.requires.held) c.in-Err.ensures.kept c.in-Err.ensures.full)

pub returns-in_default-place_of-clause-full : goal.returns-in_default-place_of-clause-full
returns-in_default-place_of-clause-full c = rw c.in-Seat.is (seat_no_room _ _ _ _ c.place_of.ensures.live.good c.in_default-place_of.ensures.full)

pub returns-in-Some-place_of-clause-found : goal.returns-in-Some-place_of-clause-found
returns-in-Some-place_of-clause-found c =
    let low : c.in-Some-place_of.place < 2 ^ 26 = c.in-Some-place_of.ensures.found.0 in
    rw c.in-Seat.is (omega arith, seat_found _ _ _ _ _ c.in-Some-place_of.ensures.found.1)
