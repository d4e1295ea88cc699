use Rattle.std.proofs.Common.{◌≡◌, true, false, get_or, arith}
use Rattle.rules_resolution.specs.declared.occurrence.Occurrence.{Occurrence}
use Rattle.rules_resolution.specs.Occurrence.{is_of}
use Rattle.rules_resolution.proofs.Closing.{closes_start, closes_end, closes_more, room_left, advances_none, advances_more}
use Rattle.rules_resolution.proofs.Ranks.{not_of-after, rank_from-leader}
use Rattle.rules_resolution.proofs.close.close_all.Goals as goal

abbrev none : Occurrence
none = record { atom = 0; negative = false; premise = 0; place = 0 }

pub loop-at-init : goal.loop-at-init
loop-at-init c = (
  closes_start c.args.atom c.args.negative c.args.table.now c.args.first c.args.standings.now.items c.requires.first,
  advances_none _ _,
  omega arith,
  (let w = c.requires.first.within in omega arith),
)

pub close-requires-clause-open : goal.close-requires-clause-open
close-requires-clause-open c =
    let is : is_of c.args.atom c.args.negative (get_or c.args.table.now c.loop-at.at none) ≡ true = cc in
    (room_left _ _ c.args.table.now c.loop-at.at none _ _ c.requires.room c.loop-at.invariant.0 c.loop-at-test.true is
    (c.requires.range c.loop-at.at none c.loop-at-test.true)).0

pub close-requires-clause-places : goal.close-requires-clause-places
close-requires-clause-places c =
    let is : is_of c.args.atom c.args.negative (get_or c.args.table.now c.loop-at.at none) ≡ true = cc in
    (room_left _ _ c.args.table.now c.loop-at.at none _ _ c.requires.room c.loop-at.invariant.0 c.loop-at-test.true is
    (c.requires.range c.loop-at.at none c.loop-at-test.true)).1

pub loop-at-preserved : goal.loop-at-preserved
loop-at-preserved c =
    let is : is_of c.args.atom c.args.negative (get_or c.args.table.now c.loop-at.at none) ≡ true = cc in
    let range = c.requires.range c.loop-at.at none c.loop-at-test.true in
    let room = room_left _ _ c.args.table.now c.loop-at.at none _ _ c.requires.room c.loop-at.invariant.0 c.loop-at-test.true is range in
    let few = room.0 in
    rw (c.in_ok-close.ensures.standing, c.in_ok-close.ensures.ready) (
      closes_more _ _ c.args.table.now c.loop-at.at none _ _ c.loop-at.invariant.0 c.loop-at.invariant.1.size c.loop-at-test.true is range room.0 room.1,
      advances_more _ _ _ _ _ _ c.loop-at.invariant.1 range (omega arith),
      omega arith,
      omega arith,
    )

pub returns-else-is_of-clause-closes : goal.returns-else-is_of-clause-closes
returns-else-is_of-clause-closes c =
    let isnt : is_of c.args.atom c.args.negative (get_or c.args.table.now c.loop-at.at none) ≡ false = cc in
    closes_end _ _ c.args.table.now c.loop-at.at _ _
    (not_of-after c.args.atom c.args.negative c.args.table.now c.loop-at.at none c.requires.rising
    (λ k d h. (let r = c.requires.range k d h in let s = c.requires.small in omega arith)) c.loop-at-test.true
    (rank_from-leader c.args.atom c.args.negative c.args.table.now c.args.first c.loop-at.at none c.requires.rising c.requires.first c.loop-at.invariant.2 c.loop-at-test.true) isnt)
    c.loop-at.invariant.0
