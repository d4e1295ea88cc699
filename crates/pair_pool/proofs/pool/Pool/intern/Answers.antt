use Rattle.std.proofs.Common.{◌∙◌, sym}
use Rattle.pair_pool.specs.Views.{IsPassOf}
use Rattle.pair_pool.specs.Held.{held, HasFound, HasNoRoom}
use Rattle.pair_pool.proofs.PoolLemmas.{good_part, good_cell, good_not_full, grows_same}
use Rattle.pair_pool.proofs.HeldLemmas.{held_good, table_words, found_grows, found_stands, good_high}
use Rattle.pair_pool.proofs.pool.Pool.intern.Goals as goal

pub place_in-requires-clause-table : goal.place_in-requires-clause-table
unfolding IsPassOf
place_in-requires-clause-table c = let of = rw (← c.pass.view_is, ← c.self.view_is) at c.requires.of_pool in of.0

pub place_in-requires-clause-words : goal.place_in-requires-clause-words
unfolding IsPassOf
place_in-requires-clause-words c =
    let of = rw (← c.pass.view_is, ← c.self.view_is) at c.requires.of_pool in λ id there. table_words _ _ _ c.self.invariant.1 id (sym of.0 ∙ there)

pub place_in-requires-clause-places : goal.place_in-requires-clause-places
unfolding IsPassOf
place_in-requires-clause-places c = let of = rw (← c.pass.view_is, ← c.self.view_is) at c.requires.of_pool in of.1

pub place_in-requires-clause-parts : goal.place_in-requires-clause-parts
place_in-requires-clause-parts c =
    rw (c.number.ensures.number, c.number-2.ensures.number) (
      good_part _ (held_good _ c.pass.invariant) c.args.a (rw (← c.pass.view_is) at c.requires.first),
      good_part _ (held_good _ c.pass.invariant) c.args.b (rw (← c.pass.view_is) at c.requires.second),
    )

-- what the call did, by its references
found :
    (c : goal.After-of_number) → HasFound (held c.pass.inside.hold).view (held c.place_in.new.hold).view c.args.a c.args.b c.in-Some.found
found c = rw (c.number.ensures.number, c.number-2.ensures.number) at c.in-Some.ensures.found.1

full : (c : goal.In_default) → HasNoRoom (held c.pass.inside.hold).view (held c.place_in.new.hold).view c.args.a c.args.b
full c = rw (c.number.ensures.number, c.number-2.ensures.number) at c.in_default.ensures.full

pub returns-in_default-clause-grows : goal.returns-in_default-clause-grows
returns-in_default-clause-grows c = rw (← c.pass.view_is) (grows_same (held c.pass.inside.hold).view (held c.place_in.new.hold).view (full c).known)

pub returns-in_default-clause-sees : goal.returns-in_default-clause-sees
returns-in_default-clause-sees c = rw (← c.pass.view_is) (full c).sees

pub returns-in_default-clause-full : goal.returns-in_default-clause-full
returns-in_default-clause-full c = (full c).full

pub returns-in_default-clause-refused : goal.returns-in_default-clause-refused
returns-in_default-clause-refused c =
    rw (← c.pass.view_is) (grows_same (held c.place_in.new.hold).view (held c.pass.inside.hold).view (sym (full c).known))

pub returns-in_default-clause-of_pool : goal.returns-in_default-clause-of_pool
unfolding IsPassOf
returns-in_default-clause-of_pool c =
    let of = rw (← c.pass.view_is) at c.requires.of_pool in (c.place_in.ensures.table ∙ of.0, (full c).places ∙ of.1)

pub returns-clause-cell : goal.returns-clause-cell
returns-clause-cell c = rw c.of_number.ensures (found c).cell

pub returns-clause-stands : goal.returns-clause-stands
returns-clause-stands c = rw (c.of_number.ensures, ← c.pass.view_is) (found_stands _ _ _ _ _ (found c))

pub returns-clause-known : goal.returns-clause-known
returns-clause-known c = rw c.of_number.ensures (good_cell _ (held_good _ c.place_in.ensures.held) _ _ _ (found c).cell)

pub returns-clause-is_cell : goal.returns-clause-is_cell
returns-clause-is_cell c = rw c.of_number.ensures (good_high _ (held_good _ c.place_in.ensures.held) _ _ _ (found c).cell)

pub returns-clause-grows : goal.returns-clause-grows
returns-clause-grows c = rw (← c.pass.view_is) (found_grows _ _ _ _ _ (found c))

pub returns-clause-sees : goal.returns-clause-sees
returns-clause-sees c = rw (← c.pass.view_is) (found c).sees

pub returns-clause-knows_more : goal.returns-clause-knows_more
returns-clause-knows_more c = rw (c.of_number.ensures, ← c.pass.view_is) (found c).known

pub returns-clause-places_more : goal.returns-clause-places_more
returns-clause-places_more c = rw (c.of_number.ensures, ← c.pass.view_is) (found c).placed

pub returns-clause-was_there : goal.returns-clause-was_there
returns-clause-was_there c = rw (← c.pass.view_is) (found c).was_there

pub returns-clause-not_full : goal.returns-clause-not_full
returns-clause-not_full c = good_not_full _ (held_good _ c.place_in.ensures.held) _ _ _ (found c).cell

pub returns-clause-of_pool : goal.returns-clause-of_pool
unfolding IsPassOf
returns-clause-of_pool c =
    let of = rw (← c.pass.view_is) at c.requires.of_pool in (c.place_in.ensures.table ∙ of.0, (found c).places ∙ of.1)

pub returns-in_default-clause-no_steps : goal.returns-in_default-clause-no_steps
unfolding IsPassOf
returns-in_default-clause-no_steps c alone =
    let of = rw (← c.pass.view_is) at c.requires.of_pool in rw (← c.pass.view_is) (c.place_in.ensures.no_steps (of.0 ∙ alone))

pub returns-clause-no_steps : goal.returns-clause-no_steps
unfolding IsPassOf
returns-clause-no_steps c alone =
    let of = rw (← c.pass.view_is) at c.requires.of_pool in rw (← c.pass.view_is) (c.place_in.ensures.no_steps (of.0 ∙ alone))
