use Rattle.std.proofs.Common.{◌∙◌, ap, sym}
use Rattle.pair_pool.specs.Views.{IsPassOf, HasCell}
use Rattle.pair_pool.specs.Held.{held}
use Rattle.pair_pool.proofs.PoolLemmas.{good_as_cell, good_first, good_second, good_both}
use Rattle.pair_pool.proofs.HeldLemmas.{held_good, table_words}
use Rattle.pair_pool.proofs.pool.Pool.parts.Goals as goal

pub parts_in-first-requires-clause-table : goal.parts_in-first-requires-clause-table
unfolding IsPassOf
parts_in-first-requires-clause-table c = let of = rw (← c.pass.view_is, ← c.self.view_is) at c.requires.of_pool in of.0

pub parts_in-first-requires-clause-words : goal.parts_in-first-requires-clause-words
unfolding IsPassOf
parts_in-first-requires-clause-words c =
    let of = rw (← c.pass.view_is, ← c.self.view_is) at c.requires.of_pool in λ id there. table_words _ _ _ c.self.invariant.1 id (sym of.0 ∙ there) ∙ sym of.1

pub parts_in-first-requires-clause-known : goal.parts_in-first-requires-clause-known
parts_in-first-requires-clause-known c =
    rw c.number.ensures.number
    (good_as_cell _ (held_good _ c.pass.invariant) c.args.r c.requires.is_cell (rw (← c.pass.view_is) at c.requires.known))

here :
    (c : goal.After-of_number-2) → HasCell (held c.pass.inside.hold).view c.args.r c.of_number.result c.of_number-2.result
here c = rw (c.of_number.ensures, c.of_number-2.ensures) (rw c.number.ensures.number at c.parts_in-first.ensures.cell)

pub returns-clause-cell : goal.returns-clause-cell
returns-clause-cell c = rw (← c.pass.view_is) (here c)

pub returns-clause-first : goal.returns-clause-first
returns-clause-first c =
    rw (← c.pass.view_is, c.parts_in-first.ensures.view)
    (λ s t h. (good_both _ (held_good _ c.pass.invariant) _ _ _ (here c) s t h).0)

pub returns-clause-second : goal.returns-clause-second
returns-clause-second c =
    rw (← c.pass.view_is, c.parts_in-first.ensures.view)
    (λ s t h. (good_both _ (held_good _ c.pass.invariant) _ _ _ (here c) s t h).1)

pub returns-clause-first_known : goal.returns-clause-first_known
returns-clause-first_known c = rw c.parts_in-first.ensures.view (good_first _ (held_good _ c.pass.invariant) c.args.r _ _ (here c))

pub returns-clause-second_known : goal.returns-clause-second_known
returns-clause-second_known c = rw c.parts_in-first.ensures.view (good_second _ (held_good _ c.pass.invariant) c.args.r _ _ (here c))

pub returns-clause-of_pool : goal.returns-clause-of_pool
unfolding IsPassOf
returns-clause-of_pool c =
    let of = rw (← c.pass.view_is) at c.requires.of_pool in
    (c.parts_in-first.ensures.table ∙ of.0, ap (λ v. v.places) c.parts_in-first.ensures.view ∙ of.1)

pub returns-clause-no_steps : goal.returns-clause-no_steps
unfolding IsPassOf
returns-clause-no_steps c alone =
    let of = rw (← c.pass.view_is) at c.requires.of_pool in rw (← c.pass.view_is) (c.parts_in-first.ensures.no_steps (of.0 ∙ alone))

pub returns-clause-one_step : goal.returns-clause-one_step
unfolding IsPassOf
returns-clause-one_step c shared =
    let of = rw (← c.pass.view_is) at c.requires.of_pool in rw (← c.pass.view_is) (c.parts_in-first.ensures.one_step shared.id (of.0 ∙ shared.is))
