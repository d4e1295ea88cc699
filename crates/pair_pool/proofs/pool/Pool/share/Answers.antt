use Rattle.std.proofs.Common.{◌∙◌, ap, sym, length, Some}
use Rattle.pair_pool.specs.Views.{IsPassOf}
use Rattle.pair_pool.specs.Held.{held}
use Rattle.pair_pool.proofs.HeldLemmas.{as_many, has_no_words}
use Rattle.pair_pool.proofs.pool.Pool.share.Goals as goal

pub returns-in_default-clause-shared : goal.returns-in_default-clause-shared
unfolding IsPassOf
returns-in_default-clause-shared c =
    let of = rw (← c.pass.view_is) at c.requires.of_pool in
    record { id = c.in_default.field-0.table_id; is = sym of.0 ∙ ap (λ h. (held h).table) c.in_default.is }

pub invariant_of-self : goal.invariant_of-self
unfolding IsPassOf
invariant_of-self c =
    let of = rw (← c.pass.view_is, ← c.self.view_is) at c.requires.of_pool in
    (c.self.invariant.0, c.in_ok-table.ensures.0 ∙ ap length c.as_slice.ensures.value ∙ as_many _ _ _ c.in-Words.is of.1)

pub returns-clause-of_pool : goal.returns-clause-of_pool
unfolding IsPassOf
returns-clause-of_pool c =
    let of = rw (← c.pass.view_is, ← c.self.view_is) at c.requires.of_pool in
    (ap Some c.in_ok-table.ensures.2, ap (λ m. m.0.places) c.in_ok-table.ensures.4 ∙ as_many _ _ _ c.in-Words.is of.1)

pub returns-clause-shared_already : goal.returns-clause-shared_already
unfolding IsPassOf
returns-clause-shared_already c shared =
    let of = rw (← c.pass.view_is) at c.requires.of_pool in absurd (has_no_words _ _ _ c.in-Words.is (of.0 ∙ shared.is))
