use Rattle.std.proofs.Common.{◌≡◌, ℕ, [], length, replicate, ap, sym, ◌∙◌}
use Rattle.std.proofs.lemmas.List.{length-replicate}
use Rattle.pair_pool.specs.Views.{IsPassOf}
use Rattle.pair_pool.specs.OnlyPass.{cells_of, only_pass}
use Rattle.pair_pool.proofs.TableLemmas.{IsTable-empty}
use Rattle.pair_pool.proofs.PassLemmas.{cells_of-empty, knows_only_leaves}
use Rattle.pair_pool.proofs.StateLemmas.{only_state_good}
use Rattle.pair_pool.proofs.HeldLemmas.{held_words, as_many, has_no_seat}
use Rattle.pair_pool.proofs.pool.Pool.clear.Goals as goal

pub unreachable-requires : goal.unreachable-requires
unfolding IsPassOf
unreachable-requires c =
    let of = rw (← c.pass.view_is) at c.requires.of_pool in has_no_seat _ _ c.in_default.is (of.0 ∙ c.requires.alone)

-- the words are as many as before, and each is empty
cleared : (c : goal.After-clear_words) → c.clear_words.new.words.items ≡ replicate (length c.in-Words.words.items) 0
cleared c = rw c.in-Words.words-is at c.clear_words.ensures

empty : (c : goal.After-clear_words) → cells_of c.clear_words.new.words.items ≡ []
empty c = rw (cleared c) (cells_of-empty (length c.in-Words.words.items))

pub invariant_of-result : goal.invariant_of-result
invariant_of-result c =
    let table = held_words _ _ c.in-Words.is c.pass.invariant in
    rw (cleared c) (only_state_good _ (IsTable-empty (length c.in-Words.words.items) table.least table.most))

pub returns-clause-of_pool : goal.returns-clause-of_pool
unfolding IsPassOf
returns-clause-of_pool c =
    let of = rw (← c.pass.view_is) at c.requires.of_pool in
    (sym c.requires.alone, ap length (cleared c) ∙ length-replicate {A = ℕ} (length c.in-Words.words.items) 0 ∙ as_many _ _ _ c.in-Words.is of.1)

pub returns-clause-places : goal.returns-clause-places
unfolding IsPassOf
returns-clause-places c = (returns-clause-of_pool c).1

pub returns-clause-seen : goal.returns-clause-seen
returns-clause-seen c = empty c

pub returns-clause-known : goal.returns-clause-known
returns-clause-known c = empty c

pub returns-clause-placed : goal.returns-clause-placed
returns-clause-placed c = empty c

pub returns-clause-leaves : goal.returns-clause-leaves
returns-clause-leaves c = knows_only_leaves (only_pass c.clear_words.new.words.items) (empty c)
