use Rattle.std.proofs.Common.{◌≡◌, ℕ, ◌^◌, ◌≤◌, [], refl, arith}
use Rattle.std.proofs.Math.Nat.{pow-le-pow_right}
use Rattle.std.proofs.lemmas.List.{length-replicate}
use Rattle.pair_pool.specs.Views.{IsPassOf}
use Rattle.pair_pool.specs.OnlyPass.{cells_of, only_pass}
use Rattle.pair_pool.proofs.TableLemmas.{IsTable-empty}
use Rattle.pair_pool.proofs.PassLemmas.{cells_of-empty, knows_only_leaves}
use Rattle.pair_pool.proofs.StateLemmas.{only_state_good}
use Rattle.pair_pool.proofs.pool.Pool.new.Goals as goal

pub invariant_of-pass : goal.invariant_of-pass
invariant_of-pass c =
    let least : 2 ^ 12 ≤ 2 ^ c.args.bits = pow-le-pow_right {n = 2} (omega arith) c.requires.least in
    let most : 2 ^ c.args.bits ≤ 2 ^ 26 = pow-le-pow_right {n = 2} (omega arith) c.requires.most in
    rw c.in_ok-words.ensures (only_state_good _ (IsTable-empty (2 ^ c.args.bits) least most))

empty : (c : goal.In_ok-words) → cells_of c.in_ok-words.words.items ≡ []
empty c = rw c.in_ok-words.ensures (cells_of-empty (2 ^ c.args.bits))

pub returns-clause-of_pool : goal.returns-clause-of_pool
unfolding IsPassOf
returns-clause-of_pool c = (refl, rw c.in_ok-words.ensures (length-replicate {A = ℕ} (2 ^ c.args.bits) 0))

pub returns-clause-seen : goal.returns-clause-seen
returns-clause-seen c = empty c

pub returns-clause-known : goal.returns-clause-known
returns-clause-known c = empty c

pub returns-clause-placed : goal.returns-clause-placed
returns-clause-placed c = empty c

pub returns-clause-leaves : goal.returns-clause-leaves
returns-clause-leaves c = knows_only_leaves (only_pass c.in_ok-words.words.items) (empty c)
