use Rattle.pair_pool.specs.Views.{IsPassOf}
use Rattle.std.proofs.Common.{◌≡◌, ◌+◌, ◌-◌, ◌*◌, ◌^◌, ◌++◌, ◌∷◌, [], vec_len}
use Rattle.std.specs.HashMap.{hash_map_len}
use Rattle.term_pool.specs.Pairs.{as_terms}
use Rattle.term_pool.proofs.PairLemmas.{IsWalk}
use Rattle.term_pool.proofs.flips.same.Given as goal

abbrev pub invariant-pairs : goal.invariant-pairs
invariant-pairs l =
    (l.pass.view ≡ l.fn.pass.view) × IsWalk l.fn.pass.view l.equal l.memo (as_terms l.fn.one l.fn.other) (l.way.items ++ l.at ∷ []) × IsPassOf l.pool l.pass

abbrev pub decreases-pairs : goal.decreases-pairs
decreases-pairs l = (2 ^ 64 - hash_map_len l.memo) * 2 ^ 64 + (2 ^ 64 - vec_len l.way)
