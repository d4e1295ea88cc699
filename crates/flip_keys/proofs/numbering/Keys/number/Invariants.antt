use Rattle.std.proofs.Common.{◌≡◌, ◌+◌, ◌-◌, ◌*◌, ◌^◌, ◌++◌, ◌∷◌, [], vec_len}
use Rattle.std.specs.HashMap.{hash_map_len}
use Rattle.flip_keys.specs.declared.memory.Item.TheVariants as Item
use Rattle.flip_keys.specs.KeyTables.{AreClassKeys, HasMore}
use Rattle.flip_keys.proofs.Walking.{IsWalk}
use Rattle.flip_keys.proofs.numbering.Keys.number.Given as goal

abbrev pub invariant-items : goal.invariant-items
invariant-items l =
    (l.terms ≡ l.fn.terms)
    × IsWalk l.fn.terms.pass l.self.memo (Item.Term l.fn.r) (l.way.items ++ l.at ∷ [])
    × AreClassKeys l.fn.terms.pass l.self
    × HasMore l.fn.self l.self

abbrev pub decreases-items : goal.decreases-items
decreases-items l = (2 ^ 64 - hash_map_len l.self.memo) * 2 ^ 64 + (2 ^ 64 - vec_len l.way)
