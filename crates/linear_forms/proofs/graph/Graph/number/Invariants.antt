use Rattle.std.proofs.Common.{◌≡◌, ◌+◌, ◌-◌, ◌*◌, ◌^◌, ◌++◌, ◌∷◌, [], vec_len}
use Rattle.linear_forms.specs.declared.memory.Item.TheVariants as Item
use Rattle.linear_forms.specs.Graphs.{IsGraph, KeepsNumbers}
use Rattle.linear_forms.proofs.Walking.{IsWalk}
use Rattle.linear_forms.proofs.graph.Graph.number.Given as goal

abbrev pub invariant-items : goal.invariant-items
invariant-items l =
    (l.terms ≡ l.fn.terms)
    × IsWalk l.fn.symbols l.fn.terms l.self.memo (Item.Term l.fn.r) (l.way.items ++ l.at ∷ [])
    × IsGraph l.fn.symbols l.fn.terms l.self
    × KeepsNumbers l.fn.self l.self

abbrev pub decreases-items : goal.decreases-items
decreases-items l = (2 ^ 64 - vec_len l.self.nodes) * 2 ^ 64 + (2 ^ 64 - vec_len l.way)
