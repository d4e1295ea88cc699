-- The place that the set returns is that of the name, which stands there once.
use Rattle.std.proofs.Common.{◌≡◌, Option, Some, None, sym, slice_get, position, bytes_eq, IfSome, IfNone, ℕ}
use Rattle.sym_table.specs.Names.{Lacks}
use Rattle.sym_table.proofs.Places.{position-there}
use Rattle.sym_table.proofs.names.place_of.Goals as goal

pub returns-clause-found : goal.returns-clause-found
returns-clause-found c = go c.find.result c.find.ensures.number
  where
    go : (o : Option ℕ) → o ≡ position (bytes_eq c.args.name.now) c.args.names.now → IfSome o (λ k. slice_get c.args.names.now k ≡ Some c.args.name.now)
    go None e = tt
    go (Some k) e = position-there c.args.names.now c.args.name.now k (sym e)

pub returns-clause-lacks : goal.returns-clause-lacks
returns-clause-lacks c = go c.find.result c.find.ensures.number
  where
    go : (o : Option ℕ) → o ≡ position (bytes_eq c.args.name.now) c.args.names.now → IfNone o (Lacks c.args.names.now c.args.name.now)
    go None e = λ k at. let there = c.find.ensures.once k c.args.name.now at in cc
    go (Some k) e = tt
