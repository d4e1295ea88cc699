-- The names of the declared functions are those of the set.
use Rattle.sym_table.proofs.Declares.{declared_where_there, or_else}
use Rattle.sym_table.proofs.symbols.Symbols.is_taken.Goals as goal

pub returns-else-is_built_in : goal.returns-else-is_built_in
returns-else-is_built_in c =
    or_else _ _ c.if-is_built_in.false c.is_built_in.ensures (rw c.is_some.ensures (declared_where_there _ _ _ _ _ _ _ c.self.view_is c.self.invariant.0 _ c.place_of.ensures.found c.place_of.ensures.lacks))
