-- A leaf that stands for a function has the key of one.
use Rattle.std.proofs.Common.{rules}
use Rattle.sym_table.proofs.Functions.{function_key, at_place, number_below, function_meets}
use Rattle.sym_table.proofs.symbols.Symbols.function.Goals as goal

pub unreachable-requires : goal.unreachable-requires
unreachable-requires c =
    let key = function_key _ _ _ _ _ _ _ c.self.view_is c.self.invariant.0 c.requires in
    c.in_default.not-Function key.1 (at_place _ _ _ _ _ _ c.as_slice.ensures.keys key.4 key.5)

pub index-requires : goal.index-requires
index-requires c =
    search (rules, number_below _ _ _ _ _ _ _ _ _ _ c.self.view_is c.self.invariant.0 c.requires c.as_slice.ensures.keys c.in-Function.is)

pub returns : goal.returns
returns c = function_meets _ _ _ _ _ _ _ _ _ _ _ c.self.view_is c.self.invariant.0 c.requires c.as_slice.ensures.keys c.in-Function.is c.index.ensures
