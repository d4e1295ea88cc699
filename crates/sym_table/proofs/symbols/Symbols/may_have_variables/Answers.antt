-- A variable's leaf is that of a key, whose number is one of a name.
use Rattle.std.proofs.Common.{arith}
use Rattle.std.proofs.lemmas.Bool.{ltb-false}
use Rattle.sym_table.proofs.Laws.{lacks_variables}
use Rattle.sym_table.proofs.symbols.Symbols.may_have_variables.Goals as goal

pub returns : goal.returns
returns c none leaf name sort h =
    lacks_variables _ _ _ _ _ _ c.self.view_is c.self.invariant.0 (omega (arith, ltb-false 0 c.len.result none, c.len.ensures)) leaf name sort h
