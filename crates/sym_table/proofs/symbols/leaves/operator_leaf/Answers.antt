-- The operators' leaves stand in the order in which the operators are declared.
use Rattle.std.proofs.Common.{◌≡◌, ◌+◌, slice_get, Some, refl}
use Rattle.term_model.specs.declared.symbols.Op.{Op}
use Rattle.term_model.specs.contracts.symbols.Op.{the_type}
use Rattle.sym_table.specs.Leaf.{first_leaves, operator}
use Rattle.sym_table.proofs.symbols.leaves.operator_leaf.Goals as goal
use denote.Enum.Declared.{tag_of}

each : (op : Op) → slice_get first_leaves (2 + tag_of the_type op) ≡ Some (operator op)
each Op.True = refl
each Op.False = refl
each Op.Not = refl
each Op.Implies = refl
each Op.And = refl
each Op.Or = refl
each Op.Xor = refl
each Op.Equal = refl
each Op.Distinct = refl
each Op.Ite = refl
each Op.Minus = refl
each Op.Plus = refl
each Op.Times = refl
each Op.Div = refl
each Op.Mod = refl
each Op.LessEq = refl
each Op.Less = refl
each Op.GreaterEq = refl
each Op.Greater = refl

pub returns : goal.returns
returns c = each c.args.op
