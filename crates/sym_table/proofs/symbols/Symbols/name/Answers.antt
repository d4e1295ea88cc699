-- The name of a leaf is that of its key.
use Rattle.std.proofs.Common.{◌≡◌, refl, sym, arith, [], List, ℕ}
use Rattle.std.proofs.lemmas.Option.{get_or_from_slice_get}
use Rattle.sym_table.specs.Leaf.{name_of}
use Rattle.sym_table.proofs.KindLemmas.{first_meets, key_meets, in_range, function_name}
use Rattle.sym_table.proofs.symbols.Symbols.name.Goals as goal

pub returns-then-leaf-lt-FIRST_LEAVES : goal.returns-then-leaf-lt-FIRST_LEAVES
returns-then-leaf-lt-FIRST_LEAVES c = first_meets _ _ _ _ _ _ _ c.self.view_is c.self.invariant.0 (λ l. c.first_name.result.now ≡ name_of l) c.first_name.ensures

pub name-requires : goal.name-requires
name-requires c =
    omega (arith, in_range _ _ _ _ _ _ _ c.self.view_is c.self.invariant.0 _ _ _ c.as_slice-keys.ensures.keys c.if-leaf-lt-FIRST_LEAVES.false c.requires c.in-Function.is, c.self.invariant.0.named)

pub name-requires-in-Variable : goal.name-requires-in-Variable
name-requires-in-Variable c =
    in_range _ _ _ _ _ _ _ c.self.view_is c.self.invariant.0 _ _ _ c.as_slice-keys.ensures.keys c.if-leaf-lt-FIRST_LEAVES.false c.requires c.in-Variable.is

pub returns-in-Function : goal.returns-in-Function
returns-in-Function c =
    key_meets _ _ _ _ _ _ _ c.self.view_is c.self.invariant.0 _ _ _ c.as_slice-keys.ensures.keys c.if-leaf-lt-FIRST_LEAVES.false c.requires c.in-Function.is (λ l. c.name.result.now ≡ name_of l)
    (function_name _ _ c.self.inside.variable_names _ _ c.self.invariant.0.named (in_range _ _ _ _ _ _ _ c.self.view_is c.self.invariant.0 _ _ _ c.as_slice-keys.ensures.keys c.if-leaf-lt-FIRST_LEAVES.false c.requires c.in-Function.is) c.name.ensures)

pub returns-in-Variable : goal.returns-in-Variable
returns-in-Variable c =
    key_meets _ _ _ _ _ _ _ c.self.view_is c.self.invariant.0 _ _ _ c.as_slice-keys.ensures.keys c.if-leaf-lt-FIRST_LEAVES.false c.requires c.in-Variable.is (λ l. c.name-in-Variable.result.now ≡ name_of l)
    (sym (get_or_from_slice_get c.self.inside.variable_names c.in-Variable.number _ [] c.name-in-Variable.ensures))

pub returns-in-Numeral : goal.returns-in-Numeral
returns-in-Numeral c =
    key_meets _ _ _ _ _ _ _ c.self.view_is c.self.invariant.0 _ _ _ c.as_slice-keys.ensures.keys c.if-leaf-lt-FIRST_LEAVES.false c.requires c.in-Numeral.is (λ l. ◌≡◌ {A = List ℕ} [] (name_of l)) refl
