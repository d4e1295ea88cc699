-- The kind of a leaf is that of its key.
use Rattle.std.proofs.Common.{◌≡◌, ap, refl, arith}
use Rattle.std.proofs.Math.Facts.{to_z-of_z}
use Rattle.sym_table.specs.declared.kind.Kind.TheVariants as Kind
use Rattle.sym_table.specs.Leaf.{kind_of}
use Rattle.sym_table.specs.Table.{functions_before}
use Rattle.sym_table.proofs.KindLemmas.{first_kind_meets, first_no_function, key_meets, in_range, number_fits, function_kind, function_is}
use Rattle.sym_table.proofs.symbols.Symbols.kind.Goals as goal

pub returns-then-leaf-lt-FIRST_LEAVES-clause-kind : goal.returns-then-leaf-lt-FIRST_LEAVES-clause-kind
returns-then-leaf-lt-FIRST_LEAVES-clause-kind c = first_kind_meets _ _ _ _ _ _ _ c.self.view_is c.self.invariant.0 _ c.first_kind.ensures

pub returns-then-leaf-lt-FIRST_LEAVES-clause-function : goal.returns-then-leaf-lt-FIRST_LEAVES-clause-function
returns-then-leaf-lt-FIRST_LEAVES-clause-function c f = first_no_function _ _ _ _ _ _ _ c.self.view_is c.self.invariant.0 _ c.first_kind.ensures f

pub overflow_cast-result : goal.overflow_cast-result
overflow_cast-result c =
    omega (arith, number_fits _ _ _ _ _ _ _ c.self.view_is c.self.invariant.0 _ _ _ c.as_slice-keys.ensures.keys c.if-leaf-lt-FIRST_LEAVES.false c.requires c.in-Function.is c.in-Function.number refl c.self.invariant.1)

pub returns-in-Function-clause-kind : goal.returns-in-Function-clause-kind
returns-in-Function-clause-kind c =
    function_kind _ _ _ _ _ _ _ c.self.view_is c.self.invariant.0 _ _ _ c.as_slice-keys.ensures.keys c.if-leaf-lt-FIRST_LEAVES.false c.requires c.in-Function.is c.in-Function.number refl

pub returns-in-Function-clause-function : goal.returns-in-Function-clause-function
returns-in-Function-clause-function c _ =
    function_is _ _ _ _ _ _ _ c.self.view_is c.self.invariant.0 _ _ _ c.as_slice-keys.ensures.keys c.if-leaf-lt-FIRST_LEAVES.false c.requires c.in-Function.is c.in-Function.number refl

pub returns-in-Variable-clause-kind : goal.returns-in-Variable-clause-kind
returns-in-Variable-clause-kind c =
    key_meets _ _ _ _ _ _ _ c.self.view_is c.self.invariant.0 _ _ _ c.as_slice-keys.ensures.keys c.if-leaf-lt-FIRST_LEAVES.false c.requires c.in-Variable.is (λ l. Kind.Var c.in-Variable.sort ≡ kind_of (functions_before c.args.self.now c.args.leaf) l) refl

pub returns-in-Numeral-clause-kind : goal.returns-in-Numeral-clause-kind
returns-in-Numeral-clause-kind c =
    let range = in_range _ _ _ _ _ _ _ c.self.view_is c.self.invariant.0 _ _ _ c.as_slice-keys.ensures.keys c.if-leaf-lt-FIRST_LEAVES.false c.requires c.in-Numeral.is in
    key_meets _ _ _ _ _ _ _ c.self.view_is c.self.invariant.0 _ _ _ c.as_slice-keys.ensures.keys c.if-leaf-lt-FIRST_LEAVES.false c.requires c.in-Numeral.is (λ l. Kind.Num _ ≡ kind_of (functions_before c.args.self.now c.args.leaf) l) (ap Kind.Num (to_z-of_z range.1))
