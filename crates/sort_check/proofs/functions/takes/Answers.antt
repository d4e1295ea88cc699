use Rattle.std.proofs.Common.{◌≡◌, true, false, length, slice_get, Some, IsTrue, sym, ◌∙◌, below_more}
use Rattle.sym_table.specs.Leaf.{leaf_arguments, is_function}
use Rattle.term_model.specs.Sorts.{sorts_eq}
use Rattle.sort_check.proofs.Leaves.{both, lengths_differ, place_differs, place_alike, all_alike, at_sorts, alike_of, to_end}
use Rattle.sort_check.proofs.functions.takes.Goals as goal

pub returns-then-not-as_many : goal.returns-then-not-as_many
returns-then-not-as_many c =
    both c.args.symbols.now c.args.head (λ l. IsTrue (is_function l)) (λ l. c.arity.result ≡ length (leaf_arguments l))
    (λ l. false ≡ sorts_eq (leaf_arguments l) c.args.sorts.now) c.requires c.arity.ensures
    (λ l e f a. lengths_differ (leaf_arguments l) c.args.sorts.now (λ g. c.if-not-as_many.true (a ∙ g)))

pub returns-then-not-fits : goal.returns-then-not-fits
returns-then-not-fits c =
    both c.args.symbols.now c.args.head (λ l. IsTrue (is_function l))
    (λ l. slice_get (leaf_arguments l) c.arguments.i ≡ Some c.arg_sort.result)
    (λ l. false ≡ sorts_eq (leaf_arguments l) c.args.sorts.now) c.requires c.arg_sort.ensures
    (λ l e f a.
    place_differs (leaf_arguments l) c.args.sorts.now c.arguments.i c.arg_sort.result _ a c.arguments-test.true
    (sym c.same-fits.ensures ∙ c.if-not-fits.true))

pub arguments-preserved : goal.arguments-preserved
arguments-preserved c =
    below_more _ _ c.arguments.invariant
    (place_alike _ c.args.sorts.now c.arguments.i c.arg_sort.result _
    (at_sorts c.args.symbols.now c.args.head c.arguments.i c.arg_sort.result c.arg_sort.ensures) c.arguments-test.true
    (sym c.same-fits.ensures ∙ c.if-not-fits.false))

pub returns : goal.returns
returns c =
    both c.args.symbols.now c.args.head (λ l. IsTrue (is_function l)) (λ l. c.arity.result ≡ length (leaf_arguments l))
    (λ l. true ≡ sorts_eq (leaf_arguments l) c.args.sorts.now) c.requires c.arity.ensures
    (λ l e f a.
    all_alike (leaf_arguments l) c.args.sorts.now (sym a ∙ c.if-not-as_many.false)
    (alike_of c.args.symbols.now c.args.head l c.args.sorts.now (length c.args.sorts.now) e
    (to_end _ _ c.arguments.i c.arguments-test.false c.arguments.invariant)))
