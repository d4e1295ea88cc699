use Rattle.std.proofs.Common.{◌≡◌, length, slice_get, Some, arith}
use Rattle.sym_table.specs.Leaf.{leaf_arguments}
use Rattle.term_pool.specs.StandsFor.{function_leaf}
use Rattle.hole_questions.specs.Declarations.{declared_of, argument_parts}
use Rattle.hole_questions.proofs.DeclarationLists.{one_more, all_written}
use Rattle.hole_questions.proofs.Pieces.{of_leaf}
use Rattle.hole_questions.proofs.declarations.write_arguments.Goals as goal

pub arguments-preserved : goal.arguments-preserved
arguments-preserved c = λ f is.
    one_more argument_parts (declared_of c.args.declarations.now) (declared_of c.arguments.declarations) (declared_of c.argument.new.self) c.arguments.i
    f.arguments c.arg_sort.result
    (of_leaf c.args.symbols.now c.args.leaf (function_leaf f) (λ l. slice_get (leaf_arguments l) c.arguments.i ≡ Some c.arg_sort.result)
    c.arg_sort.ensures is)
    (c.arguments.invariant f is) c.in_ok-argument.ensures

pub returns : goal.returns
returns c = λ f is.
    let many = of_leaf c.args.symbols.now c.args.leaf (function_leaf f) (λ l. c.arity-i-end.result ≡ length (leaf_arguments l)) c.arity-i-end.ensures is in
    all_written argument_parts (declared_of c.args.declarations.now) (declared_of c.arguments.declarations) c.arguments.i f.arguments
    (omega (arith, many, c.arguments-test.false)) (c.arguments.invariant f is)
