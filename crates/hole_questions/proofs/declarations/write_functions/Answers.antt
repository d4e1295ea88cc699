use Rattle.std.proofs.Common.{arith}
use Rattle.hole_questions.specs.Declarations.{declared_of, function_parts}
use Rattle.hole_questions.specs.States.{IsFunctionOf}
use Rattle.hole_questions.proofs.DeclarationLists.{function_there, one_more, all_written, at_place, as_long}
use Rattle.hole_questions.proofs.declarations.write_functions.Goals as goal

pub leaves-preserved : goal.leaves-preserved
leaves-preserved c = λ fs h.
    let r = at_place (IsFunctionOf c.args.symbols.now) c.leaves.place _ c.args.leaves.now fs h c.leaves-test.true in
    one_more function_parts (declared_of c.args.declarations.now) (declared_of c.leaves.declarations) (declared_of c.write_function.new.declarations)
    c.leaves.place fs r.of r.there (c.leaves.invariant fs h) (c.in_ok-write_function.ensures r.of r.fits)

pub returns : goal.returns
returns c = λ fs h.
    let long = as_long (IsFunctionOf c.args.symbols.now) c.args.leaves.now fs h in
    all_written function_parts (declared_of c.args.declarations.now) (declared_of c.leaves.declarations) c.leaves.place fs
    (omega (arith, long, c.leaves-test.false)) (c.leaves.invariant fs h)

pub write_function-requires-clause-function : goal.write_function-requires-clause-function
write_function-requires-clause-function c =
    let r = at_place (IsFunctionOf c.args.symbols.now) c.leaves.place 0 c.args.leaves.now c.requires.functions c.requires.are c.leaves-test.true in
    function_there c.args.symbols.now _ r.of r.fits
