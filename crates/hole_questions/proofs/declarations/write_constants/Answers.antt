use Rattle.std.proofs.Common.{arith}
use Rattle.hole_questions.specs.Declarations.{declared_of, constant_parts}
use Rattle.hole_questions.specs.States.{IsVariableOf}
use Rattle.term_pool.specs.StandsFor.{variable_leaf}
use Rattle.hole_questions.proofs.Pieces.{leaf_within}
use Rattle.hole_questions.proofs.DeclarationLists.{one_more, all_written, at_place, as_long}
use Rattle.hole_questions.proofs.declarations.write_constants.Goals as goal

pub leaves-preserved : goal.leaves-preserved
leaves-preserved c = λ is_free tells xs h.
    let r = at_place (IsVariableOf c.args.symbols.now) c.leaves.place _ c.args.leaves.now xs h c.leaves-test.true in
    one_more (constant_parts is_free) (declared_of c.args.declarations.now) (declared_of c.leaves.declarations)
    (declared_of c.write_if_free.new.declarations) c.leaves.place xs r.of r.there (c.leaves.invariant is_free tells xs h)
    (c.in_ok-write_if_free.ensures is_free tells r.of r.fits)

pub returns : goal.returns
returns c = λ is_free tells xs h.
    let long = as_long (IsVariableOf c.args.symbols.now) c.args.leaves.now xs h in
    all_written (constant_parts is_free) (declared_of c.args.declarations.now) (declared_of c.leaves.declarations) c.leaves.place xs
    (omega (arith, long, c.leaves-test.false)) (c.leaves.invariant is_free tells xs h)

pub write_if_free-requires-clause-leaf : goal.write_if_free-requires-clause-leaf
write_if_free-requires-clause-leaf c =
    let r = at_place (IsVariableOf c.args.symbols.now) c.leaves.place 0 c.args.leaves.now c.requires.variables c.requires.are c.leaves-test.true in
    leaf_within c.args.symbols.now _ (variable_leaf r.of) r.fits
