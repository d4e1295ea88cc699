use Rattle.std.proofs.Common.{◌≡◌, take}
use Rattle.term_model.specs.Terms.{Fun}
use Rattle.hole_questions.specs.Declarations.{declared_of, after_parts, each_part, argument_parts}
use Rattle.hole_questions.specs.States.{IsFunctionOf}
use Rattle.hole_questions.proofs.declarations.write_arguments.Given as goal

-- The sorts of those before this one are written.
abbrev pub invariant-arguments : goal.invariant-arguments
invariant-arguments l =
    (f : Fun) → IsFunctionOf l.symbols l.leaf f →
    declared_of l.declarations ≡ after_parts (declared_of l.fn.declarations) (each_part argument_parts 0 (take l.i f.arguments))
