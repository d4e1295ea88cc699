use Rattle.std.proofs.Common.{◌≡◌, List, take}
use Rattle.std.specs.List.{AllZip}
use Rattle.term_model.specs.Terms.{Fun}
use Rattle.hole_questions.specs.Declarations.{declared_of, after_parts, each_part, function_parts}
use Rattle.hole_questions.specs.States.{IsFunctionOf}
use Rattle.hole_questions.proofs.declarations.write_functions.Given as goal

-- Those before this one are declared.
abbrev pub invariant-leaves : goal.invariant-leaves
invariant-leaves l =
    (fs : List Fun) → AllZip (IsFunctionOf l.symbols) l.leaves fs →
    declared_of l.declarations ≡ after_parts (declared_of l.fn.declarations) (each_part function_parts 0 (take l.place fs))
