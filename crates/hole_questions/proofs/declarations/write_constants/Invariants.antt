use Rattle.std.proofs.Common.{◌≡◌, Bool, List, take}
use Rattle.std.specs.List.{AllZip}
use Rattle.term_model.specs.Terms.{Var}
use Rattle.hole_questions.specs.Declarations.{declared_of, after_parts, each_part, constant_parts, TellsFree}
use Rattle.hole_questions.specs.States.{IsVariableOf}
use Rattle.hole_questions.proofs.declarations.write_constants.Given as goal

-- Those before this one are declared, where they occur free.
abbrev pub invariant-leaves : goal.invariant-leaves
invariant-leaves l =
    (is_free : Var → Bool) → TellsFree l.symbols l.free.keys is_free → (xs : List Var) → AllZip (IsVariableOf l.symbols) l.leaves xs →
    declared_of l.declarations ≡ after_parts (declared_of l.fn.declarations) (each_part (constant_parts is_free) 0 (take l.place xs))
