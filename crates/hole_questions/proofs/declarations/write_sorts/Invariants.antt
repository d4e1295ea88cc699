use Rattle.std.proofs.Common.{◌≡◌, ◌++◌}
use Rattle.hole_questions.specs.Declarations.{sort_lines}
use Rattle.hole_questions.proofs.declarations.write_sorts.Given as goal

-- Those before this one are declared.
abbrev pub invariant-sorts : goal.invariant-sorts
invariant-sorts l = l.text.items ≡ l.fn.text.items ++ sort_lines l.place
