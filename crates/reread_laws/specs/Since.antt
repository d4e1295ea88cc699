-- Public. What is read between two states of a reading.
use Rattle.std.specs.Prelude.{length, drop}
use Rattle.std.specs.List.{AllByRecursion}
use Rattle.rule_model.specs.Replacement.{HasNoLet}
use Rattle.problem_text.specs.Scripts.{Script}

-- no term that was read from one script on up to the other has a let
abbrev pub ReadsNoLet : Script → Script → Type 0
ReadsNoLet before after = AllByRecursion HasNoLet (drop (length before.terms) after.terms)
