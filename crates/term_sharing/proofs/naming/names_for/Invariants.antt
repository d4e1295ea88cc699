use Rattle.std.proofs.Common.{◌<◌, ◌^◌}
use Rattle.problem_text.specs.Scripts.{Script}
use Rattle.term_reader.specs.ProblemViews.{IsProblemOf}
use Rattle.term_sharing.specs.NamedTerms.{HasPlanBelow}
use Rattle.term_sharing.proofs.naming.names_for.Given as goal

abbrev pub invariant-terms : goal.invariant-terms
invariant-terms l =
    (l.next < 2 ^ 64)
    × ((sc : Script) → IsProblemOf l.symbols l.terms l.problem sc → HasPlanBelow l.symbols l.terms l.names sc.taken l.next)
