-- The last assertion is one that was read.
use Rattle.std.proofs.Common.{◌≡◌, ℕ, All, Option, Some, None, IfOk, IfSome, List, slice_get, subst}
use Rattle.pair_pool.specs.Views.{PassView, IsKnown}
use Rattle.cases.proofs.KnownReferences.{known_item}
use Rattle.cases.proofs.reading.read.Goals as goal

-- what an answer names is known, where it is one of a list that is
known_last : (pass : PassView) (rs : List ℕ) (i : ℕ) (last : Option ℕ) → All (IsKnown pass) rs → IfSome last (λ r. slice_get rs i ≡ Some r) → IfSome last (IsKnown pass)
known_last pass rs i (Some r) known at = known_item pass rs i r known at
known_last pass rs i None known at = tt

pub returns : goal.returns
returns c =
    known_last c.read_problem.new.terms.pass c.in-Ok.problem.assertions _ c.last_of-last.result
    (subst (λ r. IfOk r (λ p. All (IsKnown c.read_problem.new.terms.pass) p.assertions)) c.in-Ok.is c.read_problem.ensures.known)
    c.last_of-last.ensures
