use Rattle.std.proofs.Common.{◌∷◌, ◌++◌, []}
use Rattle.flip_steps.specs.Walks.{turns_left}
use Rattle.flip_steps.proofs.WalkLemmas.{IsWalking}
use Rattle.flip_steps.proofs.walking.find_form.Given as goal

abbrev pub invariant-visits : goal.invariant-visits
invariant-visits l = IsWalking l.at l.fn.terms l.terms l.fn.block l.block l.fn.forms l.forms l.root (l.visits.items ++ l.next ∷ [])

abbrev pub decreases-visits : goal.decreases-visits
decreases-visits l = turns_left l.at.symbols.now l.fn.terms (l.visits.items ++ l.next ∷ [])
