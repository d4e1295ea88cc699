use Rattle.std.proofs.Common.{◌≡◌, ◌∷◌}
use Rattle.accepted_replies.specs.Replies.{numbers_from}
use Rattle.accepted_replies.proofs.building.premises_of.Given as goal

abbrev pub invariant-assumes : goal.invariant-assumes
invariant-assumes l = l.premises.items ≡ l.count ∷ numbers_from 0 l.k
