use Rattle.std.proofs.Common.{◌≡◌, ◌++◌, take, map}
use Rattle.flip_steps.specs.declared.visits.Visit.TheVariants as Visit
use Rattle.flip_steps.proofs.visits.open_all.Given as goal

abbrev pub invariant-each : goal.invariant-each
invariant-each l = l.visits.items ≡ l.fn.visits.items ++ map (λ r. Visit.Open r) (take l.arg-index l.args)
