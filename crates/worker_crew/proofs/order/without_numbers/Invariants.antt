use Rattle.std.proofs.Common.{◌≡◌, ℕ, map}
use Rattle.worker_crew.proofs.order.without_numbers.Given as goal

abbrev pub invariant-pieces : goal.invariant-pieces
invariant-pieces g l = l.all.items ≡ map (λ (p : ℕ × g.row.P.Denot). p.1) l.yielded
