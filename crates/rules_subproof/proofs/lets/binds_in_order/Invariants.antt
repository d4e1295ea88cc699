use Rattle.std.proofs.Common.{◌≡◌, ◌↔◌, drop, map}
use Rattle.rules_subproof.proofs.lets.binds_in_order.Given as goal

abbrev pub invariant-vars : goal.invariant-vars
invariant-vars l =
    (map (λ b. b.0) (drop l.place l.anchor) ≡ drop l.place l.vars) ↔ (map (λ b. b.0) l.anchor ≡ l.vars)
