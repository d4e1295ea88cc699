use Rattle.std.proofs.Common.{◌≡◌, ℕ, map, take}
use Rattle.elab_equality.proofs.closing.images_of.Given as goal

abbrev pub invariant-each : goal.invariant-each
invariant-each l = l.images.items ≡ map (λ (b : ℕ × ℕ). b.1) (take l.bound-index l.anchor)
