use Rattle.std.proofs.Common.{◌≡◌, ℕ, All, take}
use Rattle.elab_denials.proofs.needs.is_among.Given as goal

abbrev pub invariant-others : goal.invariant-others
invariant-others l = All (λ (y : ℕ × ℕ). l.pair ≡ y → ⊥) (take l.other-index l.pairs)
