use Rattle.std.proofs.Common.{◌≡◌, take, ℕ, List}
use Rattle.std.specs.Borrow.{Bor}
use Rattle.std.specs.List.{flat_map}
use Rattle.elab_resolution.proofs.roots.gather_roots.Given as goal

abbrev pub invariant-premises : goal.invariant-premises
invariant-premises l = l.roots.items ≡ flat_map (λ (p : Bor (List ℕ)). p.now) (take l.premise-index l.premises)
