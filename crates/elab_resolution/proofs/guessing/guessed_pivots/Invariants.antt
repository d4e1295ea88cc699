use Rattle.std.proofs.Common.{◌≡◌, All}
use Rattle.elab_resolution.specs.Guessed.{IsPivotOfSome}
use Rattle.elab_resolution.proofs.guessing.guessed_pivots.Given as goal

abbrev pub invariant-premises : goal.invariant-premises
invariant-premises l = record {
  same : l.terms ≡ l.fn.terms;
  pivots : All (λ p. IsPivotOfSome l.symbols l.fn.terms l.others p.0) l.pivots.items;
}
