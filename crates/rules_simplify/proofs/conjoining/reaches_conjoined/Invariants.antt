use Rattle.std.proofs.Common.{◌≡◌}
use Rattle.term_model.specs.Terms.{Term}
use Rattle.term_pool.specs.Views.{IsTerm, RefersTo}
use Rattle.rules_simplify.specs.Conjoined.{IsFrom}
use Rattle.rules_simplify.proofs.WalkLemmas.{IsWalked, heavy_at}
use Rattle.rules_simplify.proofs.conjoining.reaches_conjoined.Given as goal

abbrev pub invariant-premises : goal.invariant-premises
invariant-premises l = record {
  same : l.terms ≡ l.fn.terms;
  term : IsTerm l.fn.symbols l.fn.terms l.conclusion;
  walk : (t u : Term) → IsFrom l.fn.symbols l.fn.terms l.from t → RefersTo l.fn.symbols l.fn.terms l.fn.right u → IsWalked l.fn.symbols l.fn.terms l.from l.others.items l.conclusion t u;
}

abbrev pub decreases-premises : goal.decreases-premises
decreases-premises l = heavy_at l.fn.symbols l.fn.terms l.conclusion
