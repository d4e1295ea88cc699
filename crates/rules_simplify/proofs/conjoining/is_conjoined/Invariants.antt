use Rattle.std.proofs.Common.{◌≡◌, List, length}
use Rattle.term_model.specs.Terms.{Term}
use Rattle.term_pool.specs.Views.{IsTerm, RefersTo, ReferToAll}
use Rattle.rules_simplify.proofs.TakingLemmas.{IsLeftOf}
use Rattle.rules_simplify.proofs.conjoining.is_conjoined.Given as goal

abbrev pub invariant-others : goal.invariant-others
invariant-others l = record {
  same : l.terms ≡ l.fn.terms;
  term : IsTerm l.fn.symbols l.fn.terms l.rest;
  left : (t u : Term) (us : List Term) → RefersTo l.fn.symbols l.fn.terms l.fn.first t → ReferToAll l.fn.symbols l.fn.terms l.fn.others.items us →
      RefersTo l.fn.symbols l.fn.terms l.fn.r u → IsLeftOf l.fn.symbols l.fn.terms l.others.items l.rest t u us;
}

abbrev pub decreases-others : goal.decreases-others
decreases-others l = length l.others.items
