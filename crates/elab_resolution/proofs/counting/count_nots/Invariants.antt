use Rattle.std.proofs.Common.{◌≡◌, ◌-◌, ◌^◌, ◌<◌}
use Rattle.term_model.specs.Terms.{Term}
use Rattle.term_pool.specs.Views.{IsTerm, RefersTo}
use Rattle.elab_resolution.specs.Counted.{IsAbove}
use Rattle.elab_resolution.proofs.counting.count_nots.Given as goal

abbrev pub invariant-nots : goal.invariant-nots
invariant-nots l = record {
  same : l.terms ≡ l.fn.terms;
  known : IsTerm l.symbols l.fn.terms l.bare;
  above : (t : Term) → RefersTo l.symbols l.fn.terms l.fn.r t → IsAbove l.symbols l.fn.terms t l.bare l.nots;
  few : l.nots < 2 ^ 31;
}

abbrev pub decreases-nots : goal.decreases-nots
decreases-nots l = 2 ^ 31 - l.nots
