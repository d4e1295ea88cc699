use Rattle.std.proofs.Common.{◌≡◌, All}
use Rattle.term_pool.specs.Views.{IsKnownCell}
use Rattle.contexts.specs.Becoming.{look_of}
use Rattle.contexts.specs.Closed.{IsClosedFor}
use Rattle.contexts.proofs.looking.look_through.Given as goal

abbrev pub invariant-cells : goal.invariant-cells
invariant-cells l = record {
  same : l.terms ≡ l.fn.terms;
  closed : IsClosedFor l.fn.terms.pass (look_of l.images) l.closed;
  at : IsKnownCell l.fn.terms.pass l.at;
  way : All (IsKnownCell l.fn.terms.pass) l.way.items;
}
