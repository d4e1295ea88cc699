use Rattle.std.proofs.Common.{◌≡◌, ◌-◌, ◌^◌, List, length}
use Rattle.schema_match.specs.ArgumentCells.{IsListOf}
use Rattle.sym_table.specs.Table.{Table}
use Rattle.term_model.specs.Terms.{Term}
use Rattle.rules_congruence.proofs.CutLemmas.{AreReadTo}
use Rattle.rules_congruence.proofs.applications.read_both.Given as goal

abbrev pub invariant-places : goal.invariant-places
invariant-places l = record {
  same : l.terms ≡ l.fn.terms;
  long : length l.left.items ≡ length l.right.items;
  read : (s : Table) (ts us : List Term) → IsListOf s l.fn.terms l.fn.lists.0 ts → IsListOf s l.fn.terms l.fn.lists.1 us →
      AreReadTo s l.fn.terms l.left.items l.right.items l.first l.second ts us;
}

abbrev pub decreases-places : goal.decreases-places
decreases-places l = 2 ^ 31 - length l.left.items
