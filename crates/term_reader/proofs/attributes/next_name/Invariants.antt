use Rattle.std.proofs.Common.{◌≡◌, ◌-◌, ◌≤◌}
use Rattle.term_reader.specs.Layers.{names_at, AreTermAttributes}
use Rattle.term_reader.proofs.attributes.next_name.Given as goal

abbrev pub invariant-items : goal.invariant-items
invariant-items l = record {
  there : AreTermAttributes l.items l.before l.end;
  later : l.k ≤ l.before;
  same : names_at l.items l.k l.end ≡ names_at l.items l.before l.end;
}

abbrev pub decreases-items : goal.decreases-items
decreases-items l = l.end - l.before
