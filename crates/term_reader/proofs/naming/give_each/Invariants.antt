use Rattle.std.proofs.Common.{◌≡◌, ◌-◌}
use Rattle.term_names.specs.Known.{macro_of}
use Rattle.term_names.specs.Scope.{known_in}
use Rattle.term_names.specs.declared.names.Which.{Which}
use Rattle.term_reader.proofs.NamesLeft.{AreLeft}
use Rattle.term_reader.specs.Layers.{AreTermAttributes}
use Rattle.term_reader.specs.KeptEntries.{KeepsEntries}
use Rattle.term_reader.proofs.naming.give_each.Given as goal

abbrev pub invariant-each : goal.invariant-each
invariant-each l = record {
  there : AreTermAttributes l.attributes.items.now l.k l.attributes.end;
  left : AreLeft l.attributes.items.now l.term.value.now l.term.free.now l.attributes.first l.k l.attributes.end
      (known_in l.fn.settings l.fn.names) (known_in l.fn.settings l.names);
  macros : (w : Which) → macro_of (known_in l.fn.settings l.names) w ≡ macro_of (known_in l.fn.settings l.fn.names) w;
  scope : l.names.scope ≡ l.fn.names.scope;
  own : KeepsEntries l.fn.names l.names;
}

abbrev pub decreases-each : goal.decreases-each
decreases-each l = l.attributes.end - l.k
