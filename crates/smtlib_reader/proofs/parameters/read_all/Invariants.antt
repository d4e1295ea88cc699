-- The pairs so far gave the parameters in `out`, and their names are known.
use Rattle.std.proofs.Common.{◌≡◌, ◌≤◌, ◌-◌, [], length, All, None}
use Rattle.text_items.specs.ItemShapes.{pairs_fault}
use Rattle.text_items.specs.ItemsAt.{items_at}
use Rattle.problem_text.specs.Sorts.{parameters_from}
use Rattle.smtlib_reader.specs.Parameters.{AreKeysOf, IsParameterThere, parameters_said}
use Rattle.smtlib_reader.proofs.ParameterLists.{names_before}
use Rattle.smtlib_reader.proofs.ReadLists.{behind_read}
use Rattle.smtlib_reader.proofs.parameters.read_all.Given as goal

abbrev pub invariant-pairs : goal.invariant-pairs
invariant-pairs l = record {
  comes : parameters_from l.symbols.sorts [] (items_at l.items l.first l.end) ≡ behind_read (parameters_said l.items l.out.items) (parameters_from l.symbols.sorts (names_before l.items l.out.items) (items_at l.items l.k l.end));
  keys : AreKeysOf l.earlier.keys (names_before l.items l.out.items);
  there : All (IsParameterThere l.items) l.out.items;
  fit : pairs_fault (items_at l.items l.k l.end) ≡ None;
  few : length l.out.items ≤ l.k;
  inside : length l.out.items ≤ l.end;
}

abbrev pub decreases-pairs : goal.decreases-pairs
decreases-pairs l = l.end - l.k
