-- The columns so far.
use Rattle.std.proofs.Common.{map, take}
use Rattle.lia_rows.specs.Columns.{AreAdded}
use Rattle.lia_rows.specs.Forms.{term_of}
use Rattle.lia_rows.proofs.columns.add_columns.Given as goal

abbrev pub invariant-found : goal.invariant-found
invariant-found l = AreAdded l.initial.columns.items (map term_of (take l.c-index l.found)) l.columns.items
