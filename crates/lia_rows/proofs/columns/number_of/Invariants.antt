-- None so far is of the term.
use Rattle.std.proofs.Common.{All, take}
use Rattle.lia_rows.proofs.FormLemmas.{IsOther}
use Rattle.lia_rows.proofs.columns.number_of.Given as goal

abbrev pub invariant-found : goal.invariant-found
invariant-found l = All (IsOther l.term) (take l.c-index l.found)
