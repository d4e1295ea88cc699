use Rattle.std.proofs.Common.{◌≤◌, ◌^◌, drop, length}
use Rattle.sym_table.specs.Table.{Table, IsTable}
use Rattle.term_pool.specs.Views.{TermsView}
use Rattle.term_expansion.specs.Expanding.{SaysWhole}
use Rattle.rule_model.specs.Replacement.{Replacement}
use Rattle.term_expansion.specs.Values.{IsReplacement}
use Rattle.term_expansion.proofs.putting_in.begin.Given as goal
use Rattle.term_expansion.specs.SymbolsAndTerms.{both}

abbrev pub invariant-bounds : goal.invariant-bounds
invariant-bounds l =
    (l.at ≤ length l.replacement)
    × ((s : Table) (v : TermsView) (q : Replacement) → IsTable s → length s.leaves ≤ 2 ^ 30 → IsReplacement (both s v) (drop l.at l.replacement) q → SaysWhole (both s v) l.assignments q)

abbrev pub decreases-bounds : goal.decreases-bounds
decreases-bounds l = l.at
