-- Private. Comparisons that the steps of reading a literal find.
use Rattle.std.specs.Prelude.{Bool, true, false, Option, Some, None, ⊤}
use Rattle.sym_table.specs.Table.{Table}
use Rattle.term_model.specs.Terms.{Term}
use Rattle.term_pool.specs.Views.{TermsView}
use Rattle.rule_model.specs.Arith.{Comparison, if_true, if_false}
use Rattle.linear_lines.specs.Comparisons.{StandsForComparison, IsNumberComparison}
use Rattle.linear_lines.specs.declared.comparisons as code

-- what is found is the comparison, or there is neither
abbrev pub IsFound : Table → TermsView → Option code.Comparison.Comparison → Option Comparison → Type 0
IsFound s v (Some l) (Some c) = StandsForComparison s v l c
IsFound s v None None = ⊤
IsFound s v _ _ = ⊥

-- what a term says by its truth
abbrev pub said_by : Bool → Term → Option Comparison
said_by true t = if_true t
said_by false t = if_false t

-- what is found is what the term says by its truth, if that is a comparison of terms of Int
abbrev pub IsComparisonRead : Table → TermsView → Bool → Term → Option code.Comparison.Comparison → Type 0
IsComparisonRead s v truth t found = IsNumberComparison s v (said_by truth t) found
