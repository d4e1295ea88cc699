-- Public. Literals as comparisons of terms that are known by references.
use Rattle.std.specs.Prelude.{◌≡◌, Option, Some, None}
use Rattle.sym_table.specs.Table.{Table}
use Rattle.term_model.specs.declared.symbols.Sort.{Sort}
use Rattle.term_model.specs.Sorts.{IsOf}
use Rattle.term_model.specs.Terms.{Term}
use Rattle.term_pool.specs.Views.{TermsView, RefersTo}
use Rattle.rule_model.specs.Arith.{Comparison, denial}
use Rattle.scaled_sums.specs.Relations.{relation_meant}
use Rattle.linear_lines.specs.declared.comparisons as code

-- the references stand for the terms of the comparison
pub record StandsForComparison (s : Table) (v : TermsView) (l : code.Comparison.Comparison) (c : Comparison) : Type 0 where
  pub relation : relation_meant l.relation ≡ c.relation
  pub first : RefersTo s v l.first c.first
  pub second : RefersTo s v l.second c.second

-- the terms of a comparison are of Int
pub record IsOfNumbers (c : Comparison) : Type 0 where
  pub first : IsOf c.first Sort.Int
  pub second : IsOf c.second Sort.Int

-- what is found is a comparison of terms of Int, and none where there is no such
abbrev pub IsNumberComparison : Table → TermsView → Option Comparison → Option code.Comparison.Comparison → Type 0
IsNumberComparison s v o (Some l) = (c : Comparison) × (o ≡ Some c) × StandsForComparison s v l c × IsOfNumbers c
IsNumberComparison s v o None = (c : Comparison) → o ≡ Some c → IsOfNumbers c → ⊥

-- of a literal, what its negation says
abbrev pub IsDenialRead : Table → TermsView → Term → Option code.Comparison.Comparison → Type 0
IsDenialRead s v t found = IsNumberComparison s v (denial t) found
