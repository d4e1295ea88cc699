-- Private. The linear form of a line, as it is found.
use Rattle.std.specs.Prelude.{◌≤◌, ◌<◌, ◌+◌, List, Option, Some, None, unsigned_abs}
use Rattle.sym_table.specs.Table.{Table}
use Rattle.term_pool.specs.Views.{TermsView}
use Rattle.rule_model.specs.Arith.{Comparison, limit}
use Rattle.rule_model.specs.Weights.{weight}
use Rattle.linear_forms.specs.declared.nodes.Coefficient as found
use Rattle.scaled_sums.specs.declared.coefficients.Coefficient.{Coefficient}
use Rattle.scaled_sums.specs.Coefficients.{sizes_of, AreOfDifferentTerms}
use Rattle.linear_lines.specs.declared.lines.LineForm.{LineForm}
use Rattle.linear_lines.specs.Lines.{IsFormOf}

-- a coefficient of a form, as one of a sum
abbrev pub as_sum : found.Coefficient → Coefficient
as_sum c = record { term = c.term; number = c.number }

-- the form of a comparison, each term of which stands once, and whose numbers are within its weight
pub record IsNarrowForm (s : Table) (v : TermsView) (c : Comparison) (numbers : LineForm) (cs : List Coefficient) : Type 0 where
  pub form : IsFormOf s v c numbers cs
  pub apart : AreOfDifferentTerms cs
  pub light : unsigned_abs numbers.constant + sizes_of cs ≤ numbers.weight
  pub narrow : numbers.weight < limit

abbrev pub IsFormFound : Table → TermsView → Comparison → Option LineForm → List Coefficient → Type 0
IsFormFound s v c None cs = limit ≤ weight c.first + weight c.second
IsFormFound s v c (Some numbers) cs = IsNarrowForm s v c numbers cs
