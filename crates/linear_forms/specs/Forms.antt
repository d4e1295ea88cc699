-- Public. Linear forms over references: a constant, and coefficients of opaque terms, each of which stands once.
use Rattle.std.specs.Prelude.{◌≡◌, ◌≢◌, ◌⊎◌, ℕ, ℤ, pos, ◌+◌, ◌<◌, ◌≤◌, ◌-ℤ◌, unsigned_abs, List, All, Option, Some, None}
use Rattle.sym_table.specs.Table.{Table}
use Rattle.term_model.specs.Terms.{Term}
use Rattle.term_pool.specs.Views.{TermsView, RefersTo, IsTerm}
use Rattle.rule_model.specs.Arith.{limit}
use Rattle.rule_model.specs.LinearForms.{constant, coefficient, HaveOneForm}
use Rattle.rule_model.specs.Weights.{weight}
use Rattle.linear_forms.specs.declared.nodes.Coefficient.{Coefficient}
use Rattle.linear_forms.specs.declared.forms.Numbers.{Numbers}
use Rattle.linear_forms.specs.declared.forms.Linear.{Linear}
use Rattle.linear_forms.specs.declared.forms.OneForm.{OneForm}
use Rattle.linear_forms.specs.Coefficients.{sum_at, sizes_of, AreOfDifferentTerms}

-- a weight is told where it is below the limit
abbrev pub IsToldWeight : Option ℕ → ℕ → Type 0
IsToldWeight None n = limit ≤ n
IsToldWeight (Some w) n = (w ≡ n) × (n < limit)

-- a reference stands for the term
pub record IsReferred (s : Table) (v : TermsView) (t : Term) : Type 0 where
  pub reference : ℕ
  pub refers : RefersTo s v reference t

-- The list has for each term this coefficient, each term once and none with 0. What no reference stands for has none.
pub record ListsCoefficients (s : Table) (v : TermsView) (cs : List Coefficient) (f : Term → ℤ) : Type 0 where
  pub right : (r : ℕ) (t : Term) → RefersTo s v r t → f t ≡ sum_at cs r
  pub covered : (t : Term) → (f t ≡ pos 0) ⊎ IsReferred s v t
  pub terms : All (λ (c : Coefficient). IsTerm s v c.term) cs
  pub apart : AreOfDifferentTerms cs
  pub others : All (λ (c : Coefficient). c.number ≢ pos 0) cs

-- the linear form of a term
pub record IsLinearForm (s : Table) (v : TermsView) (t : Term) (l : Linear) : Type 0 where
  pub weight_is : l.weight ≡ weight t
  pub narrow : weight t < limit
  pub constant_is : l.constant ≡ constant t
  pub coefficients : ListsCoefficients s v l.coefs.items (coefficient t)
  pub light : unsigned_abs l.constant + sizes_of l.coefs.items ≤ l.weight

abbrev pub IsLinear : Table → TermsView → Term → Option Linear → Type 0
IsLinear s v t None = limit ≤ weight t
IsLinear s v t (Some l) = IsLinearForm s v t l

-- the linear form of the term t less that of u
pub record IsDifferenceForm (s : Table) (v : TermsView) (t u : Term) (n : Numbers) (cs : List Coefficient) : Type 0 where
  pub weight_is : n.weight ≡ weight t + weight u
  pub narrow : weight t + weight u < limit
  pub constant_is : n.constant ≡ constant t -ℤ constant u
  pub coefficients : ListsCoefficients s v cs (λ x. coefficient t x -ℤ coefficient u x)
  pub light : unsigned_abs n.constant + sizes_of cs ≤ n.weight

abbrev pub IsDifference : Table → TermsView → Term → Term → Option Numbers → List Coefficient → Type 0
IsDifference s v t u None cs = limit ≤ weight t + weight u
IsDifference s v t u (Some n) cs = IsDifferenceForm s v t u n cs

-- whether two terms have one form, and that their numbers are not too wide
abbrev pub TellsOneForm : Term → Term → OneForm → Type 0
TellsOneForm t u OneForm.Yes = (weight t + weight u < limit) × HaveOneForm t u
TellsOneForm t u OneForm.No = (weight t + weight u < limit) × (HaveOneForm t u → ⊥)
TellsOneForm t u OneForm.TooWide = limit ≤ weight t + weight u
