-- Public. The rules of linear arithmetic over Int (Alethe specification, "List of rules"). They have no premise. Both modes ask
-- the same.
use Rattle.std.specs.Prelude.{ℕ, ℤ, pos, ◌+◌, ◌*◌, ◌/◌, ◌^◌, ◌≡◌, ◌≢◌, ◌≤◌, ◌<◌, ◌⊎◌, ◌+ℤ◌, ◌-ℤ◌, ◌*ℤ◌, ◌≤ℤ◌, ◌<ℤ◌, max}
use Rattle.std.specs.Prelude.{unsigned_abs, List, [], ◌∷◌, All, Option, Some, None, ⊤}
use Rattle.term_model.specs.declared.symbols.Op.{Op}
use Rattle.term_model.specs.declared.symbols.Sort.{Sort}
use Rattle.term_model.specs.Flips.{equality}
use Rattle.term_model.specs.Sorts.{IsOf}
use Rattle.term_model.specs.Terms.{Term, operation, no_terms, term}
use Rattle.rule_model.specs.LinearForms.{constant, coefficient, HaveOneForm}
use Rattle.rule_model.specs.Proofs.{Fraction}
use Rattle.rule_model.specs.Weights.{weight}

-- numbers have 128 bits, one of which is the sign
abbrev pub limit : ℕ
limit = 2 ^ 127

-- an equality of two terms of Int
pub record EquatesNumbers (premises : List (List Term)) (clause : List Term) : Type 0 where
  pub left : Term
  pub right : Term
  pub none : premises ≡ []
  pub literal : clause ≡ equality left right ∷ []
  pub left_sort : IsOf left Sort.Int
  pub right_sort : IsOf right Sort.Int

-- sum_simplify, prod_simplify, minus_simplify and unary_minus_simplify: the two sides have one linear form
pub record MeetsFormSimplification (premises : List (List Term)) (clause : List Term) : Type 0 where
  pub sides : EquatesNumbers premises clause
  pub one_form : HaveOneForm sides.left sides.right

pub record IsWideFormSimplification (premises : List (List Term)) (clause : List Term) : Type 0 where
  pub sides : EquatesNumbers premises clause
  pub wide : limit ≤ weight sides.left + weight sides.right

-- that the first term is greater than the second, at least as great, or equal
pub data Relation : Type 0 where
  exceeds : Relation
  reaches : Relation
  equals : Relation

pub record Comparison : Type 0 where
  pub relation : Relation
  pub first : Term
  pub second : Term

abbrev pub compared : Relation → Term → Term → Option Comparison
compared relation s t = Some (record { relation = relation; first = s; second = t })

-- what a comparison says where it is true, and where it is false
abbrev pub if_true : Term → Option Comparison
if_true (operation Op.LessEq (term s (term t no_terms))) = compared reaches t s
if_true (operation Op.Less (term s (term t no_terms))) = compared exceeds t s
if_true (operation Op.GreaterEq (term s (term t no_terms))) = compared reaches s t
if_true (operation Op.Greater (term s (term t no_terms))) = compared exceeds s t
if_true (operation Op.Equal (term s (term t no_terms))) = compared equals s t
if_true _ = None

abbrev pub if_false : Term → Option Comparison
if_false (operation Op.LessEq (term s (term t no_terms))) = compared exceeds s t
if_false (operation Op.Less (term s (term t no_terms))) = compared reaches s t
if_false (operation Op.GreaterEq (term s (term t no_terms))) = compared exceeds t s
if_false (operation Op.Greater (term s (term t no_terms))) = compared reaches t s
if_false _ = None

-- The negation of a literal, which is a comparison or the `not` of a comparison or of an equality, behind pairs of `not`s.
abbrev pub denial : Term → Option Comparison
denial (operation Op.Not (term (operation Op.Not (term t no_terms)) no_terms)) = denial t
denial (operation Op.Not (term t no_terms)) = if_true t
denial t = if_false t

-- A comparison as `f > k`, `f >= k` or `f = k`: f has this coefficient of each opaque term, and k is this. The first becomes
-- `f >= k + 1`.
abbrev pub coefficient_in : Comparison → Term → ℤ
coefficient_in c u = coefficient c.first u -ℤ coefficient c.second u

abbrev pub bound_by : Relation → ℤ → ℤ
bound_by exceeds k = k +ℤ pos 1
bound_by reaches k = k
bound_by equals k = k

abbrev pub bound_in : Comparison → ℤ
bound_in c = bound_by c.relation (constant c.second -ℤ constant c.first)

-- a comparison with its coefficient
pub record CoefficientLine : Type 0 where
  pub comparison : Comparison
  pub ratio : Fraction

abbrev pub IsEquation : CoefficientLine → Type 0
IsEquation l = l.comparison.relation ≡ equals

-- the literals and the coefficients come to these lines
abbrev pub AreLines : List Term → List Fraction → List CoefficientLine → Type 0
AreLines [] [] [] = ⊤
AreLines (t ∷ ts) (q ∷ qs) (l ∷ ls) =
    (denial t ≡ Some l.comparison) × (l.ratio ≡ q) × IsOf l.comparison.first Sort.Int × IsOf l.comparison.second Sort.Int × AreLines ts qs ls
AreLines _ _ _ = ⊥

abbrev pub Divides : ℕ → ℕ → Type 0
Divides m n = (k : ℕ) × (n ≡ m * k)

-- a whole multiple of the denominators of these lines
abbrev pub IsMultipleOfAll : List CoefficientLine → ℕ → Type 0
IsMultipleOfAll ls n = (0 < n) × All (λ l. Divides (unsigned_abs l.ratio.den) n) ls

-- the least one
pub record IsLeastMultiple (ls : List CoefficientLine) (n : ℕ) : Type 0 where
  pub multiple : IsMultipleOfAll ls n
  pub least : (m : ℕ) → IsMultipleOfAll ls m → n ≤ m

-- An inequality is multiplied by its coefficient's absolute value, an equation by its coefficient; all of them besides by the
-- least multiple, so that they stay whole.
abbrev pub signed_by : Relation → ℤ → ℤ
signed_by equals n = n
signed_by other n = pos (unsigned_abs n)

abbrev pub factor : ℕ → CoefficientLine → ℤ
factor multiple l =
    signed_by l.comparison.relation l.ratio.num *ℤ pos (multiple / unsigned_abs l.ratio.den)

abbrev pub scaled : ℕ → CoefficientLine → Term → ℤ
scaled multiple l u = factor multiple l *ℤ coefficient_in l.comparison u

-- whole numbers, where what stands in the lines is multiplied so
abbrev pub IsWhole : ℕ → ℤ → Type 0
IsWhole multiple z = (k : ℤ) × (z ≡ pos multiple *ℤ k)

-- the least whole number that is not below
pub record IsRoundedUp (multiple : ℕ) (z rounded : ℤ) : Type 0 where
  pub whole : IsWhole multiple rounded
  pub above : z ≤ℤ rounded
  pub near : rounded <ℤ (z +ℤ pos multiple)

-- an inequality all of whose coefficients are whole
pub record IsRounded (multiple : ℕ) (l : CoefficientLine) : Type 0 where
  pub inequality : ¬ IsEquation l
  pub whole : (u : Term) → IsWhole multiple (scaled multiple l u)

-- The bound of a line, multiplied. Where the line is an inequality with whole coefficients it is rounded up.
abbrev pub IsScaledBound : ℕ → CoefficientLine → ℤ → Type 0
IsScaledBound multiple l z =
    (IsRounded multiple l × IsRoundedUp multiple (factor multiple l *ℤ bound_in l.comparison) z)
    ⊎ ((¬ IsRounded multiple l) × (z ≡ factor multiple l *ℤ bound_in l.comparison))

-- the sums over all lines
abbrev pub added_coefficient : ℕ → List CoefficientLine → Term → ℤ
added_coefficient multiple [] u = pos 0
added_coefficient multiple (l ∷ ls) u = scaled multiple l u +ℤ added_coefficient multiple ls u

abbrev pub IsAddedBound : ℕ → List CoefficientLine → ℤ → Type 0
IsAddedBound multiple [] z = z ≡ pos 0
IsAddedBound multiple (l ∷ ls) z =
    (x : ℤ) × (y : ℤ) × IsScaledBound multiple l x × IsAddedBound multiple ls y × (z ≡ x +ℤ y)

-- a step of la_generic that has the form of one
pub record IsLinearStep (ratios : Option (List Fraction)) (premises : List (List Term)) (clause : List Term) : Type 0 where
  pub fractions : List Fraction
  pub lines : List CoefficientLine
  pub multiple : ℕ
  pub none : premises ≡ []
  pub given : ratios ≡ Some fractions
  pub read : AreLines clause fractions lines
  pub least : IsLeastMultiple lines multiple

-- the lines, added up, are absurd
pub record AreAbsurdBy (multiple : ℕ) (lines : List CoefficientLine) : Type 0 where
  pub bound : ℤ
  pub cancelled : (u : Term) → added_coefficient multiple lines u ≡ pos 0
  pub added : IsAddedBound multiple lines bound
  pub absurd_bound : (pos 0 <ℤ bound) ⊎ (All IsEquation lines × (bound ≢ pos 0))

-- la_generic: the negated literals are absurd
pub record MeetsLaGeneric (ratios : Option (List Fraction)) (premises : List (List Term)) (clause : List Term) : Type 0 where
  pub form : IsLinearStep ratios premises clause
  pub absurd_by : AreAbsurdBy form.multiple form.lines

-- The weight of a step bounds the numbers that are met while it is judged.
abbrev pub line_weight : ℕ → CoefficientLine → ℕ
line_weight multiple l =
    max (unsigned_abs l.ratio.num) 1 * (multiple / unsigned_abs l.ratio.den) * (weight l.comparison.first + weight l.comparison.second + 1) + multiple

abbrev pub lines_weight : ℕ → List CoefficientLine → ℕ
lines_weight multiple [] = 0
lines_weight multiple (l ∷ ls) = line_weight multiple l + lines_weight multiple ls

pub record IsWideLaGeneric (ratios : Option (List Fraction)) (premises : List (List Term)) (clause : List Term) : Type 0 where
  pub form : IsLinearStep ratios premises clause
  pub wide : limit ≤ lines_weight form.multiple form.lines
