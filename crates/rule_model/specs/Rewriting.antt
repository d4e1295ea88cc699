-- Public. Rewriting by the rows of a table.
use Rattle.std.specs.Prelude.{◌≡◌, ◌≢◌, ◌⊎◌, ℤ, ◌<ℤ◌, ◌≤ℤ◌, List, [], ◌∷◌, Any, Some}
use Rattle.term_model.specs.declared.symbols.Sort.{Sort}
use Rattle.term_model.specs.Sorts.{IsOf}
use Rattle.term_model.specs.Terms.{Term}
use Rattle.rule_model.specs.declared.letter.Letter.{Letter}
use Rattle.rule_model.specs.Constants.{constant_of}
use Rattle.rule_model.specs.Patterns.{equal}
use Rattle.rule_model.specs.Schemas.{Pattern, fill}

-- what a row asks besides: nothing; that two patterns are of Bool; or that they are constants, of one number or of two, or
-- with the first number below the second one or at most it
pub data Guard : Type 0 where
  always : Guard
  truths : Pattern → Pattern → Guard
  one_number : Pattern → Pattern → Guard
  two_numbers : Pattern → Pattern → Guard
  below : Pattern → Pattern → Guard
  at_most : Pattern → Pattern → Guard

-- two constants whose numbers are related
pub record AreConstantsBy (related : ℤ → ℤ → Type 0) (t u : Term) : Type 0 where
  pub number : ℤ
  pub other : ℤ
  pub first : constant_of t ≡ Some number
  pub second : constant_of u ≡ Some other
  pub are : related number other

abbrev pub PassesGuard : (Letter → Term) → Guard → Type 0
PassesGuard terms always = Unit {0}
PassesGuard terms (truths p q) = IsOf (fill terms p) Sort.Bool × IsOf (fill terms q) Sort.Bool
PassesGuard terms (one_number p q) = AreConstantsBy (λ m n. m ≡ n) (fill terms p) (fill terms q)
PassesGuard terms (two_numbers p q) = AreConstantsBy (λ m n. m ≢ n) (fill terms p) (fill terms q)
PassesGuard terms (below p q) = AreConstantsBy (λ m n. m <ℤ n) (fill terms p) (fill terms q)
PassesGuard terms (at_most p q) = AreConstantsBy (λ m n. m ≤ℤ n) (fill terms p) (fill terms q)

pub record RewriteRow : Type 0 where
  pub left : Pattern
  pub right : Pattern
  pub guard : Guard

infix 4 ◌⇝◌
-- a row that asks nothing besides, and one for an equality of two truth values
abbrev pub ◌⇝◌ : Pattern → Pattern → RewriteRow
left ⇝ right = record { left = left; right = right; guard = always }

abbrev pub over_truths : Pattern → Pattern → Pattern → RewriteRow
over_truths p q right = record { left = equal p q; right = right; guard = truths p q }

abbrev pub where_constants : Guard → Pattern → Pattern → RewriteRow
where_constants guard left right = record { left = left; right = right; guard = guard }

-- some terms, put in for the letters, give these two terms, and pass
pub record Rewrites (row : RewriteRow) (t u : Term) : Type 0 where
  pub terms : Letter → Term
  pub from : t ≡ fill terms row.left
  pub to : u ≡ fill terms row.right
  pub passes : PassesGuard terms row.guard

abbrev pub FitsRow : RewriteRow → Term → Type 0
FitsRow row t = (u : Term) × Rewrites row t u

-- by the first row that fits
abbrev pub IsFirstFit : List RewriteRow → Term → Term → Type 0
IsFirstFit [] t u = ⊥
IsFirstFit (row ∷ rows) t u = Rewrites row t u ⊎ ((¬ FitsRow row t) × IsFirstFit rows t u)

-- once or more
pub data IsReached (rows : List RewriteRow) : Term → Term → Type 0 where
  once : (t u : Term) → IsFirstFit rows t u → IsReached rows t u
  again : (t u w : Term) → IsFirstFit rows t u → IsReached rows u w → IsReached rows t w

-- the second is what any row makes of the first, or is reached from it
abbrev pub Simplifies : List RewriteRow → Term → Term → Type 0
Simplifies rows t u = Any (λ row. Rewrites row t u) rows ⊎ IsReached rows t u
