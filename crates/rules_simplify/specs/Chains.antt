-- Private. Applications by the references of their arguments, the rows that they fit, and how heavy they are.
use Rattle.std.specs.Prelude.{◌≡◌, ◌↔◌, ◌+◌, ◌*◌, ◌<◌, ℕ, List, [], ◌∷◌, Option, Some, None}
use Rattle.std.specs.List.{Contains}
use Rattle.sym_table.specs.Table.{Table}
use Rattle.term_model.specs.declared.symbols.Op.{Op}
use Rattle.term_model.specs.Sorts.{IsWellSorted}
use Rattle.term_model.specs.Terms.{Term, Terms, numeral, variable, operation, call, let_in, no_terms, term, terms_of}
use Rattle.term_pool.specs.Decoding.{term_at}
use Rattle.term_pool.specs.Views.{TermsView, ReferToAll}
use Rattle.rule_model.specs.declared.letter.Letter.{Letter}
use Rattle.rule_model.specs.Rewriting.{RewriteRow, PassesGuard, Rewrites, IsFirstFit}
use Rattle.rule_model.specs.Schemas.{fill}
use Rattle.schema_match.specs.Letters.{slot, Agrees}
use Rattle.schema_match.specs.declared.letters.Letters.{Letters}
use Rattle.rules_simplify.specs.declared.rewrites.Application.{Application}
use Rattle.rules_simplify.specs.declared.rewrites.Fit.{Fit}
use Rattle.rules_simplify.specs.Tables.{IsRow}

-- the operator over the terms of the references is this term, which is well sorted
pub record StandsForApplication (s : Table) (v : TermsView) (at : Application) (t : Term) : Type 0 where
  pub arguments : List Term
  pub is : t ≡ operation at.op (terms_of arguments)
  pub refer : ReferToAll s v at.arguments.items arguments
  pub sorted : IsWellSorted t

pub record IsSomeAt (s : Table) (v : TermsView) (at : Application) : Type 0 where
  pub means : Term
  pub is : StandsForApplication s v at means

-- the term, which is well sorted, fits the row's left side and passes, and the letters are what gives it
pub record FitsBy (s : Table) (v : TermsView) (letters : Letters) (row : RewriteRow) (t : Term) : Type 0 where
  pub terms : Letter → Term
  pub agrees : Agrees s v letters terms
  pub gives : (f : Letter → Term) → (t ≡ fill f row.left) ↔ Agrees s v letters f
  pub passes : PassesGuard terms row.guard
  pub sorted : IsWellSorted t

-- one of the letters is not settled
pub record IsMissing (letters : Letters) (of : List Letter) : Type 0 where
  pub letter : Letter
  pub there : Contains of letter
  pub none : slot letters letter ≡ None

-- the row that was found is the first one of the table that fits
pub record IsFirstRow (s : Table) (v : TermsView) (rows : List RewriteRow) (fit : Fit) (t : Term) : Type 0 where
  pub row : RewriteRow
  pub there : Contains rows row
  pub parts : IsRow rows row fit.row
  pub fits : FitsBy s v fit.letters row t
  pub first : (u : Term) → Rewrites row t u ↔ IsFirstFit rows t u

pub record IsSomeFit (s : Table) (v : TermsView) (rows : List RewriteRow) (fit : Fit) : Type 0 where
  pub means : Term
  pub is : IsFirstRow s v rows fit means

-- The weight of a term, which each row lowers: size alone does not do, since `(ite c (ite c a b) d)` may become no smaller.
-- The condition of an `ite` counts twice.
abbrev mutual
  pub heaviness : Term → ℕ
  heaviness (operation Op.Ite ts) = first_heaviness ts + all_heaviness ts + 3
  heaviness (operation Op.Not ts) = 2 * all_heaviness ts + 1
  heaviness (operation Op.Implies ts) = 2 * all_heaviness ts + 1
  heaviness (operation Op.Equal ts) = 2 * all_heaviness ts + 1
  heaviness (operation Op.Less ts) = 2 * all_heaviness ts + 4
  heaviness (operation Op.Greater ts) = 2 * all_heaviness ts + 4
  heaviness (operation Op.GreaterEq ts) = all_heaviness ts + 2
  heaviness (operation Op.And ts) = all_heaviness ts + 2
  heaviness (operation Op.Or ts) = all_heaviness ts + 2
  heaviness (operation op ts) = all_heaviness ts + 1
  heaviness (numeral n) = 1
  heaviness (variable x) = 1
  heaviness (call f ts) = 1
  heaviness (let_in bs t) = 1

  pub all_heaviness : Terms → ℕ
  all_heaviness no_terms = 0
  all_heaviness (term t ts) = heaviness t + all_heaviness ts

  pub first_heaviness : Terms → ℕ
  first_heaviness no_terms = 0
  first_heaviness (term t ts) = heaviness t

-- the right side is lighter than the left one, whatever the letters stand for
abbrev pub Falls : RewriteRow → Type 0
Falls row = (f : Letter → Term) → heaviness (fill f row.right) < heaviness (fill f row.left)

-- the terms of references, for measures
abbrev pub with_first : Option Term → Terms → Terms
with_first None ts = ts
with_first (Some t) ts = term t ts

abbrev pub terms_at : Table → TermsView → List ℕ → Terms
terms_at s v [] = no_terms
terms_at s v (r ∷ rs) = with_first (term_at s v r) (terms_at s v rs)
