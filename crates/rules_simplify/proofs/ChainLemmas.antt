-- Chains of first rows, and tables that are tried row after row.
use Rattle.std.proofs.Common.{◌≡◌, ◌⊎◌, ◌↔◌, inl, inr, ◌≤◌, ◌<◌, ℕ, zero, suc, List, [], ◌∷◌, length, drop, get_or, Any, Contains, refl, sym, subst, arith}
use Rattle.std.specs.List.{AllByRecursion}
use Rattle.term_model.specs.Terms.{Term}
use Rattle.term_model.proofs.Basics.{any_here, any_later, any_cases, any_none}
use Rattle.term_model.proofs.Lists.{contains_none, contains_cases, contains_head, contains_later}
use Rattle.rule_model.specs.Rewriting.{RewriteRow, Rewrites, FitsRow, IsFirstFit, IsReached, once, again, Simplifies}
use Rattle.rules_simplify.specs.declared.tables.RowParts.{RowParts}
use Rattle.rules_simplify.specs.Tables.{IsRow}
use Rattle.std.specs.List.{AllZip}

module _ (rows : List RewriteRow) where
  pub reached_none : (t w : Term) → ((u : Term) → ¬ IsFirstFit rows t u) → ¬ IsReached rows t w
  reached_none t w none (once t' w' h) = none w h
  reached_none t w none (again t' u w' h rest) = none u h

  pub reached_next : (t n w : Term) → IsFirstFit rows t n → ((u : Term) → IsFirstFit rows t u → u ≡ n) → IsReached rows t w ↔ ((w ≡ n) ⊎ IsReached rows n w)
  reached_next t n w h only = (
    λ r. (go t w r h only),
    λ c. elim c [
      | inl e ↦ subst (λ x. IsReached rows t x) (sym e) (once t n h)
      | inr rest ↦ again t n w h rest
    ],
  )
    where
      go : (t w : Term) → IsReached rows t w → IsFirstFit rows t n → ((u : Term) → IsFirstFit rows t u → u ≡ n) → (w ≡ n) ⊎ IsReached rows n w
      go t w (once t' w' k) h only = inl (only w k)
      go t w (again t' u w' k rest) h only = inr (subst (λ x. IsReached rows x w) (only u k) rest)

pub first_is_any : (rows : List RewriteRow) (t u : Term) → IsFirstFit rows t u → Any (λ row. FitsRow row t) rows
first_is_any [] t u h = absurd h
first_is_any (row ∷ rows) t u (inl r) = any_here (λ row. FitsRow row t) row rows (u, r)
first_is_any (row ∷ rows) t u (inr (none, h)) = any_later (λ row. FitsRow row t) row rows (first_is_any rows t u h)

any_fits : (rows : List RewriteRow) (t u : Term) → Any (λ row. Rewrites row t u) rows → Any (λ row. FitsRow row t) rows
any_fits [] t u h = absurd (any_none (λ row. Rewrites row t u) h)
any_fits (row ∷ rows) t u h =
    elim (any_cases (λ row. Rewrites row t u) row rows h) [
      | inl r ↦ any_here (λ row. FitsRow row t) row rows (u, r)
      | inr later ↦ any_later (λ row. FitsRow row t) row rows (any_fits rows t u later)
    ]

-- a term that fits no row is simplified to none
pub none_simplifies : (rows : List RewriteRow) (t u : Term) → (Any (λ row. FitsRow row t) rows → ⊥) → ¬ Simplifies rows t u
none_simplifies rows t u none h =
    elim h [
      | inl any ↦ none (any_fits rows t u any)
      | inr reached ↦ reached_none rows t u (λ w first. none (first_is_any rows t w first)) reached
    ]

-- the row at a place
pub record RowAt (whole rows : List RewriteRow) (i : ℕ) (parts : RowParts) : Type 0 where
  pub row : RewriteRow
  pub is : drop i rows ≡ row ∷ drop (suc i) rows
  pub there : Contains rows row
  pub parts_are : IsRow whole row parts

pub row_at : (whole : List RewriteRow) (i : ℕ) (rows : List RewriteRow) (parts : List RowParts) (d : RowParts) → AllZip (IsRow whole) rows parts → i < length parts → RowAt whole rows i (get_or parts i d)
row_at whole i [] [] d h below = absurd (omega (arith, below))
row_at whole i [] (q ∷ parts) d h below = absurd h
row_at whole i (row ∷ rows) [] d h below = absurd h
row_at whole zero (row ∷ rows) (q ∷ parts) d h below = record { row = row; is = refl; there = contains_head row rows; parts_are = h.0 }
row_at whole (suc i) (row ∷ rows) (q ∷ parts) d h below =
    let later = row_at whole i rows parts d h.1 (omega (arith, below)) in
    record { row = later.row; is = later.is; there = contains_later row later.row rows later.there; parts_are = later.parts_are }

pub rows_end : (whole : List RewriteRow) (n : ℕ) (rows : List RewriteRow) (parts : List RowParts) → AllZip (IsRow whole) rows parts → length parts ≤ n → drop n rows ≡ []
rows_end whole zero [] parts h end = refl
rows_end whole (suc n) [] parts h end = refl
rows_end whole n (row ∷ rows) [] h end = absurd h
rows_end whole zero (row ∷ rows) (q ∷ parts) h end = absurd (omega (arith, end))
rows_end whole (suc n) (row ∷ rows) (q ∷ parts) h end = rows_end whole n rows parts h.1 (omega (arith, end))

-- rows are tried one after the other for the first that fits
pub first_here : (row : RewriteRow) (rows : List RewriteRow) (t u : Term) → FitsRow row t → Rewrites row t u ↔ IsFirstFit (row ∷ rows) t u
first_here row rows t u fits = (λ r. inl r, λ h. elim h [ inl r ↦ r | inr later ↦ absurd (later.0 fits) ])

pub first_later : (row : RewriteRow) (rows : List RewriteRow) (t u : Term) → (¬ FitsRow row t) → IsFirstFit rows t u ↔ IsFirstFit (row ∷ rows) t u
first_later row rows t u none = (λ h. inr (none, h), λ h. elim h [ inl r ↦ absurd (none (u, r)) | inr later ↦ later.1 ])

-- rows are tried one after the other for one that rewrites
pub any_not_here : (row : RewriteRow) (rows : List RewriteRow) (t u : Term) → (¬ Rewrites row t u) → Any (λ row. Rewrites row t u) (row ∷ rows) → Any (λ row. Rewrites row t u) rows
any_not_here row rows t u none h = elim (any_cases (λ row. Rewrites row t u) row rows h) [ inl r ↦ absurd (none r) | inr later ↦ later ]

pub any_at : {X : Type 0} (P : X → Type 0) (i : ℕ) (xs : List X) → Any P (drop i xs) → Any P xs
any_at P zero xs h = h
any_at P (suc i) [] h = h
any_at P (suc i) (x ∷ xs) h = any_later P x xs (any_at P i xs h)

pub all_at : {X : Type 0} (P : X → Type 0) (xs : List X) (x : X) → AllByRecursion P xs → Contains xs x → P x
all_at P [] x h there = absurd (contains_none x there)
all_at P (y ∷ xs) x h there =
    elim (contains_cases y x xs there) [
      | inl e ↦ subst P e h.0
      | inr later ↦ all_at P xs x h.1 later
    ]
