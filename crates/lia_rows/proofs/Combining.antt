-- Plain combinations of rows by references are those of the rows for which they stand.
use Rattle.std.proofs.Common.{◌≡◌, ◌≢◌, ◌⊎◌, inl, inr, ◌↔◌, ◌≤◌, ◌<◌, ℕ, zero, suc, ◌+◌, ℤ, pos, negsuc, ◌+ℤ◌, ◌*ℤ◌, ◌≤ℤ◌, ◌<ℤ◌, Bool, true, false, List, [], ◌∷◌, ◌++◌, length, get_or, map, take, slice_get, Some, All, Any, Contains, refl, sym, ap, subst, ◌∙◌, arith}
use Rattle.std.specs.List.{AllZip}
use Rattle.std.proofs.Math.IntN.{*ℤ_comm, zero-*ℤ}
use Rattle.std.proofs.lemmas.Bool.{cases_lt}
use Rattle.std.proofs.lemmas.Int.{ints}
use Rattle.std.proofs.lemmas.List.Elements.{All-head, All-tail, All-cons, All-nil, All-contains, Contains-get_or}
use Rattle.term_model.proofs.Basics.{any_cases}
use Rattle.term_model.proofs.Lists.{contains_none, contains_head, contains_later}
use Rattle.sym_table.specs.Table.{Table}
use Rattle.term_model.specs.Terms.{Term}
use Rattle.term_pool.specs.Views.{TermsView, RefersTo, ReferToAll}
use Rattle.rule_model.specs.Arith.{Relation, exceeds, reaches, equals}
use Rattle.linear_forms.specs.Forms.{IsReferred}
use Rattle.lia_filler.specs.declared.row.Row as filler
use Rattle.lia_filler.specs.Plain as plain
use Rattle.lia_filler.specs.Plain.{coef, bound}
use Rattle.lia_rows.specs.declared.rows.Rows.{Rows}
use Rattle.lia_rows.specs.Combinations.{bound_of, coefficient_of, multiplied, MayMultiply, IsPlainCombination, HaveColumns, AreSearched}
use Rattle.lia_rows.specs.Found.{is_equality, StandsForRow, IsColumn, AreFound}
use Rattle.lia_rows.specs.Rows.{Row}
use Rattle.lia_rows.proofs.Lists.{place, zip_weaker}

-- ---- sums over lists in step
same_sums : (f : filler.Row → ℤ) (g : Row → ℤ) (found : List filler.Row) (rows : List Row) (ms : List ℤ) → AllZip (λ (a : filler.Row) (b : Row). f a ≡ g b) found rows
    → plain.multiplied f found ms ≡ multiplied g rows ms
same_sums f g [] [] ms zip = refl
same_sums f g (a ∷ found) (b ∷ rows) [] zip = refl
same_sums f g (a ∷ found) (b ∷ rows) (m ∷ ms) zip =
    omega (arith, ints, ap (λ z. m *ℤ z) zip.0, same_sums f g found rows ms zip.1)
same_sums f g [] (b ∷ rows) ms zip = absurd zip
same_sums f g (a ∷ found) [] ms zip = absurd zip

times_nothing : (m : ℤ) → m *ℤ pos 0 ≡ pos 0
times_nothing m = omega (arith, ints, *ℤ_comm m (pos 0), zero-*ℤ m)

no_sum : (g : Row → ℤ) (rows : List Row) (ms : List ℤ) → All (λ (b : Row). g b ≡ pos 0) rows → multiplied g rows ms ≡ pos 0
no_sum g [] ms all = refl
no_sum g (b ∷ rows) [] all = refl
no_sum g (b ∷ rows) (m ∷ ms) all =
    omega (
      arith,
      ints,
      ap (λ z. m *ℤ z) (All-head (λ (x : Row). g x ≡ pos 0) b rows all),
      times_nothing m,
      no_sum g rows ms (All-tail (λ (x : Row). g x ≡ pos 0) b rows all),
    )

nothing_found : (f : filler.Row → ℤ) (found : List filler.Row) (ms : List ℤ) → All (λ (a : filler.Row). f a ≡ pos 0) found → plain.multiplied f found ms ≡ pos 0
nothing_found f [] ms all = refl
nothing_found f (a ∷ found) [] all = refl
nothing_found f (a ∷ found) (m ∷ ms) all =
    omega (
      arith,
      ints,
      ap (λ z. m *ℤ z) (All-head (λ (x : filler.Row). f x ≡ pos 0) a found all),
      times_nothing m,
      nothing_found f found ms (All-tail (λ (x : filler.Row). f x ≡ pos 0) a found all),
    )

pub same_lengths : (found : List filler.Row) (ms : List ℤ) → AllZip plain.MayMultiply found ms → length found ≡ length ms
same_lengths [] [] zip = refl
same_lengths (a ∷ found) (m ∷ ms) zip = ap suc (same_lengths found ms zip.1)
same_lengths [] (m ∷ ms) zip = absurd zip
same_lengths (a ∷ found) [] zip = absurd zip

-- ---- signs
unequal : (r : Relation) → is_equality r ≡ false → r ≢ equals
unequal exceeds e = λ f. cc
unequal reaches e = λ f. cc
unequal equals e = absurd cc

no_equality : (r : Relation) → r ≢ equals → is_equality r ≡ false
no_equality exceeds h = refl
no_equality reaches h = refl
no_equality equals h = absurd (h refl)

module _ (s : Table) (v : TermsView) (columns : List ℕ) where
  abbrev Stands : filler.Row → Row → Type 0
  Stands = StandsForRow s v columns

  signs_out : (found : List filler.Row) (rows : List Row) (ms : List ℤ) → AllZip Stands found rows → AllZip plain.MayMultiply found ms → AllZip MayMultiply rows ms
  signs_out [] [] [] zip signs = tt
  signs_out (a ∷ found) (b ∷ rows) (m ∷ ms) zip signs =
      (λ h. signs.0 (zip.0.equal_is ∙ no_equality b.comparison.relation h), signs_out found rows ms zip.1 signs.1)
  signs_out [] (b ∷ rows) ms zip signs = absurd zip
  signs_out (a ∷ found) [] ms zip signs = absurd zip
  signs_out [] [] (m ∷ ms) zip signs = absurd signs
  signs_out (a ∷ found) (b ∷ rows) [] zip signs = absurd signs

  signs_in : (found : List filler.Row) (rows : List Row) (ms : List ℤ) → AllZip Stands found rows → AllZip MayMultiply rows ms → AllZip plain.MayMultiply found ms
  signs_in [] [] [] zip signs = tt
  signs_in (a ∷ found) (b ∷ rows) (m ∷ ms) zip signs =
      (λ h. signs.0 (unequal b.comparison.relation (sym zip.0.equal_is ∙ h)), signs_in found rows ms zip.1 signs.1)
  signs_in [] (b ∷ rows) ms zip signs = absurd zip
  signs_in (a ∷ found) [] ms zip signs = absurd zip
  signs_in [] [] (m ∷ ms) zip signs = absurd signs
  signs_in (a ∷ found) (b ∷ rows) [] zip signs = absurd signs

  -- ---- sums of coefficients
  bounds_are : (found : List filler.Row) (rows : List Row) (ms : List ℤ) → AllZip Stands found rows → plain.multiplied bound found ms ≡ multiplied bound_of rows ms
  bounds_are found rows ms zip =
      same_sums bound bound_of found rows ms (zip_weaker Stands (λ (a : filler.Row) (b : Row). bound a ≡ bound_of b) (λ a b is. is.bound_is) found rows zip)

  column_is : (found : List filler.Row) (rows : List Row) (ms : List ℤ) (column r : ℕ) (t : Term) → AllZip Stands found rows → slice_get columns column ≡ Some r → RefersTo s v r t
      → plain.multiplied (coef column) found ms ≡ multiplied (coefficient_of t) rows ms
  column_is found rows ms column r t zip at refers =
      same_sums (coef column) (coefficient_of t) found rows ms
      (zip_weaker Stands (λ (a : filler.Row) (b : Row). coef column a ≡ coefficient_of t b) (λ a b is. sym (is.right column r t at refers)) found rows zip)

  others_are : (found : List filler.Row) (rows : List Row) (r : ℕ) (t : Term) → AllZip Stands found rows → RefersTo s v r t → ¬ Contains columns r → All (λ (b : Row). coefficient_of t b ≡ pos 0) rows
  others_are [] [] r t zip refers none = All-nil (λ (b : Row). coefficient_of t b ≡ pos 0)
  others_are (a ∷ found) (b ∷ rows) r t zip refers none =
      All-cons (λ (x : Row). coefficient_of t x ≡ pos 0) b rows (zip.0.others r t refers none) (others_are found rows r t zip.1 refers none)
  others_are [] (b ∷ rows) r t zip refers none = absurd zip
  others_are (a ∷ found) [] r t zip refers none = absurd zip

  beyond_are : (found : List filler.Row) (rows : List Row) (column : ℕ) → AllZip Stands found rows → length columns ≤ column → column < 4 → All (λ (a : filler.Row). coef column a ≡ pos 0) found
  beyond_are [] [] column zip past small = All-nil (λ (a : filler.Row). coef column a ≡ pos 0)
  beyond_are (a ∷ found) (b ∷ rows) column zip past small =
      All-cons (λ (x : filler.Row). coef column x ≡ pos 0) a found (zip.0.beyond column past small) (beyond_are found rows column zip.1 past small)
  beyond_are [] (b ∷ rows) column zip past small = absurd zip
  beyond_are (a ∷ found) [] column zip past small = absurd zip

  -- a term has the coefficient 0 in all rows, or a reference
  covered_all : (found : List filler.Row) (rows : List Row) (t : Term) → AllZip Stands found rows → All (λ (b : Row). coefficient_of t b ≡ pos 0) rows ⊎ IsReferred s v t
  covered_all [] [] t zip = inl (All-nil (λ (b : Row). coefficient_of t b ≡ pos 0))
  covered_all (a ∷ found) (b ∷ rows) t zip = go (zip.0.covered t) (covered_all found rows t zip.1)
    where
      go : (coefficient_of t b ≡ pos 0) ⊎ IsReferred s v t → All (λ (x : Row). coefficient_of t x ≡ pos 0) rows ⊎ IsReferred s v t
          → All (λ (x : Row). coefficient_of t x ≡ pos 0) (b ∷ rows) ⊎ IsReferred s v t
      go (inr is) rest = inr is
      go (inl e) (inr is) = inr is
      go (inl e) (inl all) = inl (All-cons (λ (x : Row). coefficient_of t x ≡ pos 0) b rows e all)
  covered_all [] (b ∷ rows) t zip = absurd zip
  covered_all (a ∷ found) [] t zip = absurd zip

-- ---- combinations
module _ (s : Table) (v : TermsView) (found : Rows) (rows : List Row) (are : AreFound s v found rows) (ms : List ℤ) where
  pub combination_out : plain.IsPlainCombination found.rows.items ms → IsPlainCombination rows ms
  combination_out h = record {
    signs = signs_out s v found.columns.items found.rows.items rows ms are.each h.signs;
    cancels = λ u. cancels u (covered_all s v found.columns.items found.rows.items rows u are.each);
    over = subst (λ z. pos 0 <ℤ z) (bounds_are s v found.columns.items found.rows.items rows ms are.each) h.over;
  }
    where
      column : (u : Term) (r : ℕ) → RefersTo s v r u → ((k : ℕ) × (slice_get found.columns.items k ≡ Some r)) ⊎ (¬ Contains found.columns.items r) → multiplied (coefficient_of u) rows ms ≡ pos 0
      column u r refers (inl (k, at)) =
          sym (column_is s v found.columns.items found.rows.items rows ms k r u are.each at refers)
          ∙ h.cancels k (let few = are.few_columns in let below = there found.columns.items k r at in omega (arith, few, below))
        where
          there : (xs : List ℕ) (i q : ℕ) → slice_get xs i ≡ Some q → i < length xs
          there [] i q e = absurd cc
          there (x ∷ xs) zero q e = omega arith
          there (x ∷ xs) (suc i) q e = let b = there xs i q e in omega (arith, b)
      column u r refers (inr none) =
          no_sum (coefficient_of u) rows ms (others_are s v found.columns.items found.rows.items rows r u are.each refers none)

      cancels : (u : Term) → All (λ (b : Row). coefficient_of u b ≡ pos 0) rows ⊎ IsReferred s v u → multiplied (coefficient_of u) rows ms ≡ pos 0
      cancels u (inl all) = no_sum (coefficient_of u) rows ms all
      cancels u (inr is) = column u is.reference is.refers (place found.columns.items is.reference)

  pub combination_in : IsPlainCombination rows ms → plain.IsPlainCombination found.rows.items ms
  combination_in h = record {
    signs = signs_in s v found.columns.items found.rows.items rows ms are.each h.signs;
    cancels = λ column small. cancels column small (cases_lt column (length found.columns.items));
    over = subst (λ z. pos 0 <ℤ z) (sym (bounds_are s v found.columns.items found.rows.items rows ms are.each)) h.over;
  }
    where
      at : (xs : List ℕ) (k : ℕ) → k < length xs → slice_get xs k ≡ Some (get_or xs k 0)
      at [] k below = absurd (omega (arith, below))
      at (x ∷ xs) zero below = refl
      at (x ∷ xs) (suc k) below = at xs k (omega (arith, below))

      cancels : (column : ℕ) → column < 4 → (column < length found.columns.items) ⊎ (length found.columns.items ≤ column) → plain.multiplied (coef column) found.rows.items ms ≡ pos 0
      cancels column small (inl below) =
          let is = are.columns column 0 below in
          column_is s v found.columns.items found.rows.items rows ms column (get_or found.columns.items column 0) is.0 are.each (at found.columns.items column below) is.1
          ∙ h.cancels is.0
      cancels column small (inr past) =
          nothing_found (coef column) found.rows.items ms (beyond_are s v found.columns.items found.rows.items rows column are.each past small)

-- ---- the rows are searched
module _ (s : Table) (v : TermsView) where
  terms_of : (rows : List Row) (columns : List ℕ) → All (IsColumn s v rows) columns → (us : List Term) × ReferToAll s v columns us
  terms_of rows [] all = ([], tt)
  terms_of rows (r ∷ columns) all =
      let here = All-head (IsColumn s v rows) r columns all in
      let more = terms_of rows columns (All-tail (IsColumn s v rows) r columns all) in
      (here.0 ∷ more.0, (here.1, more.1))

  referred_lengths : (rs : List ℕ) (us : List Term) → ReferToAll s v rs us → length us ≡ length rs
  referred_lengths [] [] zip = refl
  referred_lengths (r ∷ rs) (u ∷ us) zip = ap suc (referred_lengths rs us zip.1)
  referred_lengths [] (u ∷ us) zip = absurd zip
  referred_lengths (r ∷ rs) [] zip = absurd zip

  term_there : ((p q : ℕ) (x y : Term) → RefersTo s v p x → RefersTo s v q y → (p ≡ q) ↔ (x ≡ y)) → (rs : List ℕ) (us : List Term) → ReferToAll s v rs us
      → (k r : ℕ) (t : Term) → slice_get rs k ≡ Some r → RefersTo s v r t → Contains us t
  term_there law [] us zip k r t at refers = absurd cc
  term_there law (q ∷ rs) [] zip k r t at refers = absurd zip
  term_there law (q ∷ rs) (u ∷ us) zip zero r t at refers =
      let same : q ≡ r = cc in
      subst (λ x. Contains (x ∷ us) t) (sym ((law q r u t zip.0 refers).0 same)) (contains_head t us)
  term_there law (q ∷ rs) (u ∷ us) zip (suc k) r t at refers = contains_later u t us (term_there law rs us zip.1 k r t at refers)

  pub are_searched : ((p q : ℕ) (x y : Term) → RefersTo s v p x → RefersTo s v q y → (p ≡ q) ↔ (x ≡ y)) → (found : Rows) (rows : List Row) → AreFound s v found rows → AreSearched rows
  are_searched law found rows are = record { few = are.few; columns = columns; small = are.small }
    where
      terms : (us : List Term) × ReferToAll s v found.columns.items us
      terms = terms_of rows found.columns.items are.columns

      some : (g : Row → ℤ) (rs : List Row) → All (λ (b : Row). g b ≡ pos 0) rs → Any (λ (b : Row). g b ≢ pos 0) rs → ⊥
      some g rs all (k, x, below, same, other) = other (subst (λ (b : Row). g b ≡ pos 0) same (all k x below))

      listed : (u : Term) (r : ℕ) → RefersTo s v r u → Any (λ (b : Row). coefficient_of u b ≢ pos 0) rows → ((k : ℕ) × (slice_get found.columns.items k ≡ Some r)) ⊎ (¬ Contains found.columns.items r) → Contains terms.0 u
      listed u r refers any (inl (k, at)) = term_there law found.columns.items terms.0 terms.1 k r u at refers
      listed u r refers any (inr none) =
          absurd (some (coefficient_of u) rows (others_are s v found.columns.items found.rows.items rows r u are.each refers none) any)

      each : (u : Term) → Any (λ (b : Row). coefficient_of u b ≢ pos 0) rows → All (λ (b : Row). coefficient_of u b ≡ pos 0) rows ⊎ IsReferred s v u → Contains terms.0 u
      each u any (inl all) = absurd (some (coefficient_of u) rows all any)
      each u any (inr is) = listed u is.reference is.refers any (place found.columns.items is.reference)

      columns : HaveColumns rows 4
      columns = record {
        columns = terms.0;
        few = (let few = are.few_columns in omega (arith, few, referred_lengths found.columns.items terms.0 terms.1));
        each = λ u any. each u any (covered_all s v found.columns.items found.rows.items rows u are.each);
      }
