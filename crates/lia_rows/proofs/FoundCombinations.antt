-- Combinations of rows that are found.
use Rattle.std.proofs.Common.{◌≡◌, ◌≢◌, ◌↔◌, ◌≤◌, ◌^◌, ℕ, ◌+◌, ℤ, unsigned_abs, List, [], ◌∷◌, length, map, Option, Some, All, refl, sym, ap, subst, ◌∙◌, arith}
use Rattle.std.specs.List.{AllZip}
use Rattle.std.proofs.lemmas.List.{length-map}
use Rattle.sym_table.specs.Table.{Table}
use Rattle.sort_check.specs.WellSorted.{IsWellSortedTerm}
use Rattle.term_model.specs.Terms.{Term}
use Rattle.term_pool.specs.Views.{TermsView, RefersTo, ReferToAll}
use Rattle.lia_filler.specs.declared.row.Row as filler
use Rattle.lia_filler.specs.Plain as plain
use Rattle.lia_rows.specs.declared.rows.Rows.{Rows}
use Rattle.lia_rows.specs.declared.refuting.Refutation.{Refutation}
use Rattle.lia_rows.specs.Combinations.{IsPlainCombination}
use Rattle.lia_rows.specs.Found.{StandsForRow, AreFound, TellsRows}
use Rattle.lia_rows.specs.Refutations.{IsRefutation, HaveNoRefutation}
use Rattle.lia_rows.specs.Rows.{Row, AreRowsOf}
use Rattle.lia_rows.specs.Steps.{used}
use Rattle.lia_rows.proofs.Assertions.{same_rows}
use Rattle.lia_rows.proofs.Combining.{same_lengths, combination_out, combination_in, are_searched}
use Rattle.lia_rows.proofs.Reading.{some_terms}
use Rattle.lia_rows.proofs.RowLemmas.{same_inequalities, all_narrow}
use Rattle.lia_rows.proofs.UsedLemmas.{used_zip, used-map}

zip_lengths : {A B : Type 0} (R : A → B → Type 0) (xs : List A) (ys : List B) → AllZip R xs ys → length xs ≡ length ys
zip_lengths R [] [] zip = refl
zip_lengths R (x ∷ xs) (y ∷ ys) zip = omega (arith, zip_lengths R xs ys zip.1)
zip_lengths R [] (y ∷ ys) zip = absurd zip
zip_lengths R (x ∷ xs) [] zip = absurd zip

abbrev assertion_of : Row → Term
assertion_of row = row.assertion

-- ---- the rows that are told of
module _ (s : Table) (v : TermsView) (refs : List ℕ) (o : Option Rows) (found : Rows) (is : o ≡ Some found)
    (tells : (ts : List Term) → ReferToAll s v refs ts → TellsRows s v ts o) where
  pub rows_told : (ts : List Term) → ReferToAll s v refs ts → (rows : List Row) × AreRowsOf ts rows × AreFound s v found rows
  rows_told ts zip = subst (TellsRows s v ts) is (tells ts zip)

  pub some_told : All (IsWellSortedTerm s v) refs → (ts : List Term) × ((rows : List Row) × AreRowsOf ts rows × AreFound s v found rows)
  some_told all = let terms = some_terms s v refs all in (terms.0, rows_told terms.0 terms.1)

-- ---- what is said of these rows
module _ (s : Table) (v : TermsView) (ts : List Term) (found : Rows) (rows : List Row) (given : AreRowsOf ts rows) (are : AreFound s v found rows) where
  pub few_rows : plain.inequalities_of found.rows.items ≤ 8
  few_rows = let few = are.few in omega (arith, few, same_inequalities s v found.columns.items found.rows.items rows are.each)

  pub narrow_rows : All plain.IsSmallRow found.rows.items
  narrow_rows = all_narrow s v found.columns.items found.rows.items rows are.each

  pub no_refutation : ((ms : List ℤ) → ¬ plain.IsPlainCombination found.rows.items ms) → HaveNoRefutation ts
  no_refutation none others given_others searched ms combination =
      none ms (combination_in s v found rows are ms (subst (λ rs. IsPlainCombination rs ms) (sym (same_rows ts rows others given given_others)) combination))

  pub each_has_multiplier : (ms : List ℤ) → plain.IsPlainCombination found.rows.items ms → length found.assertions.items ≡ length ms
  each_has_multiplier ms combination =
      let assertions = zip_lengths (RefersTo s v) found.assertions.items (map assertion_of rows) are.assertions in
      let each = zip_lengths (StandsForRow s v found.columns.items) found.rows.items rows are.each in
      omega (arith, assertions, each, length-map rows assertion_of, same_lengths found.rows.items ms combination.signs)

  pub refutation : ((p q : ℕ) (x y : Term) → RefersTo s v p x → RefersTo s v q y → (p ≡ q) ↔ (x ≡ y)) → (ms : List ℤ) (r : Refutation)
      → plain.IsPlainCombination found.rows.items ms → All (λ m. unsigned_abs m ≤ 2 ^ 105) ms
      → r.assertions.items ≡ used ms found.assertions.items → r.multipliers.items ≡ used ms ms → IsRefutation s v ts r
  refutation law ms r combination narrow assertions numbers = record {
    rows = rows;
    multipliers = ms;
    given = given;
    searched = are_searched s v law found rows are;
    combination = combination_out s v found rows are ms combination;
    narrow = narrow;
    assertions =
        subst (λ rs. ReferToAll s v rs (map assertion_of (used ms rows))) (sym assertions)
        (subst (ReferToAll s v (used ms found.assertions.items)) (used-map assertion_of ms rows) (used_zip (RefersTo s v) ms found.assertions.items (map assertion_of rows) are.assertions));
    numbers = numbers;
  }
