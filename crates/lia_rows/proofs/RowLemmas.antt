-- Rows that are found, and one row more.
use Rattle.std.proofs.Common.{◌≡◌, ◌≢◌, ◌⊎◌, inl, inr, ◌≤◌, ◌<◌, ℕ, zero, suc, ◌+◌, ℤ, pos, neg_ℤ, ◌-ℤ◌, unsigned_abs, Bool, true, false, if◌then◌else◌, IsTrue, ◌↔◌, List, [], ◌∷◌, ◌++◌, length, get_or, map, slice_get, Some, All, Any, Contains, Option, refl, sym, ap, subst, ◌∙◌, arith}
use Rattle.std.specs.List.{AllZip}
use Rattle.std.proofs.lemmas.Bool.{cases_lt}
use Rattle.std.proofs.lemmas.Int.{ints}
use Rattle.std.proofs.lemmas.List.{length-append, map-append}
use Rattle.std.proofs.lemmas.List.Elements.{All-head, All-tail, All-cons, All-nil, All-push, All-weaker, All-append, All-contains, Contains-push, Contains-append_left, Contains-append_right}
use Rattle.std.proofs.lemmas.List.Quantifiers.{Any-push}
use Rattle.sym_table.specs.Table.{Table}
use Rattle.term_model.specs.Terms.{Term}
use Rattle.term_pool.specs.Views.{TermsView, RefersTo, ReferToAll}
use Rattle.rule_model.specs.Arith.{Relation, exceeds, reaches, equals, Comparison, bound_by, coefficient_in, denial}
use Rattle.rule_model.specs.LinearForms.{constant}
use Rattle.linear_forms.specs.declared.nodes.Coefficient.{Coefficient}
use Rattle.linear_forms.specs.Coefficients.{sum_at}
use Rattle.linear_forms.specs.Forms.{IsReferred}
use Rattle.lia_filler.specs.declared.row.Row as filler
use Rattle.lia_filler.specs.Plain as filler_plain
use Rattle.lia_filler.specs.Plain.{coef, IsSmallRow}
use Rattle.lia_rows.specs.declared.rows.Rows.{Rows}
use Rattle.lia_rows.specs.Columns.{AreApart, AreAdded, HaveFive, TellsAdded}
use Rattle.lia_rows.specs.Combinations.{bound_of, coefficient_of, inequalities_in, inequalities_of, IsSmall, HaveColumns, AreSearched}
use Rattle.lia_rows.specs.Forms.{term_of, IsSmallForm, IsTooLarge}
use Rattle.lia_rows.specs.Found.{is_equality, StandsForRow, IsColumn, AreFound, AreTooMany, AreMoreFound}
use Rattle.lia_rows.specs.Rows.{Row}
use Rattle.lia_rows.proofs.FormLemmas.{all_within, term_used, term_unused}
use Rattle.lia_rows.proofs.Lists.{at_place, within, in_front, place, apart_places, no_more, zip_more, zip_weaker, any_left}

-- ---- inequalities
pub inequalities-append : (xs ys : List Row) → inequalities_of (xs ++ ys) ≡ inequalities_of xs + inequalities_of ys
inequalities-append [] ys = omega arith
inequalities-append (x ∷ xs) ys = omega (arith, inequalities-append xs ys)

one_inequality : (r : Relation) (b : Bool) → b ≡ is_equality r → (if b then 2 else 1) ≡ inequalities_in r
one_inequality exceeds false e = refl
one_inequality exceeds true e = absurd cc
one_inequality reaches false e = refl
one_inequality reaches true e = absurd cc
one_inequality equals true e = refl
one_inequality equals false e = absurd cc

module _ (s : Table) (v : TermsView) where
  pub same_inequalities : (columns : List ℕ) (found : List filler.Row) (rows : List Row) → AllZip (StandsForRow s v columns) found rows → filler_plain.inequalities_of found ≡ inequalities_of rows
  same_inequalities columns [] [] zip = refl
  same_inequalities columns (f ∷ found) (row ∷ rows) zip =
      let one = one_inequality row.comparison.relation f.equal zip.0.equal_is in
      omega (arith, one, same_inequalities columns found rows zip.1)
  same_inequalities columns [] (row ∷ rows) zip = absurd zip
  same_inequalities columns (f ∷ found) [] zip = absurd zip

  pub all_narrow : (columns : List ℕ) (found : List filler.Row) (rows : List Row) → AllZip (StandsForRow s v columns) found rows → All IsSmallRow found
  all_narrow columns [] [] zip = All-nil IsSmallRow
  all_narrow columns (f ∷ found) (row ∷ rows) zip = All-cons IsSmallRow f found zip.0.narrow (all_narrow columns found rows zip.1)
  all_narrow columns [] (row ∷ rows) zip = absurd zip
  all_narrow columns (f ∷ found) [] zip = absurd zip

  -- ---- more columns
  grown_row : (old refs new : List ℕ) (found : filler.Row) (row : Row) → AreAdded old refs new → StandsForRow s v old found row → StandsForRow s v new found row
  grown_row old refs new found row h is = record {
    equal_is = is.equal_is;
    bound_is = is.bound_is;
    right = λ column r t at refers. right column r t at refers (cases_lt column (length old));
    beyond = λ column past small.
        (let grown : length new ≡ length old + length h.more = ap length h.grown ∙ length-append old h.more in
        is.beyond column (omega (arith, past, grown)) small);
    others = λ r t refers none. is.others r t refers (λ there. none (subst (λ xs. Contains xs r) (sym h.grown) (Contains-append_left old h.more r there)));
    covered = is.covered;
    narrow = is.narrow;
  }
    where
      joined_at : (column r : ℕ) → slice_get new column ≡ Some r → slice_get (old ++ h.more) column ≡ Some r
      joined_at column r at = subst (λ xs. slice_get xs column ≡ Some r) h.grown at

      right : (column r : ℕ) (t : Term) → slice_get new column ≡ Some r → RefersTo s v r t → (column < length old) ⊎ (length old ≤ column) → coefficient_of t row ≡ coef column found
      right column r t at refers (inl before) = is.right column r t (in_front old h.more column r (joined_at column r at) before) refers
      right column r t at refers (inr behind) =
          let small = h.few in
          let below = within new column r at in
          is.others r t refers (λ there. elsewhere there) ∙ sym (is.beyond column behind (omega (arith, small, below)))
        where
          elsewhere : Contains old r → ⊥
          elsewhere (k, below, e) =
              apart_places new k column r h.apart
              (subst (λ xs. slice_get xs k ≡ Some r) (sym h.grown) (at_left old k below e)) at (omega (arith, below, behind))
            where
              at_left : (xs : List ℕ) (i : ℕ) → i < length xs → get_or xs i r ≡ r → slice_get (xs ++ h.more) i ≡ Some r
              at_left [] i l f = absurd (omega (arith, l))
              at_left (x ∷ xs) zero l f = ap Some f
              at_left (x ∷ xs) (suc i) l f = at_left xs i (omega (arith, l)) f

  -- ---- the row of a form
  pub made_row : (c : Comparison) (n : ℤ) (cs : List Coefficient) (old columns : List ℕ) (found : filler.Row) (row : Row) → row.comparison ≡ c → IsSmallForm s v c n cs
      → AreAdded old (map term_of cs) columns
      → found.equal ≡ is_equality c.relation → found.bound ≡ bound_by c.relation (neg_ℤ n)
      → ((column r : ℕ) → slice_get columns column ≡ Some r → coef column found ≡ sum_at cs r)
      → ((column : ℕ) → length columns ≤ column → column < 4 → coef column found ≡ pos 0) → IsSmallRow found → StandsForRow s v columns found row
  made_row c n cs old columns found row same form added equal bound right beyond narrow =
      subst (StandsForRow s v columns found) (sym row_is) (record {
        equal_is = equal;
        bound_is = bound ∙ ap (bound_by c.relation) (let is = form.constant_is in omega (arith, ints, is));
        right = λ column r t at refers. form.coefficients.right r t refers ∙ sym (right column r at);
        beyond = beyond;
        others = λ r t refers none.
            term_unused s v c cs form.coefficients r t refers (λ there. none (All-contains (Contains columns) (map term_of cs) r added.each there));
        covered = form.coefficients.covered;
        narrow = narrow;
      })
    where
      row_is : row ≡ record { assertion = row.assertion; comparison = c }
      row_is = ap (λ (x : Comparison). record { assertion = row.assertion; comparison = x }) same

  -- ---- the columns of one row more
  column_left : (rows more : List Row) (r : ℕ) → IsColumn s v rows r → IsColumn s v (rows ++ more) r
  column_left rows more r (t, refers, some) = (t, refers, any_left (λ (row : Row). coefficient_of t row ≢ pos 0) rows more some)

  column_last : (rows : List Row) (row : Row) (n : ℤ) (cs : List Coefficient) → IsSmallForm s v row.comparison n cs → (r : ℕ) → Contains (map term_of cs) r → IsColumn s v (rows ++ row ∷ []) r
  column_last rows row n cs form r there =
      let is = term_used s v row.comparison cs form.coefficients r there in
      (is.0, is.1, Any-push (λ (x : Row). coefficient_of is.0 x ≢ pos 0) rows row is.2)

  -- ---- rows that are not searched
  pub too_large : (rows : List Row) (row : Row) → IsTooLarge row.comparison → AreTooMany (rows ++ row ∷ [])
  too_large rows row large rest searched =
      large row refl (All-contains IsSmall ((rows ++ row ∷ []) ++ rest) row searched.small (Contains-append_left (rows ++ row ∷ []) rest row (Contains-push rows row)))

  pub too_many_columns : (rows : List Row) (row : Row) (n : ℤ) (cs : List Coefficient) (old : List ℕ) → ((p q : ℕ) (x y : Term) → RefersTo s v p x → RefersTo s v q y → (p ≡ q) ↔ (x ≡ y))
      → All (IsColumn s v rows) old → IsSmallForm s v row.comparison n cs → HaveFive old (map term_of cs) → AreTooMany (rows ++ row ∷ [])
  too_many_columns rows row n cs old law columns form h rest searched =
      let four = searched.columns.few in
      let five = h.count in
      let below = no_more (RefersTo s v) (λ p q t one another. (law p q t t one another).1 refl) h.five searched.columns.columns h.apart all in
      absurd (omega (arith, four, five, below))
    where
      column : (r : ℕ) → Contains old r ⊎ Contains (map term_of cs) r → IsColumn s v (rows ++ row ∷ []) r
      column r (inl there) = column_left rows (row ∷ []) r (All-contains (IsColumn s v rows) old r columns there)
      column r (inr there) = column_last rows row n cs form r there

      all : All (λ (r : ℕ). (t : Term) × RefersTo s v r t × Contains searched.columns.columns t) h.five
      all k d below =
          let is = column (get_or h.five k d) (h.from k d below) in
          (is.0, is.1, searched.columns.each is.0 (any_left (λ (x : Row). coefficient_of is.0 x ≢ pos 0) (rows ++ row ∷ []) rest is.2))

  -- ---- one row more
  module _ (rows : List Row) (row : Row) (n : ℤ) (cs : List Coefficient) (old new : Rows) (found : filler.Row) (reference : ℕ)
      (before : AreFound s v old rows) (form : IsSmallForm s v row.comparison n cs)
      (added : AreAdded old.columns.items (map term_of cs) new.columns.items)
      (rows_are : new.rows.items ≡ old.rows.items ++ found ∷ [])
      (is : StandsForRow s v new.columns.items found row) where
    each_more : AllZip (StandsForRow s v new.columns.items) new.rows.items (rows ++ row ∷ [])
    each_more =
        subst (λ fs. AllZip (StandsForRow s v new.columns.items) fs (rows ++ row ∷ [])) (sym rows_are)
        (zip_more (StandsForRow s v new.columns.items) old.rows.items rows found row
        (zip_weaker (StandsForRow s v old.columns.items) (StandsForRow s v new.columns.items)
        (λ f x h. grown_row old.columns.items (map term_of cs) new.columns.items f x added h) old.rows.items rows before.each) is)

    pub too_many_rows : ¬ ((filler_plain.inequalities_of new.rows.items ≤ 8) × All IsSmallRow new.rows.items) → AreTooMany (rows ++ row ∷ [])
    too_many_rows none rest searched =
        let same = same_inequalities new.columns.items new.rows.items (rows ++ row ∷ []) each_more in
        let few = searched.few in
        none (omega (arith, same, few, inequalities-append (rows ++ row ∷ []) rest), all_narrow new.columns.items new.rows.items (rows ++ row ∷ []) each_more)

    columns_more : All (IsColumn s v (rows ++ row ∷ [])) new.columns.items
    columns_more =
        subst (All (IsColumn s v (rows ++ row ∷ []))) (sym added.grown)
        (All-append (IsColumn s v (rows ++ row ∷ [])) old.columns.items added.more
        (All-weaker (IsColumn s v rows) (IsColumn s v (rows ++ row ∷ [])) (λ r h. column_left rows (row ∷ []) r h) old.columns.items before.columns)
        (All-weaker (Contains (map term_of cs)) (IsColumn s v (rows ++ row ∷ [])) (λ r h. column_last rows row n cs form r h) added.more added.from))

    abbrev assertion_of : Row → Term
    assertion_of x = x.assertion

    pub row_found : RefersTo s v reference row.assertion → new.assertions.items ≡ old.assertions.items ++ reference ∷ []
        → filler_plain.inequalities_of new.rows.items ≤ 8 → AreFound s v new (rows ++ row ∷ [])
    row_found refers assertions_are few =
        let same = same_inequalities new.columns.items new.rows.items (rows ++ row ∷ []) each_more in
        record {
          each = each_more;
          assertions =
              subst (λ rs. ReferToAll s v rs (map assertion_of (rows ++ row ∷ []))) (sym assertions_are)
              (subst (ReferToAll s v (old.assertions.items ++ reference ∷ [])) (sym (map-append assertion_of rows (row ∷ [])))
              (zip_more (RefersTo s v) old.assertions.items (map assertion_of rows) reference row.assertion before.assertions refers));
          columns = columns_more;
          apart = added.apart;
          few_columns = added.few;
          few = omega (arith, same, few);
          small = All-push IsSmall rows row before.small (record { coefficients = all_within s v row.comparison cs form.coefficients form.narrow; light = form.light });
        }

-- ---- what is told of one row more
pub with_five : (old refs new : List ℕ) (b : Bool) → TellsAdded old refs new b → b ≡ false → HaveFive old refs
with_five old refs new b told e = subst (TellsAdded old refs new) e told

pub with_columns : (old refs new : List ℕ) (b : Bool) → TellsAdded old refs new b → b ≡ true → AreAdded old refs new
with_columns old refs new b told e = subst (TellsAdded old refs new) e told

pub going_on : (s : Table) (v : TermsView) (new : Rows) (rows : List Row) (b : Bool) {P : Type 0} → (IsTrue b ↔ P) → (P → AreFound s v new rows) → ((P → ⊥) → AreTooMany rows)
    → AreMoreFound s v new rows b
going_on s v new rows true law found many = found (law.0 refl)
going_on s v new rows false law found many = many (λ p. let wrong = law.1 p in absurd cc)
