-- Rows that are kept.
use Rattle.std.proofs.Common.{◌≡◌, inl, inr, ℕ, zero, suc, List, [], ◌∷◌, take, get_or, None, Some, Contains, sym, ◌∙◌, subst}
use Rattle.pair_pool.specs.Views.{IsKnown, IsOneToOne}
use Rattle.sym_table.specs.Table.{Table}
use Rattle.term_model.proofs.Lists.{contains_none, contains_cases, contains_head, contains_later}
use Rattle.term_model.proofs.Zips.{zip_weaken}
use Rattle.term_model.specs.Terms.{Term}
use Rattle.term_pool.specs.Reading.{arguments_of, IsLet}
use Rattle.term_pool.specs.StandsFor.{StandsFor}
use Rattle.term_pool.specs.Views.{TermsView, RefersTo, ReferToAll, KeepsTerms}
use Rattle.known_args.specs.Rows.{AreRows, IsRowOf, RowView}

row_stays : (v w : TermsView) → KeepsTerms v w → (r : ℕ) (items : List ℕ) → IsRowOf v r items → IsRowOf w r items
row_stays v w keeps r items h = record {
  tree = h.tree;
  known = keeps.pass.grows r h.tree h.known;
  refer = λ s t stands fails.
      zip_weaken (RefersTo s v) (RefersTo s w) (λ q u refers. record { tree = refers.tree; known = keeps.pass.grows q refers.tree refers.known; stands = refers.stands })
      items (arguments_of t) (h.refer s t stands fails);
}

pub rows_stay : (v w : TermsView) (rows : List RowView) → KeepsTerms v w → AreRows v rows → AreRows w rows
rows_stay v w rows keeps right row r there of = row_stays v w keeps r row.1 (right row r there of)

contains_taken : (n : ℕ) (rows : List RowView) (row : RowView) → Contains (take n rows) row → Contains rows row
contains_taken zero rows row h = absurd (contains_none row h)
contains_taken (suc n) [] row h = absurd (contains_none row h)
contains_taken (suc n) (x ∷ rows) row h =
    elim (contains_cases x row (take n rows) h) [
      | inl e ↦ subst (Contains (x ∷ rows)) e (contains_head x rows)
      | inr later ↦ contains_later x row rows (contains_taken n rows row later)
    ]

none_of : (v : TermsView) (row : RowView) (r : ℕ) → (None, []) ≡ row → row.0 ≡ Some r → IsRowOf v r row.1
none_of v row r e of = absurd (let f = subst (λ (x : RowView). x.0 ≡ Some r) (sym e) of in cc)

-- a row of no application may stand before others
pub none_before : (v : TermsView) (rows : List RowView) → AreRows v rows → AreRows v ((None, []) ∷ rows)
none_before v rows right row r there of =
    elim (contains_cases (None, []) row rows there) [ inl e ↦ none_of v row r e of | inr later ↦ right row r later of ]

module _ (v : TermsView) (last : RowView) (kept : List RowView) (right : AreRows v (last ∷ kept)) where
  pub some_kept : (n : ℕ) → AreRows v (take n kept)
  some_kept n row r there of = right row r (contains_later last row kept (contains_taken n kept row there)) of

  pub one_more : (n : ℕ) → AreRows v (last ∷ take n kept)
  one_more n row r there of =
      elim (contains_cases last row (take n kept) there) [
        | inl same ↦ right row r (subst (Contains (last ∷ kept)) same (contains_head last kept)) of
        | inr later ↦ some_kept n row r later of
      ]

  -- another row is read
  pub row_read : (new : RowView) (q : ℕ) → new.0 ≡ Some q → IsRowOf v q new.1 → AreRows v (new ∷ kept)
  row_read new q of_new is row r there of =
      elim (contains_cases new row kept there) [
        | inl same ↦ subst (λ (x : RowView). IsRowOf v r x.1) same
            (subst (λ n. IsRowOf v n new.1) (let e : Some q ≡ Some r = sym of_new ∙ subst (λ (x : RowView). x.0 ≡ Some r) (sym same) of in cc) is)
        | inr later ↦ right row r (contains_later last row kept later) of
      ]

  pub row_kept : (n r : ℕ) → (get_or kept n last).0 ≡ Some r → IsRowOf v r (get_or kept n last).1
  row_kept n r of = right (get_or kept n last) r (there kept n) of
    where
      there : (rows : List RowView) (n : ℕ) → Contains (last ∷ rows) (get_or rows n last)
      there [] n = contains_head last []
      there (x ∷ rows) zero = contains_later last x (x ∷ rows) (contains_head x rows)
      there (x ∷ rows) (suc n) =
          elim (contains_cases last (get_or rows n last) rows (there rows n)) [
            | inl e ↦ subst (Contains (last ∷ (x ∷ rows))) e (contains_head last (x ∷ rows))
            | inr later ↦ contains_later last (get_or rows n last) (x ∷ rows) (contains_later x (get_or rows n last) rows later)
          ]

  pub row_last : (r : ℕ) → last.0 ≡ Some r → IsRowOf v r last.1
  row_last r of = right last r (contains_head last kept) of

-- the arguments that are read of an application
pub is_row : (v : TermsView) (r : ℕ) (items : List ℕ) → IsKnown v.pass r → ((s : Table) (t : Term) → RefersTo s v r t → (IsLet t → ⊥) → ReferToAll s v items (arguments_of t)) → IsRowOf v r items
is_row v r items known refer = record {
  tree = known.tree;
  known = known.stands;
  refer = λ s t stands fails. refer s t (record { tree = known.tree; known = known.stands; stands = stands }) fails;
}

pub row_arguments : (v : TermsView) → IsOneToOne v.pass → (r : ℕ) (items : List ℕ) → IsRowOf v r items → (s : Table) (t : Term) → RefersTo s v r t → (IsLet t → ⊥) → ReferToAll s v items (arguments_of t)
row_arguments v one r items h s t refers =
    h.refer s t (subst (λ a. StandsFor s a t) (one.one_tree r refers.tree h.tree refers.known h.known) refers.stands)
