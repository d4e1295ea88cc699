-- The rows of the first assertions, and of one more.
use Rattle.std.proofs.Common.{◌≡◌, ◌<◌, ◌≤◌, ℕ, ◌+◌, Bool, true, false, List, [], ◌∷◌, ◌++◌, length, get_or, take, map, Some, All, Result, IfOk, refl, sym, ap, subst, ◌∙◌, arith}
use Rattle.std.specs.List.{AllZip}
use Rattle.std.proofs.lemmas.List.{take_more, take_all, append-nil, append_assoc}
use Rattle.std.proofs.lemmas.List.Elements.{All-nil, All-take}
use Rattle.std.proofs.lemmas.Result.{IfOk-weaker}
use Rattle.sym_table.specs.Table.{Table}
use Rattle.sort_check.specs.WellSorted.{IsWellSortedTerm}
use Rattle.term_model.specs.Terms.{Term}
use Rattle.term_pool.specs.Views.{TermsView, RefersTo, ReferToAll, IsTerm}
use Rattle.linear_lines.specs.declared.comparisons as code
use Rattle.linear_lines.specs.Comparisons.{StandsForComparison}
use Rattle.lia_rows.specs.declared.rows.Rows.{Rows}
use Rattle.lia_rows.specs.Combinations.{AreSearched, IsSmall}
use Rattle.lia_rows.specs.Found.{IsRowRead, StandsForRow, IsColumn, AreFound, IsRowAdded, AreTooMany, AreMoreFound, IsAssertionAdded}
use Rattle.lia_rows.specs.Rows.{Row, GivesNoRow, AreRowsOf, none, given, other}
use Rattle.lia_rows.proofs.Assertions.{rows_append, stopped}
use Rattle.lia_rows.proofs.Lists.{IsSplit, split, IsEnd, end_of}
use Rattle.lia_rows.proofs.Reading.{some_terms}

module _ (s : Table) (v : TermsView) where
  -- ---- one assertion
  pub nothing_added : (t : Term) (before : List Row) (new : Rows) → GivesNoRow t → AreFound s v new before → IsAssertionAdded s v t before new true
  nothing_added t before new unsaid found = ([], other t [] [] unsaid none, subst (AreFound s v new) (sym (append-nil before)) found)

  pub row_added : (t : Term) (l : code.Comparison.Comparison) (before : List Row) (new : Rows) (going : Bool) → (is : IsRowRead s v t (Some l))
      → IsRowAdded s v before is.0 new going → IsAssertionAdded s v t before new going
  row_added t l before new going is added = (is.0 ∷ [], given t is.0 [] [] is.1 is.2 none, added)

  pub read_terms : (t : Term) (l : code.Comparison.Comparison) → IsRowRead s v t (Some l) → IsTerm s v l.first × IsTerm s v l.second
  read_terms t l (row, same, is, stands) =
      (record { means = row.comparison.first; refers = stands.first }, record { means = row.comparison.second; refers = stands.second })

  -- ---- the first assertions
  abbrev pub HaveFound : List ℕ → Rows → Type 0
  HaveFound refs found = (ts : List Term) → ReferToAll s v refs ts → (rows : List Row) × AreRowsOf ts rows × AreFound s v found rows

  pub none_found : (found : Rows) → found.rows.items ≡ [] → found.assertions.items ≡ [] → found.columns.items ≡ [] → HaveFound [] found
  none_found found no_rows no_assertions no_columns [] zip = (
    [],
    none,
    record {
      each = subst (λ fs. AllZip (StandsForRow s v found.columns.items) fs []) (sym no_rows) tt;
      assertions = subst (λ rs. ReferToAll s v rs []) (sym no_assertions) tt;
      columns = subst (All (IsColumn s v [])) (sym no_columns) (All-nil (IsColumn s v []));
      apart = subst (λ (xs : List ℕ). (i j d : ℕ) → i < j → j < length xs → get_or xs i d ≡ get_or xs j d → ⊥) (sym no_columns) (λ i j d less below. absurd (omega (arith, below)));
      few_columns = subst (λ (xs : List ℕ). length xs ≤ 4) (sym no_columns) (omega arith);
      few = omega arith;
      small = All-nil IsSmall;
    },
  )
  none_found found no_rows no_assertions no_columns (t ∷ ts) zip = absurd zip

  pub some_before : (refs : List ℕ) (k : ℕ) (old : Rows) → All (IsWellSortedTerm s v) refs → HaveFound (take k refs) old → (before : List Row) × AreFound s v old before
  some_before refs k old all found =
      let terms = some_terms s v (take k refs) (All-take (IsWellSortedTerm s v) k refs all) in
      let rows = found terms.0 terms.1 in
      (rows.0, rows.2)

  -- ---- one assertion more
  module _ (refs : List ℕ) (k r : ℕ) (old new : Rows) (going : Bool) (found : HaveFound (take k refs) old) (below : k < length refs) (is : r ≡ get_or refs k r)
      (added : (before : List Row) (t : Term) → AreFound s v old before → RefersTo s v r t → IsAssertionAdded s v t before new going) where
    pub one_more : going ≡ true → HaveFound (take (k + 1) refs) new
    one_more goes ts zip =
        subst (λ us. (rows : List Row) × AreRowsOf us rows × AreFound s v new rows) (sym e.whole)
        (rows.0 ++ more.0, rows_append e.front (e.last ∷ []) rows.0 more.0 rows.1 more.1, subst (AreMoreFound s v new (rows.0 ++ more.0)) goes more.2)
      where
        e : IsEnd (RefersTo s v) (take k refs) r ts
        e = end_of (RefersTo s v) (take k refs) r ts (subst (λ rs. ReferToAll s v rs ts) (take_more refs k r below ∙ ap (λ z. take k refs ++ z ∷ []) (sym is)) zip)

        rows : (rs : List Row) × AreRowsOf e.front rs × AreFound s v old rs
        rows = found e.front e.zip

        more : IsAssertionAdded s v e.last rows.0 new going
        more = added rows.0 e.last rows.2 e.is

    pub stops : going ≡ false → (ts : List Term) → ReferToAll s v refs ts → (all : List Row) → AreRowsOf ts all → ¬ AreSearched all
    stops ends ts zip all are =
        stopped ts e.front e.rest e.here rows.0 more.0 all e.whole rows.1 more.1 (subst (AreMoreFound s v new (rows.0 ++ more.0)) ends more.2) are
      where
        e : IsSplit (RefersTo s v) refs k r ts
        e = split (RefersTo s v) refs k r ts zip below is

        rows : (rs : List Row) × AreRowsOf e.front rs × AreFound s v old rs
        rows = found e.front e.zip

        more : IsAssertionAdded s v e.here rows.0 new going
        more = added rows.0 e.here rows.2 e.is
