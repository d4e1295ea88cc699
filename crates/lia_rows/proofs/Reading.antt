-- Whether an assertion gives a row.
use Rattle.std.proofs.Common.{◌≡◌, ◌≤◌, ◌<◌, ℕ, List, [], ◌∷◌, Some, None, All, refl, sym, ap, subst, ◌∙◌, arith}
use Rattle.std.proofs.lemmas.List.Elements.{All-head, All-tail}
use Rattle.sym_table.specs.Table.{Table}
use Rattle.sort_check.specs.WellSorted.{IsWellSortedTerm}
use Rattle.term_model.specs.Heights.{height}
use Rattle.term_model.specs.Terms.{Term, not_of}
use Rattle.term_pool.specs.Views.{TermsView, RefersTo, ReferToAll}
use Rattle.rule_model.specs.Arith.{Comparison, denial}
use Rattle.linear_lines.specs.declared.comparisons as code
use Rattle.linear_lines.specs.Comparisons.{IsDenialRead}
use Rattle.lia_rows.specs.Found.{IsRowRead}
use Rattle.lia_rows.specs.Rows.{Row, IsRow, GivesNoRow}

module _ (s : Table) (v : TermsView) (t : Term) where
  pub says_nothing : IsDenialRead s v (not_of t) None → GivesNoRow t
  says_nothing none row is e =
      none row.comparison (ap (λ (u : Term). denial (not_of u)) (sym e) ∙ is.says) (record { first = is.first; second = is.second })

  pub too_high : (h : ℕ) → h ≡ height t → 1999 < h → GivesNoRow t
  too_high h same over row is e =
      let low : height t ≤ 1999 = subst (λ (u : Term). height u ≤ 1999) e is.low in
      absurd (omega (arith, same, over, low))

  pub row_read : (l : code.Comparison.Comparison) → IsDenialRead s v (not_of t) (Some l) → height t ≤ 1999 → IsRowRead s v t (Some l)
  row_read l (c, says, stands, numbers) low =
      (record { assertion = t; comparison = c }, refl, record { low = low; says = says; first = numbers.first; second = numbers.second }, stands)

-- well-sorted references stand for some terms
pub some_terms : (s : Table) (v : TermsView) (rs : List ℕ) → All (IsWellSortedTerm s v) rs → (ts : List Term) × ReferToAll s v rs ts
some_terms s v [] all = ([], tt)
some_terms s v (r ∷ rs) all =
    let first = All-head (IsWellSortedTerm s v) r rs all in
    let others = some_terms s v rs (All-tail (IsWellSortedTerm s v) r rs all) in
    (first.means ∷ others.0, (first.refers, others.1))
