-- By the form of the row, and by the columns of its terms.
use Rattle.std.proofs.Common.{◌≡◌, ◌≤◌, ◌↔◌, IsTrue, neg_ℤ, to_z, of_z, [], ◌∷◌, ◌++◌, length, slice_get, Some, None, map, refl, sym, ap, subst, ◌∙◌, All, arith}
use Rattle.std.proofs.lemmas.Int.{ints}
use mir.Syntax.{w128}
use Rattle.linear_forms.specs.Coefficients.{sum_at, AreOfDifferentTerms}
use Rattle.linear_lines.specs.Comparisons.{StandsForComparison}
use Rattle.rule_model.specs.Arith.{Comparison, bound_by}
use Rattle.scaled_sums.specs.Relations.{relation_meant}
use Rattle.sym_table.specs.Table.{Table}
use Rattle.term_pool.specs.Views.{TermsView}
use Rattle.lia_filler.specs.Plain as plain
use Rattle.lia_filler.specs.Plain.{coef}
use Rattle.lia_rows.specs.declared.rows.Rows.{Rows}
use Rattle.lia_rows.specs.Columns.{AreAdded, TellsAdded}
use Rattle.lia_rows.specs.Forms.{term_of, IsNarrow, IsSmallForm, IsFormFound}
use Rattle.lia_rows.specs.Found.{is_equality, StandsForRow}
use Rattle.lia_rows.proofs.RowLemmas.{too_large, too_many_columns, with_five, with_columns, going_on, made_row, row_found, too_many_rows}
use Rattle.lia_rows.proofs.rows.add_row.Goals as goal

pub returns-in_default-clause-added : goal.returns-in_default-clause-added
returns-in_default-clause-added c before row found refers stands =
    let s = c.args.symbols.now in
    let v = c.args.terms.now in
    too_large s v before row (subst (λ o. IsFormFound s v row.comparison o c.form_of.new.found.items) c.in_default.is (c.in_ok-form.ensures.form row.comparison stands))

pub returns-then-not-added-clause-added : goal.returns-then-not-added-clause-added
returns-then-not-added-clause-added c before row found refers stands =
    let s = c.args.symbols.now in
    let v = c.args.terms.now in
    let cs = c.form_of.new.found.items in
    let form = subst (λ o. IsFormFound s v row.comparison o cs) c.in-Some.is (c.in_ok-form.ensures.form row.comparison stands) in
    too_many_columns s v before row c.in-Some.constant cs c.args.rows.now.columns.items (c.equal_exactly_where_terms_are.ensures s c.leaves_differ.ensures.table) found.columns form
    (with_five c.args.rows.now.columns.items (map term_of cs) c.add_columns.new.columns.items c.in_ok-added.added
    (subst (λ xs. TellsAdded c.args.rows.now.columns.items (map term_of xs) c.add_columns.new.columns.items c.in_ok-added.added) c.deref.ensures.value c.in_ok-added.ensures) c.if-not-added.true)

-- the comparison for which the references stand
abbrev meant : (c : goal.After-deref-3) → Comparison
meant c = record { relation = relation_meant c.args.comparison.relation; first = c.requires.first.means; second = c.requires.second.means }

form : (c : goal.After-deref-3) → IsSmallForm c.args.symbols.now c.args.terms.now (meant c) c.in-Some.constant c.form_of.new.found.items
form c =
    subst (λ o. IsFormFound c.args.symbols.now c.args.terms.now (meant c) o c.form_of.new.found.items) c.in-Some.is
    (c.in_ok-form.ensures.form (meant c) (record { relation = refl; first = c.requires.first.refers; second = c.requires.second.refers }))

pub row_of-row-requires-clause-apart : goal.row_of-row-requires-clause-apart
row_of-row-requires-clause-apart c = subst AreOfDifferentTerms (sym c.deref-3.ensures.value) (let is = form c in is.coefficients.apart)

pub row_of-row-requires-clause-narrow : goal.row_of-row-requires-clause-narrow
row_of-row-requires-clause-narrow c = subst (All IsNarrow) (sym c.deref-3.ensures.value) (let is = form c in is.narrow)

pub row_of-row-requires-clause-low : goal.row_of-row-requires-clause-low
row_of-row-requires-clause-low c = let is = form c in let low = is.low in omega (arith, ints, low)

pub returns-clause-added : goal.returns-clause-added
returns-clause-added c before row found refers stands =
    let s = c.args.symbols.now in
    let v = c.args.terms.now in
    let cs = c.form_of.new.found.items in
    let old = c.args.rows.now.columns.items in
    let new = c.add_columns.new.columns.items in
    let small = subst (λ o. IsFormFound s v row.comparison o cs) c.in-Some.is (c.in_ok-form.ensures.form row.comparison stands) in
    let added : AreAdded old (map term_of cs) new =
    with_columns old (map term_of cs) new c.in_ok-added.added
    (subst (λ xs. TellsAdded old (map term_of xs) new c.in_ok-added.added) c.deref.ensures.value c.in_ok-added.ensures) c.if-not-added.false in
    let made = c.row_of-row.ensures in
    let low = small.low in
    let wide : to_z w128 (of_z w128 c.in-Some.constant) ≡ c.in-Some.constant = omega (arith, ints, low) in
    let is : StandsForRow s v new c.row_of-row.result row =
    made_row s v row.comparison c.in-Some.constant cs old new c.row_of-row.result row refl small added
    (made.equal ∙ ap is_equality stands.relation)
    (subst (λ z. c.row_of-row.result.bound ≡ bound_by (relation_meant c.args.comparison.relation) (neg_ℤ z)) wide made.bound
    ∙ ap (λ r. bound_by r (neg_ℤ c.in-Some.constant)) stands.relation)
    (λ column r at. subst (λ fs. coef column c.row_of-row.result ≡ sum_at fs r) c.deref-3.ensures.value
    (made.right column r (subst (λ xs. slice_get xs column ≡ Some r) (sym c.deref-2.ensures.value) at)))
    (λ column past below. made.beyond column (subst (λ xs. length xs ≤ column) (sym c.deref-2.ensures.value) past) below)
    made.narrow in
    let new_rows : Rows = record { rows = c.push.new.self; assertions = c.push-2.new.self; columns = c.add_columns.new.columns } in
    going_on s v new_rows (before ++ row ∷ []) c.are_within_limits.result
    (subst (λ fs. IsTrue c.are_within_limits.result ↔ ((plain.inequalities_of fs ≤ 8) × All plain.IsSmallRow fs)) c.deref-4.ensures.value c.are_within_limits.ensures)
    (λ h. row_found s v before row c.in-Some.constant cs c.args.rows.now new_rows c.row_of-row.result c.args.assertion found small added c.in_ok-push.ensures.items is refers c.in_ok-push-2.ensures.items h.0)
    (too_many_rows s v before row c.in-Some.constant cs c.args.rows.now new_rows c.row_of-row.result c.args.assertion found small added c.in_ok-push.ensures.items is)
