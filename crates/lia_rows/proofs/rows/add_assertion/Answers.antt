-- By what the assertion says.
use Rattle.std.proofs.Common.{◌≡◌, Some, sym, subst}
use Rattle.linear_lines.specs.Comparisons.{StandsForComparison}
use Rattle.term_pool.specs.Views.{RefersTo, IsTerm}
use Rattle.lia_rows.specs.Found.{IsRowRead, AreFound, IsRowAdded}
use Rattle.lia_rows.proofs.RowsSoFar.{nothing_added, row_added, read_terms}
use Rattle.lia_rows.proofs.rows.add_assertion.Goals as goal

pub returns-in_default-clause-added : goal.returns-in_default-clause-added
returns-in_default-clause-added c before t found refers =
    let s = c.args.symbols.now in
    let v = c.args.terms.now in
    nothing_added s v t before c.args.rows.now (subst (IsRowRead s v t) c.in_default.is (c.in_ok-found.ensures.read t refers)) found

pub add_row-requires-clause-first : goal.add_row-requires-clause-first
add_row-requires-clause-first c =
    let s = c.args.symbols.now in
    let v = c.args.terms.now in
    let t = c.requires.assertion.means in
    let is = read_terms s v t c.in-Some.comparison (subst (IsRowRead s v t) c.in-Some.is (c.in_ok-found.ensures.read t c.requires.assertion.refers)) in
    subst (λ w. IsTerm s w c.in-Some.comparison.first) (sym c.in_ok-found.ensures.same) is.0

pub add_row-requires-clause-second : goal.add_row-requires-clause-second
add_row-requires-clause-second c =
    let s = c.args.symbols.now in
    let v = c.args.terms.now in
    let t = c.requires.assertion.means in
    let is = read_terms s v t c.in-Some.comparison (subst (IsRowRead s v t) c.in-Some.is (c.in_ok-found.ensures.read t c.requires.assertion.refers)) in
    subst (λ w. IsTerm s w c.in-Some.comparison.second) (sym c.in_ok-found.ensures.same) is.1

pub returns-clause-added : goal.returns-clause-added
returns-clause-added c before t found refers =
    let s = c.args.symbols.now in
    let v = c.args.terms.now in
    let back = sym c.in_ok-found.ensures.same in
    let is : IsRowRead s v t (Some c.in-Some.comparison) = subst (IsRowRead s v t) c.in-Some.is (c.in_ok-found.ensures.read t refers) in
    row_added s v t c.in-Some.comparison before c.add_row.new.rows c.in_ok-going.going is
    (subst (λ w. IsRowAdded s w before is.0 c.add_row.new.rows c.in_ok-going.going) c.in_ok-found.ensures.same
    (c.in_ok-going.ensures.added before is.0 (subst (λ w. AreFound s w c.args.rows.now before) back found)
    (subst (λ w. RefersTo s w c.args.assertion is.0.assertion) back (subst (RefersTo s v c.args.assertion) (sym is.1) refers))
    (subst (λ w. StandsForComparison s w c.in-Some.comparison is.0.comparison) back is.3)))
