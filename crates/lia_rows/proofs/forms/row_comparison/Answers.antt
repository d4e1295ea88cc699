-- By what the assertion says, and by its height.
use Rattle.std.proofs.Common.{◌≡◌, ◌≤◌, sym, subst, arith}
use Rattle.term_pool.specs.Views.{RefersTo}
use Rattle.lia_rows.proofs.Reading.{says_nothing, too_high, row_read}
use Rattle.lia_rows.proofs.forms.row_comparison.Goals as goal

pub returns-in_default-clause-read : goal.returns-in_default-clause-read
returns-in_default-clause-read c t refers =
    says_nothing c.args.symbols.now c.args.terms.now t (c.in_default.ensures.read t refers)

pub returns-then-height-gt-MOST_HEIGHT-clause-read : goal.returns-then-height-gt-MOST_HEIGHT-clause-read
returns-then-height-gt-MOST_HEIGHT-clause-read c t refers =
    let s = c.args.symbols.now in
    let here = subst (λ w. RefersTo s w c.args.assertion t) (sym c.asserted.ensures.same) refers in
    too_high s c.args.terms.now t c.in_ok-height.height (c.in_ok-height.ensures.height s t c.leaves_differ.ensures.table here) (omega (arith, c.if-height-gt-MOST_HEIGHT.true))

pub returns-clause-read : goal.returns-clause-read
returns-clause-read c t refers =
    let s = c.args.symbols.now in
    let here = subst (λ w. RefersTo s w c.args.assertion t) (sym c.asserted.ensures.same) refers in
    let is = c.in_ok-height.ensures.height s t c.leaves_differ.ensures.table here in
    row_read s c.args.terms.now t c.in-Some.comparison (c.in-Some.ensures.read t refers) (omega (arith, is, c.if-height-gt-MOST_HEIGHT.false))
