-- One coefficient more.
use Rattle.std.proofs.Common.{◌≡◌, ◌<◌, ℤ, sym, ◌∙◌, arith}
use Rattle.std.proofs.lemmas.Int.{ints}
use Rattle.linear_forms.specs.Coefficients.{sum_at}
use Rattle.lia_rows.proofs.CoefLemmas.{right_more, beyond_more, narrow_more, size_more}
use Rattle.lia_rows.proofs.Lists.{within}
use Rattle.lia_rows.proofs.columns.coefs_of.Goals as goal

pub columns-preserved : goal.columns-preserved
columns-preserved c =
    let columns = c.args.columns.now in
    let cs = c.args.found.now in
    let small : c.columns.column < 4 = let few = c.requires.columns in let below = c.columns-test.true in omega (arith, few, below) in
    let narrow = c.number_of.ensures.narrow in
    let is = c.number_of.ensures.value in
    let step = c.columns.invariant in
    record {
      size = size_more columns cs c.columns.coefs c.columns.column c.index-columns-column.result _ step.size small c.index-columns-column.is (omega (arith, ints, is, narrow));
      right = right_more columns cs c.columns.coefs c.columns.column c.index-columns-column.result _ step.size small c.index-columns-column.is (omega (arith, ints, is, narrow)) step.right;
      beyond = beyond_more columns cs c.columns.coefs c.columns.column c.index-columns-column.result _ step.size small c.index-columns-column.is (omega (arith, ints, is, narrow)) step.beyond;
      narrow = narrow_more columns cs c.columns.coefs c.columns.column c.index-columns-column.result _ step.size small c.index-columns-column.is (omega (arith, ints, is, narrow)) (omega (arith, ints, is, narrow)) step.narrow;
    }

pub returns-clause-right : goal.returns-clause-right
returns-clause-right c column r at =
    let below = within c.args.columns.now column r at in
    let past = c.columns-test.false in
    c.columns.invariant.right column r (omega (arith, below, past)) at
