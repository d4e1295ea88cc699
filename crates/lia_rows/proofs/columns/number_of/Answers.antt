-- By the first item of the term.
use Rattle.std.proofs.Common.{◌≡◌, sym, arith}
use Rattle.std.proofs.lemmas.Bool.{eqb-true}
use Rattle.std.proofs.lemmas.Int.{ints}
use Rattle.lia_rows.proofs.FormLemmas.{IsOther}
use Rattle.lia_rows.proofs.CoefLemmas.{all_taken, other_term, number_here, narrow_here, number_nowhere}
use Rattle.lia_rows.proofs.columns.number_of.Goals as goal

pub returns-then-eq-clause-value : goal.returns-then-eq-clause-value
returns-then-eq-clause-value c =
    let here = number_here c.args.found.now c.found.c-index c.c-item.result c.args.term c.requires.apart c.found-test.true c.c-item.is (eqb-true c.c-item.result.term c.args.term (sym c.if-eq.ensures)) in
    let small = narrow_here c.args.found.now c.found.c-index c.c-item.result c.requires.narrow c.found-test.true c.c-item.is in
    omega (arith, ints, here, small)

pub found-preserved : goal.found-preserved
found-preserved c =
    all_taken (IsOther c.args.term) c.args.found.now c.found.c-index c.c-item.result c.found.invariant c.found-test.true c.c-item.is (other_term c.c-item.result.term c.args.term c.if-eq.ensures)

pub returns-clause-value : goal.returns-clause-value
returns-clause-value c =
    let none = number_nowhere c.args.found.now c.found.c-index c.args.term c.found-test.false c.found.invariant in
    omega (arith, ints, none)
