-- By the sum of the lines that were read.
use Rattle.std.proofs.Common.{map, true, subst}
use Rattle.proof_store.specs.Ratios.{fraction_of_ratio}
use Rattle.rules_arith.specs.Lines.{AreLinesFound}
use Rattle.rules_arith.proofs.LineLemmas.{lines_tell}
use Rattle.rules_arith.proofs.lines.judged_lines.Goals as goal

pub returns-clause-tells : goal.returns-clause-tells
returns-clause-tells c ts refer =
    let s = c.args.symbols.now in
    let v = c.args.terms.now in
    let qs = map fraction_of_ratio c.in-Some.ratios.now in
    let lines = c.read_lines.new.lines.items in
    let found : AreLinesFound s v ts qs lines true =
    subst (AreLinesFound s v ts qs lines) c.if-not-branch.false (c.in_ok-read_lines.ensures.lines ts refer) in
    let items = rw c.deref.ensures.value at c.in_ok-absurdity.ensures.absurdity in
    let test = rw c.read_lines.ensures.same at items in
    rw c.in-Some.is
    (rw c.answer_by.ensures (lines_tell s v ts qs lines c.in_ok-absurdity.absurdity found test))
