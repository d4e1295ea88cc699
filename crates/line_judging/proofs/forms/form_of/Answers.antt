-- The difference of the line's terms.
use Rattle.std.proofs.Common.{◌≡◌, ℤ, map, to_z, of_z, ap, ◌∙◌, arith}
use Rattle.std.specs.Int.{w128}
use Rattle.std.proofs.lemmas.Int.{ints}
use Rattle.line_judging.specs.LineForms.{as_sum}
use Rattle.line_judging.proofs.FormLemmas.{narrow_form}
use Rattle.line_judging.proofs.forms.form_of.Goals as goal

pub returns-in_default-clause-form : goal.returns-in_default-clause-form
returns-in_default-clause-form c d stands =
    let none = rw c.in_default.is at c.in_ok-numbers.ensures.difference in
    none d.first d.second stands.first stands.second

pub returns-clause-form : goal.returns-clause-form
returns-clause-form c d stands =
    let some = rw c.in-Some.is at c.in_ok-numbers.ensures.difference in
    let whole = rw c.clear.ensures.items at some in
    let n = c.in-Some.numbers in
    let same : ◌≡◌ {A = ℤ} (to_z w128 (of_z w128 n.constant)) n.constant = omega (arith, ints) in
    narrow_form c.args.symbols.now c.args.terms.now d n c.difference.new.into.items c.copy.new.into.items (to_z w128 (of_z w128 n.constant)) (whole d.first d.second stands.first stands.second)
    (c.in_ok-copy.ensures ∙ ap (map as_sum) c.deref.ensures.value) same
