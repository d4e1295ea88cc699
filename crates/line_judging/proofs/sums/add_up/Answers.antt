-- A line at a time.
use Rattle.std.proofs.Common.{◌≡◌, ◌<◌, ℤ, take, get_or, to_z, of_z, sym, subst, ◌∙◌, arith}
use Rattle.std.specs.Int.{w128}
use Rattle.std.specs.List.{AllZip}
use Rattle.std.proofs.lemmas.Int.{ints}
use Rattle.std.proofs.lemmas.List.{take_more, take_all}
use Rattle.std.proofs.lemmas.List.Elements.{All-take}
use Rattle.rule_model.specs.Arith.{limit}
use Rattle.linear_lines.specs.Lines.{StandsForLine, IsSumOf}
use Rattle.line_judging.specs.Totals.{IsTotal}
use Rattle.line_judging.specs.Weights.{IsLineOfTerms}
use Rattle.line_judging.proofs.LineLists.{split, end_of, some_lines}
use Rattle.line_judging.proofs.WeightLemmas.{too_wide}
use Rattle.line_judging.proofs.sums.add_up.Goals as goal

pub add-requires-clause-light : goal.add-requires-clause-light
add-requires-clause-light c =
    let s = c.args.symbols.now in
    let v = c.args.terms.now in
    let i = c.loop-line.line-index in
    let some = some_lines s v (take i c.args.lines.now) (All-take (IsLineOfTerms s v) i c.args.lines.now c.requires.lines) in
    let total = c.loop-line.invariant.total some.0 some.1 in
    omega (arith, total.sum.light, total.weight_is)

pub returns-in_default-clause-sum : goal.returns-in_default-clause-sum
returns-in_default-clause-sum c ls zip =
    let s = c.args.symbols.now in
    let v = c.args.terms.now in
    let i = c.loop-line.line-index in
    let place = split (StandsForLine s v) c.args.lines.now i c.line-item.result ls zip c.loop-line-test.true c.line-item.is in
    let none = rw c.in_default.is at c.in_ok-more.ensures.more in
    let wide = rw c.loop-line.invariant.same at none in
    let before = c.loop-line.invariant.total place.front place.zip in
    too_wide c.args.multiple c.loop-line.total.weight limit place.front place.here place.rest ls place.whole before.weight_is (wide place.here place.is)

pub loop-line-preserved : goal.loop-line-preserved
loop-line-preserved c =
    let s = c.args.symbols.now in
    let v = c.args.terms.now in
    let i = c.loop-line.line-index in
    let lines = c.args.lines.now in
    let some = rw c.in-Some.is at c.in_ok-more.ensures.more in
    let more = rw c.loop-line.invariant.same at some in
    record {
      same = c.add.ensures.same ∙ c.loop-line.invariant.same;
      total = λ ks zip.
          (let place = end_of (StandsForLine s v) (take i lines) (get_or lines i c.line-item.result) ks (subst (λ xs. AllZip (StandsForLine s v) xs ks) (take_more lines i c.line-item.result c.loop-line-test.true) zip) in
          let here = subst (λ x. StandsForLine s v x place.last) (sym c.line-item.is) place.is in
          subst (λ xs. IsTotal s v c.args.multiple xs c.add.new.scratch.sum.items c.in-Some.more) (sym place.whole) (more place.last here place.front (c.loop-line.invariant.total place.front place.zip)));
    }

pub returns-clause-sum : goal.returns-clause-sum
returns-clause-sum c ls zip =
    let s = c.args.symbols.now in
    let v = c.args.terms.now in
    let m = c.args.multiple in
    let lines = c.args.lines.now in
    let whole = subst (λ xs. AllZip (StandsForLine s v) xs ls) (sym (take_all c.loop-line.line-index lines c.loop-line-test.false)) zip in
    let total = c.loop-line.invariant.total ls whole in
    let same : ◌≡◌ {A = ℤ} (to_z w128 (of_z w128 c.loop-line.total.bound)) c.loop-line.total.bound = omega (arith, ints) in
    (subst (λ n. n < limit) total.weight_is total.narrow, subst (λ b. IsSumOf s v m ls c.loop-line.scratch.sum.items b) (sym same) total.sum)
