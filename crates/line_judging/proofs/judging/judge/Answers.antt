-- The least multiple, the sum, and whether that is absurd.
use Rattle.std.proofs.Common.{◌≡◌, ℤ, to_z, of_z, sym, subst, ◌∙◌, arith}
use Rattle.std.specs.Int.{w128}
use Rattle.std.proofs.lemmas.Bool.{false≢true}
use Rattle.std.proofs.lemmas.Int.{ints}
use Rattle.rule_model.specs.Arith.{limit}
use Rattle.linear_lines.specs.Lines.{IsSumOf}
use Rattle.line_judging.specs.declared.judging.Absurdity.{Absurdity}
use Rattle.line_judging.proofs.BoundLemmas.{absurd_by}
use Rattle.line_judging.proofs.LeastLemmas.{least_of_lines, shares, told_by_least, wide_multiple}
use Rattle.line_judging.proofs.LineLists.{some_lines}
use Rattle.line_judging.proofs.judging.judge.Goals as goal

pub returns-in_default-clause-absurdity : goal.returns-in_default-clause-absurdity
returns-in_default-clause-absurdity c ls zip =
    let none = c.in_default.ensures.wide in
    let wide = wide_multiple c.args.symbols.now c.args.terms.now c.args.lines.now ls limit zip c.requires (omega arith) none in
    told_by_least ls wide.0 Absurdity.TooWide wide.1 wide.2

pub add_up-requires-clause-share : goal.add_up-requires-clause-share
add_up-requires-clause-share c =
    let least = c.in-Some.ensures.some in shares c.args.lines.now c.in-Some.multiple least

pub returns-in_default-2-clause-absurdity : goal.returns-in_default-2-clause-absurdity
returns-in_default-2-clause-absurdity c ls zip =
    let least = c.in-Some.ensures.some in
    let none = rw c.in_default-2.is at c.in_ok-bound.ensures.sum in
    told_by_least ls c.in-Some.multiple Absurdity.TooWide (least_of_lines c.args.symbols.now c.args.terms.now c.in-Some.multiple c.args.lines.now ls zip least) (none ls zip)

pub is_absurd-requires : goal.is_absurd-requires
is_absurd-requires c =
    let sum = rw c.in-Some-2.is at c.in_ok-bound.ensures.sum in
    let some = some_lines c.args.symbols.now c.args.terms.now c.args.lines.now c.requires in
    let both = sum some.0 some.1 in
    omega (arith, both.0, both.1.light)

pub returns-then-is_absurd-clause-absurdity : goal.returns-then-is_absurd-clause-absurdity
returns-then-is_absurd-clause-absurdity c ls zip =
    let s = c.args.symbols.now in
    let v = c.args.terms.now in
    let m = c.in-Some.multiple in
    let least = c.in-Some.ensures.some in
    let sum = rw c.in-Some-2.is at c.in_ok-bound.ensures.sum in
    let both = sum ls zip in
    let bound = c.in-Some-2.bound in
    let same : ◌≡◌ {A = ℤ} (to_z w128 (of_z w128 bound)) bound = omega (arith, ints) in
    let summed = subst (λ b. IsSumOf s v m ls c.add_up.new.scratch.sum.items b) (sym same) both.1 in
    let told = c.is_absurd.ensures s v m ls zip summed in
    told_by_least ls m Absurdity.Yes (least_of_lines s v m c.args.lines.now ls zip least)
    (both.0, record { bound = to_z w128 (of_z w128 bound); added = summed.bound_is; sum = told.0 c.if-is_absurd.true })

pub returns-else-is_absurd-clause-absurdity : goal.returns-else-is_absurd-clause-absurdity
returns-else-is_absurd-clause-absurdity c ls zip =
    let s = c.args.symbols.now in
    let v = c.args.terms.now in
    let m = c.in-Some.multiple in
    let least = c.in-Some.ensures.some in
    let sum = rw c.in-Some-2.is at c.in_ok-bound.ensures.sum in
    let both = sum ls zip in
    let bound = c.in-Some-2.bound in
    let same : ◌≡◌ {A = ℤ} (to_z w128 (of_z w128 bound)) bound = omega (arith, ints) in
    let summed = subst (λ b. IsSumOf s v m ls c.add_up.new.scratch.sum.items b) (sym same) both.1 in
    let told = c.is_absurd.ensures s v m ls zip summed in
    told_by_least ls m Absurdity.No (least_of_lines s v m c.args.lines.now ls zip least)
    (both.0, λ is. false≢true (sym c.if-is_absurd.false ∙ told.1 (absurd_by m ls _ summed.bound_is is)))
