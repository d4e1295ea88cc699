-- One line more.
use Rattle.std.proofs.Common.{◌≡◌, ◌≤◌, ◌<◌, ◌+◌, ℤ, ◌++◌, ◌∷◌, [], unsigned_abs, List, to_z, of_z, sym, subst, arith}
use Rattle.std.specs.Int.{w128}
use Rattle.std.proofs.lemmas.Int.{ints}
use Rattle.rule_model.specs.Arith.{limit}
use Rattle.scaled_sums.specs.declared.coefficients.Coefficient.{Coefficient}
use Rattle.scaled_sums.specs.Coefficients.{AreOfDifferentTerms, sizes_of}
use Rattle.linear_lines.specs.Lines.{IsFormOf, IsSumOf}
use Rattle.line_judging.proofs.LineLists.{some_line}
use Rattle.line_judging.proofs.WeightLemmas.{own_is, share_some, wide_terms, next_weight}
use Rattle.line_judging.proofs.sums.add.Goals as goal

pub returns-in_default-clause-more : goal.returns-in_default-clause-more
returns-in_default-clause-more c l is =
    let none = rw c.in_default.is at c.in_ok-numbers.ensures.form in
    let line = c.args.line.now in
    wide_terms c.args.symbols.now c.args.terms.now c.args.multiple line l is c.args.total.weight limit
    (share_some c.args.multiple line.denominator c.requires.line.some c.requires.share) (none l.comparison is.comparison)

pub weight_with-requires-clause-plain : goal.weight_with-requires-clause-plain
weight_with-requires-clause-plain c =
    let some = rw c.in-Some.is at c.in_ok-numbers.ensures.form in
    let here = some_line c.args.symbols.now c.args.terms.now c.args.line.now c.requires.line in
    (some here.0.comparison here.1.comparison).narrow

pub returns-in_default-weight_with-clause-more : goal.returns-in_default-weight_with-clause-more
returns-in_default-weight_with-clause-more c l is =
    let some = rw c.in-Some.is at c.in_ok-numbers.ensures.form in
    let wide = rw c.in_default-weight_with.is at c.weight_with.ensures in
    let form = (some l.comparison is.comparison).form in
    omega (arith, wide, own_is c.args.symbols.now c.args.terms.now c.args.multiple c.args.line.now l is c.in-Some.numbers.weight form.weight_is)

pub add_line-requires-clause-apart : goal.add_line-requires-clause-apart
add_line-requires-clause-apart c =
    let some = rw c.in-Some.is at c.in_ok-numbers.ensures.form in
    let here = some_line c.args.symbols.now c.args.terms.now c.args.line.now c.requires.line in
    subst AreOfDifferentTerms (sym c.deref.ensures.value) (some here.0.comparison here.1.comparison).apart

pub add_line-requires-clause-light : goal.add_line-requires-clause-light
add_line-requires-clause-light c =
    let some = rw c.in-Some.is at c.in_ok-numbers.ensures.form in
    let here = some_line c.args.symbols.now c.args.terms.now c.args.line.now c.requires.line in
    subst (λ (cs : List Coefficient). unsigned_abs c.in-Some.numbers.constant + sizes_of cs ≤ c.in-Some.numbers.weight) (sym c.deref.ensures.value) (some here.0.comparison here.1.comparison).light

pub returns-clause-more : goal.returns-clause-more
returns-clause-more c l is ls total =
    let s = c.args.symbols.now in
    let v = c.args.terms.now in
    let m = c.args.multiple in
    let some = rw c.in-Some.is at c.in_ok-numbers.ensures.form in
    let form = (some l.comparison is.comparison).form in
    let weight = rw c.in-Some-weight_with.is at c.weight_with.ensures in
    let of = subst (λ (cs : List Coefficient). IsFormOf s v l.comparison c.in-Some.numbers cs) (sym c.deref.ensures.value) form in
    let own = own_is s v m c.args.line.now l is c.in-Some.numbers.weight form.weight_is in
    let same_before : ◌≡◌ {A = ℤ} (to_z w128 (of_z w128 c.args.total.bound)) c.args.total.bound = omega (arith, ints) in
    let same_after : ◌≡◌ {A = ℤ} (to_z w128 (of_z w128 c.in_ok-bound.bound)) c.in_ok-bound.bound = omega (arith, ints) in
    let before = subst (λ b. IsSumOf s v m ls c.args.scratch.now.sum.items b) (sym same_before) total.sum in
    record {
      sum = subst (λ b. IsSumOf s v m (ls ++ l ∷ []) c.add_line.new.sum.items b) (sym same_after) (c.in_ok-bound.ensures.sum s v l ls is of before);
      weight_is = next_weight m c.args.total.weight c.in-Some-weight_with.weight ls l total.weight_is (omega (arith, weight.0, own));
      narrow = subst (λ n. n < limit) (sym weight.0) weight.1;
    }
