use Rattle.std.proofs.Common.{◌+◌, drop, get_or, rules, refl, ◌∙◌}
use Rattle.std.proofs.lemmas.Bool.{OnTrue_at, OnFalse_at, OnTrue_from, OnFalse_from}
use Rattle.std.proofs.lemmas.List.{drop_all}
use Rattle.rule_model.specs.declared.letter.Letter.{Letter}
use Rattle.schema_match.specs.declared.part.Part.TheVariants.{Any}
use Rattle.schema_match.proofs.Loops.{left_whole, left_next, left_none, none_fit, left_fits, left_no_fit}
use Rattle.schema_match.proofs.matching.fits_with.Goals as goal

pub loop-part-init : goal.loop-part-init
loop-part-init c = record {
  same = refl;
  left = λ ts refer. left_whole c.args.symbols.now c.args.terms.now c.args.parts.now ts c.new.result c.args.stack.now.items c.new.ensures refer;
}

pub returns-in_default-clause-other : goal.returns-in_default-clause-other
returns-in_default-clause-other c ps ts is refer =
    let s = c.args.symbols.now in
    let v = c.args.terms.now in
    let parts = c.args.parts.now in
    let i = c.loop-part.part-index in
    let d = Any Letter.A in
    let none = c.in_default.ensures.none in
    let next = left_next s v parts ts c.loop-part.letters c.loop-part.stack.items i d c.loop-part-test.true (c.loop-part.invariant.left ts refer) in
    none_fit parts ps ts is (left_none s v parts ts (get_or parts i d) (drop (i + 1) parts) c.loop-part.letters (rw none at next))

pub returns-then-not-branch-clause-other : goal.returns-then-not-branch-clause-other
returns-then-not-branch-clause-other c ps ts is refer =
    let s = c.args.symbols.now in
    let v = c.args.terms.now in
    let parts = c.args.parts.now in
    let i = c.loop-part.part-index in
    let d = Any Letter.A in
    let next = left_next s v parts ts c.loop-part.letters c.loop-part.stack.items i d c.loop-part-test.true (c.loop-part.invariant.left ts refer) in
    none_fit parts ps ts is
    ((rw c.loop-part.invariant.same at (OnFalse_at c.if-not-branch.true c.in_ok-step.ensures.refused)) parts (drop (i + 1) parts) ts (rw c.in-Some.ensures.items at next))

pub loop-part-preserved : goal.loop-part-preserved
loop-part-preserved c = record {
  same = c.step.ensures.same ∙ c.loop-part.invariant.same;
  left = λ ts refer.
      (let s = c.args.symbols.now in
      let v = c.args.terms.now in
      let parts = c.args.parts.now in
      let i = c.loop-part.part-index in
      let next = left_next s v parts ts c.loop-part.letters c.loop-part.stack.items i (Any Letter.A) c.loop-part-test.true (c.loop-part.invariant.left ts refer) in
      (rw c.loop-part.invariant.same at (OnTrue_at c.if-not-branch.false c.in_ok-step.ensures.read)) parts (drop (i + 1) parts) ts (rw c.in-Some.ensures.items at next));
}

pub returns-clause-fits : goal.returns-clause-fits
returns-clause-fits c =
    OnTrue_from c.is_empty.result _ (λ holds ps ts is refer.
    let parts = c.args.parts.now in
    let stack = c.loop-part.stack in
    let left = rw (drop_all c.loop-part.part-index parts c.loop-part-test.false) at (c.loop-part.invariant.left ts refer) in
    left_fits c.args.symbols.now c.args.terms.now parts ps ts c.loop-part.letters stack.items _ c.is_empty.result is left (search rules) c.is_empty.ensures holds)

pub returns-clause-other : goal.returns-clause-other
returns-clause-other c =
    OnFalse_from c.is_empty.result _ (λ fails ps ts is refer.
    let parts = c.args.parts.now in
    let stack = c.loop-part.stack in
    let left = rw (drop_all c.loop-part.part-index parts c.loop-part-test.false) at (c.loop-part.invariant.left ts refer) in
    left_no_fit c.args.symbols.now c.args.terms.now parts ps ts c.loop-part.letters stack.items _ c.is_empty.result is left (search rules) c.is_empty.ensures fails)
