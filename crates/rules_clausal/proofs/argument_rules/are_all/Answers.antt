use Rattle.std.proofs.Common.{◌∙◌}
use Rattle.rules_clausal.proofs.ArgumentAnswers.{other_number, other_there, same_there, all_are}
use Rattle.rules_clausal.proofs.argument_rules.are_all.Goals as goal

pub returns-then-arguments-literals-clause-all : goal.returns-then-arguments-literals-clause-all
returns-then-arguments-literals-clause-all c us ts arguments literals =
    other_number c.args.symbols.now c.args.terms.now c.args.sign c.args.arguments.now c.args.literals.now us ts arguments literals c.if-arguments-literals.true

pub returns-then-ne-clause-all : goal.returns-then-ne-clause-all
returns-then-ne-clause-all c us ts arguments literals =
    let s = c.args.symbols.now in
    let same = c.loop-place.invariant.same in
    other_there s c.args.terms.now c.args.sign c.args.arguments.now c.args.literals.now us ts arguments literals
    c.loop-place.place c.index-literals-place.result c.index-arguments-place.result c.loop-place-test.true c.if-arguments-literals.false c.index-literals-place.is c.index-arguments-place.is
    c.unsigned.result (c.equal_exactly_where_terms_are.ensures s c.leaves_differ.ensures.table) (rw same at c.unsigned.ensures.signed) (rw same at c.unsigned.ensures.other) c.if-ne.ensures

pub loop-place-preserved : goal.loop-place-preserved
loop-place-preserved c = record {
  same = c.unsigned.ensures.same ∙ c.loop-place.invariant.same;
  so_far = λ us ts arguments literals.
      (let s = c.args.symbols.now in
      let same = c.loop-place.invariant.same in
      same_there s c.args.terms.now c.args.sign c.args.arguments.now c.args.literals.now us ts arguments literals
      c.loop-place.place c.index-literals-place.result c.index-arguments-place.result c.loop-place-test.true c.if-arguments-literals.false c.index-literals-place.is c.index-arguments-place.is
      c.unsigned.result (c.equal_exactly_where_terms_are.ensures s c.leaves_differ.ensures.table) (rw same at c.unsigned.ensures.signed) c.if-ne.ensures
      (c.loop-place.invariant.so_far us ts arguments literals));
}

pub returns-clause-all : goal.returns-clause-all
returns-clause-all c us ts arguments literals =
    all_are c.args.symbols.now c.args.terms.now c.args.sign c.args.arguments.now c.args.literals.now us ts arguments literals
    c.loop-place.place c.loop-place-test.false c.if-arguments-literals.false (c.loop-place.invariant.so_far us ts arguments literals)
