use Rattle.std.proofs.Common.{◌∙◌, refl}
use Rattle.rules_simplify.proofs.JoinLemmas.{told_apart}
use Rattle.rules_simplify.proofs.OperandLemmas.{first_is_term}
use Rattle.rules_simplify.proofs.TakingLemmas.{left_starts, no_conjunction, other_last, left_less, none_left}
use Rattle.term_model.specs.declared.symbols.Op.{Op}
use Rattle.rules_simplify.proofs.conjoining.is_conjoined.Goals as goal

pub others-init : goal.others-init
others-init c = record {
  same = refl;
  term = c.requires;
  left = λ t u us first others r. left_starts c.args.symbols.now c.args.terms.now c.args.others.now.items c.args.r t u us others r;
}

pub returns-in_default-operands-clause-conjoined : goal.returns-in_default-operands-clause-conjoined
returns-in_default-operands-clause-conjoined c t u us first others r =
    let s = c.args.symbols.now in
    let v = c.args.terms.now in
    no_conjunction s v (c.equal_exactly_where_terms_are.ensures s c.leaves_differ.ensures.table) c.others.others.items c.pop.new.list.items c.others.rest c.in-Some.last t u us
    c.in-Some.ensures.items (c.others.invariant.left t u us first others r) (rw c.others.invariant.same at c.in_default-operands.ensures.other)

pub returns-then-not-is_same-clause-conjoined : goal.returns-then-not-is_same-clause-conjoined
returns-then-not-is_same-clause-conjoined c t u us first others r =
    let s = c.args.symbols.now in
    let v = c.args.terms.now in
    other_last s v (c.equal_exactly_where_terms_are.ensures s c.leaves_differ.ensures.table) c.others.others.items c.pop.new.list.items c.others.rest c.in-Some.last t u us
    c.in-Some.ensures.items (c.others.invariant.left t u us first others r) _ (rw c.others.invariant.same at c.in-Some-operands.ensures.operands)
    (λ same. told_apart c.is_same.result (c.is_same.ensures.1 same) c.if-not-is_same.true)

pub others-preserved : goal.others-preserved
others-preserved c =
    let s = c.args.symbols.now in
    let v = c.args.terms.now in
    record {
      same = c.operands.ensures.same ∙ c.others.invariant.same;
      term = first_is_term s v Op.And c.others.rest _ (rw c.others.invariant.same at c.in-Some-operands.ensures.operands) c.others.invariant.term;
      left = λ t u us first others r.
          left_less s v (c.equal_exactly_where_terms_are.ensures s c.leaves_differ.ensures.table) c.others.others.items c.pop.new.list.items c.others.rest c.in-Some.last t u us
          c.in-Some.ensures.items (c.others.invariant.left t u us first others r) _ (rw c.others.invariant.same at c.in-Some-operands.ensures.operands)
          (c.is_same.ensures.0 c.if-not-is_same.false);
    }

pub returns-clause-conjoined : goal.returns-clause-conjoined
returns-clause-conjoined c t u us first others r =
    let s = c.args.symbols.now in
    let v = c.args.terms.now in
    none_left s v (c.equal_exactly_where_terms_are.ensures s c.leaves_differ.ensures.table) c.others.others.items c.others.rest c.args.first t u us c.is_same-2.result
    c.in_default.ensures.none (c.others.invariant.left t u us first others r) first c.is_same-2.ensures
