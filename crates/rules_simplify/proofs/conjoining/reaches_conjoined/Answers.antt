use Rattle.std.proofs.Common.{◌∙◌}
use Rattle.term_model.specs.declared.symbols.Op.{Op}
use Rattle.rules_simplify.proofs.JoinLemmas.{told_apart}
use Rattle.rules_simplify.proofs.OperandLemmas.{first_is_term, second_is_term}
use Rattle.rules_simplify.proofs.WalkLemmas.{walk_starts, only_implications, walk_ends, walk_tells, walk_goes, conclusion_falls}
use Rattle.rules_simplify.proofs.conjoining.reaches_conjoined.Goals as goal

pub returns-in_default-clause-reaches : goal.returns-in_default-clause-reaches
returns-in_default-clause-reaches c t u is refers =
    only_implications c.args.symbols.now c.args.terms.now c.args.from t u is (λ x y. c.in_default.ensures.other u x y refers)

pub premises-init : goal.premises-init
premises-init c =
    let start = c.requires.from.is in
    record {
      same = c.operands.ensures.same;
      term = record { means = start.conclusion; refers = start.conclusion_refers };
      walk = λ t u is refers. walk_starts c.args.symbols.now c.args.terms.now c.args.from t u is _ _ c.new-others.ensures.items c.in_ok-push.ensures;
    }

pub is_conjoined-requires : goal.is_conjoined-requires
is_conjoined-requires c =
    rw (c.operands-in-premises.ensures.same, c.premises.invariant.same) (first_is_term c.args.symbols.now c.args.terms.now Op.Implies c.args.right _ c.in-Some.ensures.operands c.requires.right)

pub returns-then-is_same-clause-reaches : goal.returns-then-is_same-clause-reaches
returns-then-is_same-clause-reaches c t u is refers =
    let s = c.args.symbols.now in
    let v = c.args.terms.now in
    let walk = c.premises.invariant.walk t u is refers in
    walk_tells s v c.args.from c.premises.others.items c.premises.conclusion t u walk (c.equal_exactly_where_terms_are.ensures s c.leaves_differ.ensures.table) _
    ((rw c.premises.invariant.same at c.in-Some-operands.ensures.operands) walk.here walk.refers) _ c.in_ok-push-2.ensures _ (c.in-Some.ensures.operands u refers) c.is_conjoined.result
    (c.is_same.ensures.0 c.if-is_same.true) (rw (c.operands-in-premises.ensures.same, c.premises.invariant.same) at c.is_conjoined.ensures.conjoined)

pub premises-smaller : goal.premises-smaller
premises-smaller c =
    let term = c.premises.invariant.term in
    conclusion_falls c.args.symbols.now c.args.terms.now c.leaves_differ.ensures.table c.terms_at.ensures.terms c.premises.conclusion term.means _ term.refers
    ((rw c.premises.invariant.same at c.in-Some-operands.ensures.operands) term.means term.refers)

pub premises-preserved : goal.premises-preserved
premises-preserved c =
    let s = c.args.symbols.now in
    let v = c.args.terms.now in
    record {
      same = c.operands-in-premises.ensures.same ∙ c.premises.invariant.same;
      term = second_is_term s v Op.Implies c.premises.conclusion _ (rw c.premises.invariant.same at c.in-Some-operands.ensures.operands) c.premises.invariant.term;
      walk = λ t u is refers.
          (let walk = c.premises.invariant.walk t u is refers in
          walk_goes s v c.args.from c.premises.others.items c.premises.conclusion t u walk (c.equal_exactly_where_terms_are.ensures s c.leaves_differ.ensures.table) _
          ((rw c.premises.invariant.same at c.in-Some-operands.ensures.operands) walk.here walk.refers) _ c.in_ok-push-2.ensures _ (c.in-Some.ensures.operands u refers)
          (λ same. told_apart c.is_same.result (c.is_same.ensures.1 same) c.if-is_same.false));
    }

pub returns-clause-reaches : goal.returns-clause-reaches
returns-clause-reaches c t u is refers =
    walk_ends c.args.symbols.now c.args.terms.now c.args.from c.premises.others.items c.premises.conclusion t u (c.premises.invariant.walk t u is refers)
    (rw c.premises.invariant.same at c.in_default-operands.ensures.other)
