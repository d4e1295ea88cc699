use Rattle.std.proofs.Common.{◌∙◌, refl}
use Rattle.flip_keys.specs.Assertions.{references_of}
use Rattle.step_check.proofs.AssumeLemmas.{asserted_next, asserted_all, not_all_asserted, item_is_term}
use Rattle.step_check.proofs.assumes.are_asserted.Goals as goal
use Rattle.term_parts.proofs.PartLemmas.{false_is}

pub is_asserted-requires-clause-term : goal.is_asserted-requires-clause-term
is_asserted-requires-clause-term c =
    rw c.literals.invariant.0
    (item_is_term c.args.symbols.now c.args.terms.now c.args.clause.now c.literals.r-index c.r-item.result c.requires.clause c.literals-test.true c.r-item.is)

pub returns-then-not-branch-clause-asserted : goal.returns-then-not-branch-clause-asserted
returns-then-not-branch-clause-asserted c qs ts all zip =
    false_is (not_all_asserted c.args.mode c.args.symbols.now c.args.terms.now (references_of c.args.asserted.now) c.args.clause.now c.r-item.result c.literals.r-index qs ts c.in_ok-is_asserted.field-0 c.literals-test.true c.r-item.is
    (rw (c.literals.invariant.0, c.literals.invariant.1) at c.in_ok-is_asserted.ensures.asserted) c.if-not-branch.true all zip)

pub literals-preserved : goal.literals-preserved
literals-preserved c = (
  c.is_asserted.ensures.same ∙ c.literals.invariant.0,
  c.is_asserted.ensures.references ∙ c.literals.invariant.1,
  c.in_ok-is_asserted.ensures.ready,
  asserted_next c.args.mode c.args.symbols.now c.args.terms.now (references_of c.args.asserted.now) c.args.clause.now c.r-item.result c.literals.r-index c.in_ok-is_asserted.field-0 c.literals.invariant.3 c.literals-test.true c.r-item.is
      (rw (c.literals.invariant.0, c.literals.invariant.1) at c.in_ok-is_asserted.ensures.asserted) c.if-not-branch.false,
)

pub returns-clause-asserted : goal.returns-clause-asserted
returns-clause-asserted c qs ts all zip = (
  λ e. asserted_all c.args.mode c.args.symbols.now c.args.terms.now (references_of c.args.asserted.now) c.args.clause.now c.literals.r-index qs ts c.literals.invariant.3 c.literals-test.false all zip,
  λ h. refl,
)
