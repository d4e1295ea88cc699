use Rattle.std.proofs.Common.{◌∙◌, arith}
use Rattle.term_model.specs.Terms.{Term, not_of}
use Rattle.term_pool.specs.Views.{RefersTo}
use Rattle.hole_questions.specs.Pieces.{assert_pieces}
use Rattle.hole_questions.proofs.Lists.{one_more, one_too_long, all_written, of_false, of_true}
use Rattle.hole_questions.proofs.asserts.write_denials.Goals as goal

pub returns-then-not-branch-clause-whole : goal.returns-then-not-branch-clause-whole
returns-then-not-branch-clause-whole c = λ ts h.
    one_too_long (RefersTo c.args.symbols.now c.args.terms.now) (λ (t : Term). assert_pieces (not_of t)) c.args.symbols.now c.args.writer.now
    c.literals.writer c.write_denial.new.writer c.literals.literal-index _ c.args.literals.now ts h
    c.literals-test.true c.literal-item.is
    (c.literals.invariant.0 ts h)
    (λ t r. of_false c.in_ok-write_denial.field-0 c.args.symbols.now c.literals.writer c.write_denial.new.writer ((λ (t : Term). assert_pieces
    (not_of t)) t) c.if-not-branch.true
    ((rw c.literals.invariant.1 at c.in_ok-write_denial.ensures.whole) t r))

pub literals-preserved : goal.literals-preserved
literals-preserved c = (
  λ ts h.
      one_more (RefersTo c.args.symbols.now c.args.terms.now) (λ (t : Term). assert_pieces (not_of t)) c.args.symbols.now c.args.writer.now
      c.literals.writer c.write_denial.new.writer c.literals.literal-index _ c.args.literals.now ts h
      c.literals-test.true c.literal-item.is
      (c.literals.invariant.0 ts h)
      (λ t r. of_true c.in_ok-write_denial.field-0 c.args.symbols.now c.literals.writer c.write_denial.new.writer ((λ (t : Term). assert_pieces
      (not_of t)) t) c.if-not-branch.false
      ((rw c.literals.invariant.1 at c.in_ok-write_denial.ensures.whole) t r)),
  c.in_ok-write_denial.ensures.same ∙ c.literals.invariant.1,
)

pub returns-clause-whole : goal.returns-clause-whole
returns-clause-whole c = λ ts h.
    all_written (RefersTo c.args.symbols.now c.args.terms.now) (λ (t : Term). assert_pieces (not_of t)) c.args.symbols.now c.args.writer.now
    c.literals.writer c.literals.literal-index c.args.literals.now ts h (omega (arith, c.literals-test.false))
    (c.literals.invariant.0 ts h)
