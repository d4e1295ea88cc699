use Rattle.std.proofs.Common.{Bor, ℕ, ◌∙◌, List, arith}
use Rattle.term_model.specs.Terms.{Term}
use Rattle.term_pool.specs.Views.{ReferToAll}
use Rattle.hole_fillers.specs.Questions.{clause_term}
use Rattle.hole_questions.specs.Pieces.{assert_pieces}
use Rattle.hole_questions.proofs.Lists.{one_more, one_too_long, all_written, of_false, of_true}
use Rattle.hole_questions.proofs.asserts.write_premises.Goals as goal

pub returns-then-not-branch-clause-whole : goal.returns-then-not-branch-clause-whole
returns-then-not-branch-clause-whole c = λ ts h.
    one_too_long (λ (p : Bor (List ℕ)) (ts : List Term). ReferToAll c.args.symbols.now c.args.terms.now p.now ts) (λ (ts : List Term). assert_pieces
    (clause_term ts)) c.args.symbols.now c.args.writer.now c.clauses.writer c.write_premise.new.writer c.clauses.clause-index _ c.args.clauses.now ts h
    c.clauses-test.true c.clause-item.is
    (c.clauses.invariant.0 ts h)
    (λ t r. of_false c.in_ok-write_premise.field-0 c.args.symbols.now c.clauses.writer c.write_premise.new.writer ((λ (ts : List Term). assert_pieces
    (clause_term ts)) t) c.if-not-branch.true
    ((rw c.clauses.invariant.1 at c.in_ok-write_premise.ensures.whole) t r))

pub clauses-preserved : goal.clauses-preserved
clauses-preserved c = (
  λ ts h.
      one_more (λ (p : Bor (List ℕ)) (ts : List Term). ReferToAll c.args.symbols.now c.args.terms.now p.now ts) (λ (ts : List Term). assert_pieces
      (clause_term ts)) c.args.symbols.now c.args.writer.now c.clauses.writer c.write_premise.new.writer c.clauses.clause-index _
      c.args.clauses.now ts h
      c.clauses-test.true c.clause-item.is
      (c.clauses.invariant.0 ts h)
      (λ t r. of_true c.in_ok-write_premise.field-0 c.args.symbols.now c.clauses.writer c.write_premise.new.writer ((λ (ts : List Term).
      assert_pieces (clause_term ts)) t) c.if-not-branch.false
      ((rw c.clauses.invariant.1 at c.in_ok-write_premise.ensures.whole) t r)),
  c.in_ok-write_premise.ensures.same ∙ c.clauses.invariant.1,
)

pub returns-clause-whole : goal.returns-clause-whole
returns-clause-whole c = λ ts h.
    all_written (λ (p : Bor (List ℕ)) (ts : List Term). ReferToAll c.args.symbols.now c.args.terms.now p.now ts) (λ (ts : List Term). assert_pieces
    (clause_term ts)) c.args.symbols.now c.args.writer.now c.clauses.writer c.clauses.clause-index c.args.clauses.now ts h (omega (
      arith,
      c.clauses-test.false,
    ))
    (c.clauses.invariant.0 ts h)
