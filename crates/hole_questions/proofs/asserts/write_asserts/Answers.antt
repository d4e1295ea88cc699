use Rattle.std.proofs.Common.{◌<◌, ℕ, sym, subst, flat_map, length, slice_index_or}
use Rattle.std.proofs.lemmas.Result.{IfOk-weaker}
use Rattle.term_model.specs.Terms.{not_of}
use Rattle.term_parts.specs.Judging.{ReferToClauses}
use Rattle.term_pool.specs.Views.{IsTerm}
use Rattle.rule_model.specs.Reading.{clause_at, premise_clauses}
use Rattle.hole_fillers.specs.Questions.{clause_term}
use Rattle.hole_questions.specs.Pieces.{assert_pieces}
use Rattle.hole_questions.specs.Walks.{IsTooLong, WritesOrNot}
use Rattle.hole_questions.proofs.Lists.{asserted_pieces, of_false, of_true, all_terms}
use Rattle.hole_questions.proofs.Writing.{both_or_not, too_long_first}
use Rattle.hole_questions.proofs.asserts.write_asserts.Goals as goal

pub returns-then-not-branch-clause-whole : goal.returns-then-not-branch-clause-whole
returns-then-not-branch-clause-whole c = λ of h.
    subst (IsTooLong c.args.symbols.now c.args.writer.now) (asserted_pieces (premise_clauses of c.args.i) (clause_at of c.args.i))
    (too_long_first c.args.symbols.now c.args.writer.now (flat_map (λ ts. assert_pieces (clause_term ts)) (premise_clauses of c.args.i))
    (flat_map (λ t. assert_pieces (not_of t)) (clause_at of c.args.i))
    (of_false c.in_ok-write_premises.field-0 c.args.symbols.now c.args.writer.now c.write_premises.new.writer
    (flat_map (λ ts. assert_pieces (clause_term ts)) (premise_clauses of c.args.i)) c.if-not-branch.true
    (c.in_ok-write_premises.ensures.whole (premise_clauses of c.args.i)
    (subst (λ l. ReferToClauses c.args.symbols.now c.args.terms.now l (premise_clauses of c.args.i)) (sym c.deref.ensures.value)
    (c.in_ok-premise_clauses.ensures.stand c.args.symbols.now c.args.terms.now of h)))))

pub write_denials-requires : goal.write_denials-requires
write_denials-requires c =
    subst (λ rs. (k d : ℕ) → k < length rs → IsTerm c.args.symbols.now c.write_premises.new.terms (slice_index_or rs k d)) (sym c.clause.ensures)
    (subst (λ v. (k d : ℕ) → k < length (clause_at c.args.proof.now c.args.i) → IsTerm c.args.symbols.now v (slice_index_or (clause_at
    c.args.proof.now c.args.i) k d))
    (sym c.write_premises.ensures.same)
    (all_terms c.args.symbols.now c.args.terms.now (clause_at c.args.proof.now c.args.i) (clause_at c.requires.terms.proof c.args.i)
    (c.terms_correspond.ensures.clause c.args.symbols.now c.args.terms.now c.args.proof.now c.requires.terms.proof c.args.i c.requires.terms.stand)))

pub returns-clause-whole : goal.returns-clause-whole
returns-clause-whole c =
    IfOk-weaker c.write_denials.result _ _ (λ b wrote of h.
    subst (WritesOrNot b c.args.symbols.now c.args.writer.now c.write_denials.new.writer)
    (asserted_pieces (premise_clauses of c.args.i) (clause_at of c.args.i))
    (both_or_not b c.args.symbols.now c.args.writer.now c.write_premises.new.writer c.write_denials.new.writer
    (flat_map (λ ts. assert_pieces (clause_term ts)) (premise_clauses of c.args.i))
    (flat_map (λ t. assert_pieces (not_of t)) (clause_at of c.args.i))
    (of_true c.in_ok-write_premises.field-0 c.args.symbols.now c.args.writer.now c.write_premises.new.writer
    (flat_map (λ ts. assert_pieces (clause_term ts)) (premise_clauses of c.args.i)) c.if-not-branch.false
    (c.in_ok-write_premises.ensures.whole (premise_clauses of c.args.i)
    (subst (λ l. ReferToClauses c.args.symbols.now c.args.terms.now l (premise_clauses of c.args.i)) (sym c.deref.ensures.value)
    (c.in_ok-premise_clauses.ensures.stand c.args.symbols.now c.args.terms.now of h))))
    (wrote (clause_at of c.args.i) (c.terms_correspond.ensures.clause c.args.symbols.now c.args.terms.now c.args.proof.now of c.args.i h))))
    (rw (c.write_premises.ensures.same, c.clause.ensures) at c.write_denials.ensures.whole)
