use Rattle.hole_fillers.specs.Questions.{asserted_at}
use Rattle.hole_questions.specs.Pieces.{question_pieces}
use Rattle.hole_questions.proofs.Lists.{of_false, of_true}
use Rattle.hole_questions.proofs.Written.{written, too_long}
use Rattle.hole_questions.proofs.asserts.assert_lines.Goals as goal

pub returns-then-branch-clause-written : goal.returns-then-branch-clause-written
returns-then-branch-clause-written c = λ of h.
    written (asserted_at of c.args.i) c.args.symbols.now c.new-writer.result c.write_asserts.new.writer c.new-writer.ensures c.leaves_differ.ensures.table
    (of_true c.in_ok-write_asserts.field-0 c.args.symbols.now c.new-writer.result c.write_asserts.new.writer (question_pieces (asserted_at of
    c.args.i)) c.if-branch.true
    (c.in_ok-write_asserts.ensures.whole of h))

pub returns-else-branch-clause-too_long : goal.returns-else-branch-clause-too_long
returns-else-branch-clause-too_long c = λ of h.
    too_long (asserted_at of c.args.i) c.args.symbols.now c.new-writer.result c.write_asserts.new.writer c.new-writer.ensures
    (of_false c.in_ok-write_asserts.field-0 c.args.symbols.now c.new-writer.result c.write_asserts.new.writer (question_pieces (asserted_at of
    c.args.i)) c.if-branch.false
    (c.in_ok-write_asserts.ensures.whole of h))
