use Rattle.std.proofs.Common.{[], ◌∷◌, ◌++◌, codes, sym, subst}
use Rattle.hole_questions.specs.Pieces.{term_pieces}
use Rattle.hole_questions.specs.Walks.{Writes, IsTooLong}
use Rattle.hole_questions.proofs.Lists.{before_denial, behind_denial, denial_pieces, of_false, of_true}
use Rattle.hole_questions.proofs.Writing.{four_bytes, two_bytes, both, too_long_first, too_long_then}
use Rattle.hole_questions.proofs.asserts.write_denial.Goals as goal

pub returns-then-not-branch-clause-whole : goal.returns-then-not-branch-clause-whole
returns-then-not-branch-clause-whole c = λ t r.
    subst (IsTooLong c.args.symbols.now c.args.writer.now) (sym (denial_pieces t))
    (too_long_first c.args.symbols.now c.args.writer.now (before_denial ++ term_pieces t) behind_denial
    (too_long_then c.args.symbols.now c.args.writer.now c.put-4.new.self before_denial (term_pieces t)
    (four_bytes c.args.symbols.now c.leaves_differ.ensures.table c.args.writer.now c.put.new.self c.put-2.new.self c.put-3.new.self c.put-4.new.self
    (codes "(assert ") (codes "(") (codes "not") (codes " ") c.in_ok-put.ensures c.in_ok-put-2.ensures c.in_ok-put-3.ensures c.in_ok-put-4.ensures)
    (of_false c.in_ok-write_whole.field-0 c.args.symbols.now c.put-4.new.self c.write_whole.new.writer (term_pieces t) c.if-not-branch.true
    (c.in_ok-write_whole.ensures.whole t r))))

pub returns-clause-whole : goal.returns-clause-whole
returns-clause-whole c = λ t r.
    subst (Writes c.args.symbols.now c.args.writer.now c.put-6.new.self) (sym (denial_pieces t))
    (both c.args.symbols.now c.args.writer.now c.write_whole.new.writer c.put-6.new.self (before_denial ++ term_pieces t) behind_denial
    (both c.args.symbols.now c.args.writer.now c.put-4.new.self c.write_whole.new.writer before_denial (term_pieces t)
    (four_bytes c.args.symbols.now c.leaves_differ.ensures.table c.args.writer.now c.put.new.self c.put-2.new.self c.put-3.new.self c.put-4.new.self
    (codes "(assert ") (codes "(") (codes "not") (codes " ") c.in_ok-put.ensures c.in_ok-put-2.ensures c.in_ok-put-3.ensures c.in_ok-put-4.ensures)
    (of_true c.in_ok-write_whole.field-0 c.args.symbols.now c.put-4.new.self c.write_whole.new.writer (term_pieces t) c.if-not-branch.false
    (c.in_ok-write_whole.ensures.whole t r)))
    (two_bytes c.args.symbols.now c.leaves_differ.ensures.table c.write_whole.new.writer c.put-5.new.self c.put-6.new.self (codes ")") (41 ∷ 10 ∷ [])
    c.in_ok-put-5.ensures c.in_ok-put-6.ensures))
