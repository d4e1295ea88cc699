use Rattle.std.proofs.Common.{codes, arith}
use Rattle.std.proofs.lemmas.Result.{IfOk-weaker}
use Rattle.term_pool.specs.Views.{RefersTo}
use Rattle.hole_questions.specs.Walks.{Writes, WritesOrNot}
use Rattle.hole_questions.proofs.Lists.{clause_none, clause_more}
use Rattle.hole_questions.proofs.Writing.{some_bytes}
use Rattle.hole_questions.proofs.asserts.write_clause.Goals as goal

pub returns-then-is_empty-clause-whole : goal.returns-then-is_empty-clause-whole
returns-then-is_empty-clause-whole c = λ ts h.
    clause_none (RefersTo c.args.symbols.now c.args.terms.now) c.args.clause.now ts (Writes c.args.symbols.now c.args.writer.now c.put.new.self) h (grind arith)
    (some_bytes c.args.symbols.now c.leaves_differ.ensures.table c.args.writer.now c.put.new.self (codes "false") c.in_ok-put.ensures)

pub returns-clause-whole : goal.returns-clause-whole
returns-clause-whole c =
    IfOk-weaker c.write_disjunction.result _ _ (λ b wrote ts h.
    clause_more (RefersTo c.args.symbols.now c.args.terms.now) c.args.clause.now ts (WritesOrNot b c.args.symbols.now c.args.writer.now
    c.write_disjunction.new.writer) h (λ e. grind arith) (λ e. grind arith) (wrote ts h))
    c.write_disjunction.ensures.whole
