use Rattle.std.proofs.Common.{ℕ, refl, subst}
use Rattle.std.proofs.lemmas.Result.{on_ok_weaker}
use Rattle.sym_table.specs.Table.{Table}
use Rattle.term_model.specs.Terms.{Term, Bindings}
use Rattle.term_pool.specs.Views.{TermsView, RefersTo}
use Rattle.term_walk.specs.Walks.{ArePairsOf}
use Rattle.term_walk.specs.declared.tasks.Task.{Task}
use Rattle.hole_questions.specs.Walks.{IsTask, Performs, Part, body, close, end}
use Rattle.hole_questions.proofs.Performed.{close_performs, end_performs}
use Rattle.hole_questions.proofs.walk.perform.Goals as goal

is_body : (s : Table) (v : TermsView) (list r : ℕ) (p : Part) (P : Part → Type 0) → IsTask s v (Task.Body list r) p
    → ((bs : Bindings) (t : Term) → ArePairsOf s v list bs → RefersTo s v r t → P (body bs t)) → P p
is_body s v list r (body bs t) P is h = h bs t is.0 is.1
is_body s v list r _ P is h = absurd is

is_close : (s : Table) (v : TermsView) (p : Part) (P : Part → Type 0) → IsTask s v Task.Close p → P close → P p
is_close s v close P is h = h
is_close s v _ P is h = absurd is

is_end : (s : Table) (v : TermsView) (p : Part) (P : Part → Type 0) → IsTask s v Task.End p → P end → P p
is_end s v end P is h = h
is_end s v _ P is h = absurd is

pub returns-in-Body-clause-performs : goal.returns-in-Body-clause-performs
returns-in-Body-clause-performs c =
    on_ok_weaker c.write_body.result (λ performs p is.
    is_body c.args.symbols.now c.args.terms.now c.in-Body.list c.in-Body.body p
    (Performs c.args.symbols.now c.args.terms.now c.args.tasks.now.items c.write_body.new.tasks.items c.args.writer.now c.write_body.new.writer)
    (subst (λ task. IsTask c.args.symbols.now c.args.terms.now task p) c.in-Body.is is) performs) c.write_body.ensures

pub returns-in-Close-clause-performs : goal.returns-in-Close-clause-performs
returns-in-Close-clause-performs c =
    on_ok_weaker c.put.result (λ bracket p is.
    is_close c.args.symbols.now c.args.terms.now p
    (Performs c.args.symbols.now c.args.terms.now c.args.tasks.now.items c.args.tasks.now.items c.args.writer.now c.put.new.self)
    (subst (λ task. IsTask c.args.symbols.now c.args.terms.now task p) c.in-Close.is is)
    (close_performs c.args.symbols.now c.leaves_differ.ensures.table c.args.terms.now c.args.tasks.now.items c.args.tasks.now.items
    c.args.writer.now c.put.new.self refl bracket)) c.put.ensures

pub returns-in_ok-put-in-End-clause-performs : goal.returns-in_ok-put-in-End-clause-performs
returns-in_ok-put-in-End-clause-performs c = λ p is.
    is_end c.args.symbols.now c.args.terms.now p
    (Performs c.args.symbols.now c.args.terms.now c.args.tasks.now.items c.args.tasks.now.items c.args.writer.now c.restore.new.self)
    (subst (λ task. IsTask c.args.symbols.now c.args.terms.now task p) c.in-End.is is)
    (end_performs c.args.symbols.now c.leaves_differ.ensures.table c.args.terms.now c.args.tasks.now.items c.args.tasks.now.items
    c.args.writer.now c.restore.new.self c.put-in-End.new.self refl c.in_ok-put-in-End.ensures c.restore.ensures)
