use Rattle.std.proofs.Common.{◌∙◌, refl, ap, sym, subst, arith, [], ◌∷◌, ◌++◌, rules}
use Rattle.hole_questions.specs.Pieces.{term_pieces}
use Rattle.hole_questions.specs.Walks.{ComesTo, IsSomeTask, IsTask, Part, Performs}
use Rattle.term_walk.specs.declared.tasks.Task.{Task}
use Rattle.hole_questions.proofs.Turns.{started, last_task, turn, finished, ended}
use Rattle.hole_questions.proofs.walk.write_whole.Goals as goal

pub tasks-init : goal.tasks-init
tasks-init c = (
  λ t h.
      started c.args.symbols.now c.args.terms.now c.args.r t c.args.writer.now c.push.new.self.items
      (c.in_ok-push.ensures.items ∙ ap (λ ts. ts ++ (Task.Term c.args.r ∷ [])) c.new-tasks.ensures.items) h,
  refl,
)

pub returns-then-len-gt-MOST_BYTES-clause-whole : goal.returns-then-len-gt-MOST_BYTES-clause-whole
returns-then-len-gt-MOST_BYTES-clause-whole c = λ t h.
    ended c.args.symbols.now c.args.terms.now c.tasks.tasks.items c.args.writer.now c.tasks.writer (term_pieces t) (c.tasks.invariant.0 t h) (grind arith)

pub returns-in_default-clause-whole : goal.returns-in_default-clause-whole
returns-in_default-clause-whole c = λ t h.
    finished c.args.symbols.now c.args.terms.now c.args.writer.now c.tasks.writer (term_pieces t)
    (subst (λ ts. ComesTo c.args.symbols.now c.args.terms.now ts c.args.writer.now c.tasks.writer (term_pieces t)) (search rules) (c.tasks.invariant.0 t h))

pub perform-requires : goal.perform-requires
perform-requires c =
    subst (λ v. IsSomeTask c.args.symbols.now v c.in-Some.task) (sym c.tasks.invariant.1)
    (last_task c.args.symbols.now c.args.terms.now c.tasks.tasks.items c.pop.new.self.items c.in-Some.task c.args.writer.now c.tasks.writer
    (term_pieces c.requires.means)
    (c.tasks.invariant.0 c.requires.means c.requires.refers) c.in-Some.ensures.items)

pub tasks-preserved : goal.tasks-preserved
tasks-preserved c = (
  λ t h.
      turn c.args.symbols.now c.args.terms.now c.tasks.tasks.items c.pop.new.self.items c.in-Some.task c.args.writer.now c.tasks.writer (term_pieces t)
      (c.tasks.invariant.0 t h) c.in-Some.ensures.items c.perform.new.tasks.items c.perform.new.writer
      (subst (λ v. (p : Part) → IsTask c.args.symbols.now v c.in-Some.task p →
      Performs c.args.symbols.now v c.pop.new.self.items c.perform.new.tasks.items c.tasks.writer c.perform.new.writer p) c.tasks.invariant.1
      c.in_ok-perform.ensures.performs),
  c.in_ok-perform.ensures.same ∙ c.tasks.invariant.1,
)
