use Rattle.std.proofs.Common.{◌∙◌, ◌∷◌, [], ap, ◌++◌}
use Rattle.std.proofs.lemmas.Result.{on_ok_weaker}
use Rattle.term_walk.specs.declared.tasks.Task.{Task}
use Rattle.term_printer.proofs.Turns.{begun}
use Rattle.term_printer.proofs.terms.begin_term.Goals as goal

pub returns-clause-begun : goal.returns-clause-begun
returns-clause-begun c =
    on_ok_weaker c.then.result (λ tasks plan s v t u refers given.
    begun plan s v c.args.page.now c.then.new.self c.args.r t u c.requires c.then.ensures.text tasks c.then.ensures.names refers given)
    c.then.ensures.tasks

pub returns-clause-tasks : goal.returns-clause-tasks
returns-clause-tasks c =
    on_ok_weaker c.then.result (λ tasks. tasks ∙ ap (λ ts. ts ++ (Task.Term c.args.r ∷ [])) c.requires) c.then.ensures.tasks
