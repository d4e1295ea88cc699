use Rattle.std.proofs.Common.{◌∙◌, ap, is_some}
use Rattle.term_names.specs.Entries.{lookup}
use Rattle.term_reader.specs.ProblemViews.{ProblemView}
use Rattle.term_reader.proofs.TakenNames.{taken_by_problem}
use Rattle.term_reader.proofs.problem.Problem.takes_name.Goals as goal

pub returns : goal.returns
returns c s v sc is =
    c.is_some.ensures
    ∙ (ap is_some (c.find.ensures.entry ∙ ap (λ (p : ProblemView). lookup p.entries.names c.args.name.now) c.self.view_is)
    ∙ taken_by_problem s v c.args.self.now sc is c.args.name.now)
