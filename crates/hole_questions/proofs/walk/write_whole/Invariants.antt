use Rattle.std.proofs.Common.{◌≡◌}
use Rattle.term_model.specs.Terms.{Term}
use Rattle.term_pool.specs.Views.{RefersTo}
use Rattle.hole_questions.specs.Pieces.{term_pieces}
use Rattle.hole_questions.specs.Walks.{ComesTo}
use Rattle.hole_questions.proofs.walk.write_whole.Given as goal

-- Some of the term is written, and the tasks are what is left of it.
abbrev pub invariant-tasks : goal.invariant-tasks
invariant-tasks l =
    ((t : Term) → RefersTo l.symbols l.fn.terms l.fn.r t → ComesTo l.symbols l.fn.terms l.tasks.items l.fn.writer l.writer (term_pieces t))
    × (l.terms ≡ l.fn.terms)
