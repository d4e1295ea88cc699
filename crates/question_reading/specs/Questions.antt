-- Public. Which questions fillers read, and what is read of one.
use Rattle.std.specs.Prelude.{◌≡◌, ◌<◌, ◌≤◌, ◌*◌, ℕ, false, List, length, Contains}
use Rattle.sexpr.specs.declared.causes.Refusal.{Refusal}
use Rattle.pair_pool.specs.Views.{IsPassOf, IsPlaced}
use Rattle.problem_text.specs.Problems.{StandsForProblem, IsFirstFault}
use Rattle.problem_text.specs.Scripts.{Script}
use Rattle.term_pool.specs.Placing.{IsWantedCell}
use Rattle.term_pool.specs.Views.{TermsView}
use Rattle.term_reader.specs.ProblemViews.{IsProblemOf}
use Rattle.hole_fillers.specs.Questions.{most_bytes}
use Rattle.question_cells.specs.Definitions.{HasDefinitions}
use Rattle.question_reading.specs.declared.reading.ReadQuestion.{ReadQuestion}

-- why a question is not read: it is longer than a question may be, it has a fault, or it defines a function or gives a term an attribute
pub data IsLeftOut (question : List ℕ) : Type 0 where
  long : most_bytes < length question → IsLeftOut question
  faulty : (r : Refusal) → IsFirstFault question false r → IsLeftOut question
  defining : HasDefinitions question → IsLeftOut question

-- the pool and the pass on it
abbrev pub terms_in : ReadQuestion → TermsView
terms_in q = record { pool = q.pool; pass = q.pass.view }

-- What was read of a question: what its text stands for, in a pool in which nothing stands but cells of the script's terms, and which is
-- three quarters empty.
pub record IsReadOf (question : List ℕ) (q : ReadQuestion) : Type 0 where
  pub script : Script
  pub stands : StandsForProblem question false script
  pub problem : IsProblemOf q.symbols (terms_in q) q.problem script
  pub short : length question ≤ most_bytes
  pub of_pool : IsPassOf q.pool q.pass
  pub holds : (r a b : ℕ) → IsPlaced q.pass.view r a b → IsWantedCell q.symbols q.pass.view (Contains script.terms) a b
  pub shares : q.pass.view.shares ≡ 65
  pub room : 4 * length question ≤ q.pass.view.places
  pub places : 4096 ≤ q.pass.view.places
