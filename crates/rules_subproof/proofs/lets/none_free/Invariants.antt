use Rattle.std.proofs.Common.{◌≡◌, drop, List}
use Rattle.term_model.specs.Terms.{Var, Term}
use Rattle.term_pool.specs.Views.{RefersTo}
use Rattle.rules_subproof.specs.Lets.{AreLeavesOf}
use Rattle.rules_subproof.proofs.Variables.{AreLeft}
use Rattle.rules_subproof.proofs.lets.none_free.Given as goal

abbrev pub invariant-vars : goal.invariant-vars
invariant-vars l =
    (l.terms ≡ l.fn.terms) ×
    ((xs : List Var) (t : Term) → AreLeavesOf l.symbols l.vars xs → RefersTo l.symbols l.fn.terms l.r t →
    AreLeft l.symbols t (drop l.var-index l.vars) xs)
