use Rattle.std.proofs.Common.{◌≡◌, List, true}
use Rattle.std.specs.List.{list_all}
use Rattle.term_model.specs.Terms.{Var}
use Rattle.term_pool.specs.Views.{TermsView}
use Rattle.problem_text.specs.Names.{Place, is_bound}
use Rattle.term_expansion.specs.Free.{AreFreeLeaves}
use Rattle.term_names.specs.InScope.{IsScope}
use Rattle.term_names.proofs.BoundVariables.{PutsBefore}
use Rattle.term_names.proofs.using.bounds_of.Given as goal
use Rattle.term_expansion.specs.SymbolsAndTerms.{both}

abbrev pub invariant-leaves : goal.invariant-leaves
invariant-leaves l =
    (v : TermsView) (p : Place) (xs : List Var) → IsScope (both l.symbols v) l.names.scope p.scope → AreFreeLeaves l.symbols l.leaves xs
    → list_all (is_bound p.scope) xs ≡ true → PutsBefore l.symbols v l.bounds.items p.scope l.leaves l.leaf-index
