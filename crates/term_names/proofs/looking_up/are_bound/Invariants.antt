use Rattle.std.proofs.Common.{◌≡◌, ℕ, ◌<◌, get_or, true}
use Rattle.sym_table.specs.Table.{IsLeaf}
use Rattle.term_model.specs.Terms.{Var}
use Rattle.term_pool.specs.StandsFor.{variable_leaf}
use Rattle.term_pool.specs.Views.{TermsView}
use Rattle.term_names.specs.InScope.{IsScope}
use Rattle.problem_text.specs.Names.{Place, is_bound}
use Rattle.term_names.proofs.looking_up.are_bound.Given as goal
use Rattle.term_expansion.specs.SymbolsAndTerms.{both}

abbrev pub invariant-leaves : goal.invariant-leaves
invariant-leaves l =
    (v : TermsView) (p : Place) (x : Var) → IsScope (both l.symbols v) l.names.scope p.scope
    → (k : ℕ) → k < l.leaf-index → IsLeaf l.symbols (get_or l.leaves k 0) (variable_leaf x) → is_bound p.scope x ≡ true
