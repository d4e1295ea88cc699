use Rattle.std.proofs.Common.{◌≡◌, ◌≤◌, ◌+◌, List, length, drop, map, if◌then◌else◌, ◌++◌}
use Rattle.term_pool.specs.Views.{TermsView}
use Rattle.term_names.specs.InScope.{IsScope, AreValuesBound}
use Rattle.problem_text.specs.Names.{Bound, itself}
use Rattle.term_names.specs.Scope.{Scoped}
use Rattle.term_names.proofs.lets.bind.Given as goal
use Rattle.term_expansion.specs.SymbolsAndTerms.{both}

abbrev pub invariant-variables : goal.invariant-variables
invariant-variables l =
    (l.at ≤ length l.leaves)
    × ((v : TermsView) (bs ps : List Bound) → AreValuesBound (both l.symbols v) (drop l.at l.leaves) (drop (l.from + l.at) l.values) bs → IsScope (both l.symbols v) l.fn.names.scope ps → IsScope (both l.symbols v) l.names.scope ((if l.replaces_lets then bs else map (λ b. itself b.variable) bs) ++ ps))
    × (l.names.own ≡ l.fn.names.own)
    × ((inner : List Scoped) × (l.names.scope ≡ inner ++ l.fn.names.scope) × (length inner + l.at ≡ length l.leaves))

abbrev pub decreases-variables : goal.decreases-variables
decreases-variables l = l.at
