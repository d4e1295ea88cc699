use Rattle.std.proofs.Common.{◌≡◌, ◌≤◌, ◌-◌, length, take}
use Rattle.term_pool.specs.Views.{TermsView}
use Rattle.term_reader.proofs.PushedVariables.{AreEntered}
use Rattle.term_reader.proofs.single_terms.enter_each.Given as goal

abbrev pub invariant-variables : goal.invariant-variables
invariant-variables l =
    (l.at ≤ length l.leaves) × ((v : TermsView) → AreEntered l.symbols v (take l.at l.leaves) l.fn.names.scope l.names.scope) × (l.names.own ≡ l.fn.names.own)

abbrev pub decreases-variables : goal.decreases-variables
decreases-variables l = length l.leaves - l.at
