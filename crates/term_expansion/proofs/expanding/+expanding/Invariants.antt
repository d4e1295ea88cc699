use Rattle.std.proofs.Common.{◌+◌, ◌*◌, ◌≡◌, take, length, List}
use Rattle.pair_pool.specs.Trees.{Tree}
use Rattle.term_model.specs.Terms.{Term}
use Rattle.term_pool.specs.Building.{PlacesOnlyIn}
use Rattle.term_pool.specs.Views.{ReferToAll, KeepsTerms}
use Rattle.term_expansion.specs.Expanding.{SaysAll, HasPartTerms, replaced_each, IsExpansion}
use Rattle.rule_model.specs.Replacement.{Replacement}
use Rattle.term_expansion.proofs.expanding.+expanding.Given as goal
use Rattle.term_expansion.specs.SymbolsAndTerms.{both}

abbrev pub decreases-expand_application : goal.decreases-expand_application
decreases-expand_application l = 4 * l.most

abbrev pub decreases-expand_let : goal.decreases-expand_let
decreases-expand_let l = 4 * l.most

abbrev pub decreases-expand_anew : goal.decreases-expand_anew
decreases-expand_anew l = 4 * l.most + 1

abbrev pub decreases-expand : goal.decreases-expand
decreases-expand l = 4 * l.most + 2

abbrev pub decreases-expand_all : goal.decreases-expand_all
decreases-expand_all l = 4 * l.most + 3

abbrev pub invariant-expand_all-terms : goal.invariant-expand_all-terms
invariant-expand_all-terms l =
    KeepsTerms l.fn.terms l.terms
    × (l.expansion.assignments ≡ l.fn.expansion.assignments)
    × (length l.all.items ≡ l.r-index)
    × IsExpansion (both l.symbols l.terms) l.expansion
    × ((ts : List Term) (q : Replacement) → ReferToAll l.symbols l.fn.terms l.list ts → SaysAll (both l.symbols l.fn.terms) l.fn.expansion.assignments q ts → ReferToAll l.symbols l.terms l.all.items (take l.r-index (replaced_each q ts)))
    × ((ts : List Term) (q : Replacement) (whole : Tree) → ReferToAll l.symbols l.fn.terms l.list ts → SaysAll (both l.symbols l.fn.terms) l.fn.expansion.assignments q ts → HasPartTerms l.symbols whole (replaced_each q ts) → PlacesOnlyIn l.fn.terms.pass l.terms.pass whole)
