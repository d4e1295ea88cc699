use Rattle.std.proofs.Common.{subst, drop, length, List, ℕ}
use Rattle.term_pool.specs.Reading.{arguments_of}
use Rattle.term_pool.specs.Views.{TermsView, ReferToAll}
use Rattle.term_pool.proofs.Keeping.{same_terms}
use Rattle.term_expansion.proofs.term_parts.arguments_of.Goals as goal

pub returns-clause-arguments : goal.returns-clause-arguments
returns-clause-arguments c = λ s t h k.
    subst (λ (v : TermsView). ReferToAll s v c.arguments.new.into.items (arguments_of t)) (same_terms _ _ c.in_ok-arguments.ensures.keeps c.in_ok-arguments.ensures.unchanged)
    (subst (λ (xs : List ℕ). ReferToAll s c.arguments.new.self (drop (length xs) c.arguments.new.into.items) (arguments_of t)) c.new-list.ensures.items
    (c.in_ok-arguments.ensures.arguments s t h k))
