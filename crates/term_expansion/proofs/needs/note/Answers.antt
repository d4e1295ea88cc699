-- The list that is kept is what was found.
use Rattle.std.proofs.Common.{List, ℕ, sym, subst}
use Rattle.term_expansion.specs.Needs.{HasNeeds}
use Rattle.term_expansion.proofs.Needing as lemma
use Rattle.term_expansion.proofs.needs.note.Goals as goal
use Rattle.term_expansion.specs.SymbolsAndTerms.{both}

pub returns-clause-noted : goal.returns-clause-noted
returns-clause-noted c s v right known =
    let kept = c.in_ok-kept.kept in
    lemma.needs-more s v c.args.needs.now.leaves c.insert.new.self c.number.result kept c.in_ok-insert.ensures.updates.0
    (subst (λ k. HasNeeds (both s v) k kept.items) (sym c.number.ensures.number) (subst (λ (ls : List ℕ). HasNeeds (both s v) c.args.r ls) (sym c.in_ok-kept.ensures.items) right))
    known
