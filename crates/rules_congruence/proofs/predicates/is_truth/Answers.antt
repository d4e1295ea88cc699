use Rattle.std.proofs.Common.{refl}
use Rattle.term_model.specs.declared.symbols.Sort.{Sort}
use Rattle.term_model.proofs.Sorting.{one_sort}
use Rattle.rules_congruence.proofs.predicates.is_truth.Goals as goal
use Rattle.term_parts.proofs.PartLemmas.{false_is}

pub returns-in-Bool-clause-truth : goal.returns-in-Bool-clause-truth
returns-in-Bool-clause-truth c t refers = (λ e. rw c.in-Bool.is at (c.sort_of.ensures.sort t refers), λ h. refl)

pub returns-in_default-clause-truth : goal.returns-in_default-clause-truth
returns-in_default-clause-truth c t refers =
    false_is (λ h. c.in_default.not-Bool (one_sort t c.sort_of.result Sort.Bool (c.sort_of.ensures.sort t refers) h))
