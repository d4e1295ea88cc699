-- A term has one sort.
use Rattle.std.proofs.Common.{refl}
use Rattle.term_model.specs.declared.symbols.Sort.{Sort}
use Rattle.term_model.proofs.Sorting.{one_sort}
use Rattle.linear_lines.proofs.comparisons.is_number.Goals as goal

pub returns-in-Int-clause-number : goal.returns-in-Int-clause-number
returns-in-Int-clause-number c t refers = (λ e. c.in-Int.ensures.sort t refers, λ h. refl)

pub returns-in_default-clause-number : goal.returns-in_default-clause-number
returns-in_default-clause-number c t refers =
    (λ e. absurd cc, λ h. absurd (c.in_default.not-Int (one_sort t c.sort_of.result Sort.Int (c.sort_of.ensures.sort t refers) h)))
