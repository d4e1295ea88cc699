-- What was read so far, and what is left.
use Rattle.std.proofs.Common.{◌≡◌, ◌-◌}
use Rattle.text_items.specs.ItemsAt.{items_at}
use Rattle.alethe_text.specs.Coefficients.{coefficients_from}
use Rattle.coefficients.specs.Prefixes.{so_far, behind_prefix}
use Rattle.coefficients.proofs.reading.coefficients_at.Given as goal

abbrev pub invariant-arguments : goal.invariant-arguments
invariant-arguments l = coefficients_from (items_at l.items l.first l.end) ≡ behind_prefix (so_far l.all l.ratios.items) (coefficients_from (items_at l.items l.k l.end))

abbrev pub decreases-arguments : goal.decreases-arguments
decreases-arguments l = l.end - l.k
