-- The coefficients so far.
use Rattle.std.proofs.Common.{◌≡◌, map, take}
use Rattle.lia_rows.specs.Steps.{whole_fraction}
use Rattle.proof_store.specs.Ratios.{fraction_of_ratio}
use Rattle.lia_answers.proofs.negating.ratios_of.Given as goal

abbrev pub invariant-multipliers : goal.invariant-multipliers
invariant-multipliers l = map fraction_of_ratio l.ratios.items ≡ map whole_fraction (take l.m-index l.multipliers)
