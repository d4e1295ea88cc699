-- Public. What a coefficient is.
use Rattle.std.specs.Prelude.{List, map, Option}
use Rattle.std.specs.Borrow.{Bor}
use Rattle.std.specs.Option.{option_map}
use Rattle.rule_model.specs.Proofs.{Fraction}
use Rattle.proof_store.specs.declared.answers.Ratio.{Ratio}

abbrev pub fraction_of_ratio : Ratio → Fraction
fraction_of_ratio (Ratio.Plain num den) = record { num = num; den = den }

-- the coefficients that are handed in, where there are any
abbrev pub fractions : Option (Bor (List Ratio)) → Option (List Fraction)
fractions ratios = option_map (λ (qs : Bor (List Ratio)). map fraction_of_ratio qs.now) ratios
