-- Public. What comes of reading coefficients.
use Rattle.std.specs.Prelude.{◌≡◌, Bool, true, false, ⊤, List, map, Option, Some, None, Result, Ok, Err}
use Rattle.sexpr.specs.declared.causes.Refusal.{Refusal}
use Rattle.rule_model.specs.Proofs.{Fraction}
use Rattle.proof_store.specs.Ratios.{fraction_of_ratio}
use Rattle.proof_store.specs.declared.answers.Ratio.{Ratio}
use Rattle.coefficients.specs.declared.stops.Stop.{Stop}

-- All arguments are coefficients and were read, or one of them is none; or the reading stopped at a number that is too wide, or
-- when out of memory.
abbrev pub AreCoefficients : List Ratio → Result Bool Stop → Result (Option (List Fraction)) Refusal → Type 0
AreCoefficients qs (Ok true) expected = expected ≡ Ok (Some (map fraction_of_ratio qs))
AreCoefficients qs (Ok false) expected = expected ≡ Ok None
AreCoefficients qs (Err (Stop.Text refusal)) expected = expected ≡ Err refusal
AreCoefficients qs (Err Stop.Memory) expected = ⊤
