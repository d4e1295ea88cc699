-- Public. The step of la_generic that a combination of assertions comes to.
use Rattle.std.specs.Prelude.{◌≡◌, zero, ℤ, pos, List, [], ◌∷◌, map, Some}
use Rattle.term_model.specs.Terms.{not_of}
use Rattle.rule_model.specs.declared.rules.Rule.{Rule}
use Rattle.rule_model.specs.Judged.{Judged}
use Rattle.rule_model.specs.Proofs.{Fraction}
use Rattle.lia_rows.specs.Rows.{Row}

-- of a list in step with multipliers, what stands where the multiplier is not 0
abbrev pub used : {A : Type 0} → List ℤ → List A → List A
used [] xs = []
used (m ∷ ms) [] = []
used (pos zero ∷ ms) (x ∷ xs) = used ms xs
used (m ∷ ms) (x ∷ xs) = x ∷ used ms xs

abbrev pub whole_fraction : ℤ → Fraction
whole_fraction m = record { num = m; den = pos 1 }

-- The step concludes the clause of all `(not A)` of the assertions A whose multiplier is not 0, with these multipliers as
-- coefficients.
pub record IsStepBy (rows : List Row) (ms : List ℤ) (j : Judged) : Type 0 where
  pub rule : j.rule ≡ Rule.LaGeneric
  pub clause : j.clause ≡ map (λ (row : Row). not_of row.assertion) (used ms rows)
  pub premises : j.premises ≡ []
  pub ratios : j.ratios ≡ Some (map whole_fraction (used ms ms))
