-- What a quotient stands for.
use Rattle.std.proofs.Common.{◌≡◌, ℕ, ◌*◌, ◌^◌, ◌<◌, ◌∙◌, arith, Bool, true, false, Option, Some, None, Result, Ok, IfSome, refl, sym, ap, subst, if◌then◌else◌, ◌||◌}
use Rattle.std.specs.Option.{option_or}
use Rattle.std.proofs.Math.Nat.{one-le-pow}
use Rattle.sexpr.specs.declared.causes.Cause.TheVariants.{WideNumber}
use Rattle.sexpr.specs.declared.causes.Refusal.{Refusal}
use Rattle.rule_model.specs.Proofs.{Fraction}
use Rattle.problem_text.specs.Commands.{refused}
use Rattle.alethe_text.specs.Coefficients as text
use Rattle.alethe_text.specs.Coefficients.{is_wide, figure_fault, width_fault, fraction_parts, lowest, coefficient_read}
use Rattle.coefficients.specs.Fractions.{IsNarrowPair}
use Rattle.coefficients.specs.Amounts.{IsFigure, narrowed, pair_read}
use Rattle.coefficients.specs.declared.fractions.Pair.{Pair}
use Rattle.coefficients.specs.declared.figures.Figure.{Figure}
use Rattle.coefficients.proofs.AmountLemmas.{wide_said, narrow_said}

narrowed_told : (place : ℕ) (o : Option Pair) (r : Pair) → Ok r ≡ narrowed place o → o ≡ Some r
narrowed_told place (Some p) r e = cc
narrowed_told place None r e = cc

-- The parts of a figure that is not too wide.
pub figure_pair : (place : ℕ) (c : Figure) (f : text.Figure) (r : Pair) → IsFigure c f → Ok r ≡ narrowed place c.parts → IsNarrowPair (Some r) (f.digits, 10 ^ f.behind_point)
figure_pair place c f r is e = subst (λ o. IsNarrowPair o (f.digits, 10 ^ f.behind_point)) (narrowed_told place c.parts r e) is.parts

pub over_figure : (f : text.Figure) (r : Pair) → IsNarrowPair (Some r) (f.digits, 10 ^ f.behind_point) → 0 < r.den
over_figure f r h = subst (λ n. 0 < n) (sym h.0.den) (one-le-pow f.behind_point 10 (omega arith))

pub narrow_some : (o : Option Pair) (p : ℕ × ℕ) → IsNarrowPair o p → IfSome o (λ r. (r.num < 2 ^ 127) × (r.den < 2 ^ 127))
narrow_some None p h = tt
narrow_some (Some r) p h = (subst (λ n. n < 2 ^ 127) (sym h.0.num) h.1, subst (λ n. n < 2 ^ 127) (sym h.0.den) h.2)

same_sign : (b : Bool) → (if b then true else false) ≡ b
same_sign true = refl
same_sign false = refl

abbrev read_by : text.Coefficient → Option ℕ → Result (Option Fraction) Refusal
read_by c o = elim o [ Some place ↦ refused WideNumber place | None ↦ Ok (Some (text.fraction_of c)) ]

module _ (negative : Bool) (place : ℕ) (f g : text.Figure) (above below : Pair) (a : IsNarrowPair (Some above) (f.digits, 10 ^ f.behind_point)) (b : IsNarrowPair (Some below) (g.digits, 10 ^ g.behind_point)) where
  abbrev whole : text.Coefficient
  whole = record { negative = negative; amount = text.quotient place false f g }

  abbrev last : ℕ × ℕ
  last = lowest (f.digits * 10 ^ g.behind_point, 10 ^ f.behind_point * g.digits)

  -- the figures are not too wide, so the quotient itself decides
  fault_is : width_fault (text.quotient place false f g) ≡ (if is_wide last.0 || is_wide last.1 then Some place else None)
  fault_is =
      ap (λ o. option_or o (option_or (figure_fault g) (if is_wide last.0 || is_wide last.1 then Some place else None))) (narrow_said f.digits (10 ^ f.behind_point) f.place a.1 a.2)
      ∙ ap (λ o. option_or o (if is_wide last.0 || is_wide last.1 then Some place else None)) (narrow_said g.digits (10 ^ g.behind_point) g.place b.1 b.2)

  same_parts : ◌≡◌ {A = ℕ × ℕ} (above.num * below.den, above.den * below.num) (f.digits * 10 ^ g.behind_point, 10 ^ f.behind_point * g.digits)
  same_parts =
      ap (λ n. (n * below.den, above.den * below.num)) a.0.num ∙ ap (λ n. (f.digits * n, above.den * below.num)) b.0.den
      ∙ ap (λ n. (f.digits * 10 ^ g.behind_point, n * below.num)) a.0.den ∙ ap (λ n. (f.digits * 10 ^ g.behind_point, 10 ^ f.behind_point * n)) b.0.num

  read_last : (o : Option Pair) → IsNarrowPair o last → pair_read negative place o ≡ coefficient_read (Some whole)
  read_last None h = sym (ap (read_by whole) (fault_is ∙ wide_said last.0 last.1 place h))
  read_last (Some r) h =
      sym (ap (read_by whole) (fault_is ∙ narrow_said last.0 last.1 place h.1 h.2)
      ∙ ap (λ s. Ok (Some (text.signed s last))) (same_sign negative)
      ∙ ap (λ n. Ok (Some (text.signed negative (n, last.1)))) (sym h.0.num)
      ∙ ap (λ n. Ok (Some (text.signed negative (r.num, n)))) (sym h.0.den))

  pub quotient_read : (o : Option Pair) → IsNarrowPair o (lowest (above.num * below.den, above.den * below.num)) → pair_read negative place o ≡ coefficient_read (Some whole)
  quotient_read o h = read_last o (subst (λ (p : ℕ × ℕ). IsNarrowPair o (lowest p)) same_parts h)
