-- Private. Coefficients as nodes spell them.
use Rattle.std.specs.Prelude.{◌≡◌, ◌⊎◌, ℕ, ◌^◌, ◌<◌, ◌≤◌, ◌==◌, Bool, false, List, codes, Option, Some, None, option_map, option_and_then, Result, Ok, Err}
use Rattle.std.specs.Prelude.{if◌then◌else◌}
use Rattle.sexpr.specs.Items.{Item, Items}
use Rattle.sexpr.specs.declared.causes.Cause.TheVariants.{WideNumber}
use Rattle.sexpr.specs.declared.causes.Refusal.{Refusal}
use Rattle.rule_model.specs.Proofs.{Fraction}
use Rattle.proof_store.specs.Ratios.{fraction_of_ratio}
use Rattle.proof_store.specs.declared.answers.Ratio.{Ratio}
use Rattle.alethe_text.specs.Commands.{is_symbol_of}
use Rattle.alethe_text.specs.Coefficients as text
use Rattle.alethe_text.specs.Coefficients.{width_fault, is_negative, fraction_parts, figure_of, divisor_of, quotient_of, numerator_spelled, denominator_spelled}
use Rattle.coefficients.specs.Fractions.{IsNarrowPair}
use Rattle.coefficients.specs.Three.{Three, three_of}
use Rattle.coefficients.specs.declared.fractions.Pair.{Pair}
use Rattle.coefficients.specs.declared.figures.Figure.{Figure}
use Rattle.coefficients.specs.declared.amounts.Amount.{Amount}

-- a figure, whose number is 0 where it is told so
pub record IsFigure (c : Figure) (f : text.Figure) : Type 0 where
  pub place : c.place ≡ f.place
  pub zero : c.is_zero ≡ (f.digits == 0)
  pub parts : IsNarrowPair c.parts (f.digits, 10 ^ f.behind_point)

abbrev pub IsFigureFound : Option Figure → Option text.Figure → Type 0
IsFigureFound None o = o ≡ None
IsFigureFound (Some c) o = (f : text.Figure) × (o ≡ Some f) × IsFigure c f

-- an amount: a figure or a ratio by its numbers, or a quotient by its figures
pub record IsPlain (place : ℕ) (parts : Option Pair) (a : text.Amount) : Type 0 where
  pub positive : is_negative a ≡ false
  pub over : 0 < (fraction_parts a).1
  pub narrow : IsNarrowPair parts (fraction_parts a)
  pub fault : (2 ^ 127 ≤ (fraction_parts a).0) ⊎ (2 ^ 127 ≤ (fraction_parts a).1) → width_fault a ≡ Some place
  pub none : (fraction_parts a).0 < 2 ^ 127 → (fraction_parts a).1 < 2 ^ 127 → width_fault a ≡ None

pub record IsQuotient (place : ℕ) (negative : Bool) (num den : Figure) (a : text.Amount) : Type 0 where
  pub above : text.Figure
  pub below : text.Figure
  pub same : a ≡ text.quotient place negative above below
  pub num_is : IsFigure num above
  pub den_is : IsFigure den below
  pub some : 0 < below.digits

abbrev pub IsAmount : Amount → text.Amount → Type 0
IsAmount (Amount.Plain place parts) a = IsPlain place parts a
IsAmount (Amount.Quotient place negative num den) a = IsQuotient place negative num den a

abbrev pub IsAmountFound : Option Amount → Option text.Amount → Type 0
IsAmountFound None o = o ≡ None
IsAmountFound (Some c) o = (a : text.Amount) × (o ≡ Some a) × IsAmount c a

-- what ratios and lists spell
abbrev pub ratio_spelled : ℕ → List ℕ → Option text.Amount
ratio_spelled place spelling =
    if denominator_spelled spelling == 0 then None else Some (text.ratio place (numerator_spelled spelling) (denominator_spelled spelling))

abbrev pub quotient_of_three : ℕ → Three → Option text.Amount
quotient_of_three place t = if is_symbol_of (codes "/") t.head then quotient_of place t.num t.den else None

abbrev pub quotient_among : ℕ → Items → Option text.Amount
quotient_among place items = option_and_then (quotient_of_three place) (three_of items)

abbrev pub divided : ℕ → Bool → Item → Item → Option text.Amount
divided place negative n d = option_and_then (λ f. option_map (text.quotient place negative f) (divisor_of d)) (figure_of n)

abbrev pub with_minus : Bool → Option text.Amount → Option text.Coefficient
with_minus negative o = option_map (λ (a : text.Amount). record { negative = negative; amount = a }) o

-- what a coefficient was read as
abbrev pub read_as : Result (Option Ratio) Refusal → Result (Option Fraction) Refusal
read_as (Ok q) = Ok (option_map fraction_of_ratio q)
read_as (Err refusal) = Err refusal

abbrev pub amount_read_as : Result Ratio Refusal → Result (Option Fraction) Refusal
amount_read_as (Ok q) = Ok (Some (fraction_of_ratio q))
amount_read_as (Err refusal) = Err refusal

-- the parts, or the fault of a number that is too wide
abbrev pub narrowed : ℕ → Option Pair → Result Pair Refusal
narrowed place (Some p) = Ok p
narrowed place None = Err (record { cause = WideNumber; at = place })

abbrev pub pair_read : Bool → ℕ → Option Pair → Result (Option Fraction) Refusal
pair_read negative place (Some p) = Ok (Some (text.signed negative (p.num, p.den)))
pair_read negative place None = Err (record { cause = WideNumber; at = place })
