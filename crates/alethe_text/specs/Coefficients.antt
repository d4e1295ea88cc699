-- Public. Coefficients of linear arithmetic, which the arguments of a step by la_generic are (Alethe, "List of rules":
-- la_generic). Numbers have 128 bits.
use Rattle.std.specs.Prelude.{ℕ, suc, zero, ◌*◌, ◌/◌, ◌%◌, ◌^◌, ◌==◌, pos, neg_ℤ, nat_le, Bool, true, false, not, ◌||◌, if◌then◌else◌, List, [], ◌∷◌, ◌++◌}
use Rattle.std.specs.Prelude.{codes, length, Option, Some, None, option_map, option_and_then, Result, Ok}
use Rattle.std.specs.List.{before_first, after_first}
use Rattle.std.specs.Option.{option_or}
use Rattle.sexpr.specs.declared.causes.Cause.TheVariants.{WideNumber}
use Rattle.sexpr.specs.declared.causes.Refusal.{Refusal}
use Rattle.sexpr.specs.Words.{is_numeral, is_decimal, is_ratio, numeral_value}
use Rattle.sexpr.specs.Items.{Item, word, list, Items, no_items, item}
use Rattle.rule_model.specs.Proofs.{Fraction}
use Rattle.problem_text.specs.Commands.{refused}
use Rattle.problem_text.specs.Sorts.{result_then}
use Rattle.alethe_text.specs.Commands.{is_symbol_of}

-- A numeral or a decimal, where it stands: the number of its digits without the point, and how many stand behind the point.
pub record Figure : Type 0 where
  pub place : ℕ
  pub digits : ℕ
  pub behind_point : ℕ

-- a figure; a ratio of two numerals; a quotient of two figures, the first with its sign and the place of the bracket
pub data Amount : Type 0 where
  figure : Figure → Amount
  ratio : ℕ → ℕ → ℕ → Amount
  quotient : ℕ → Bool → Figure → Figure → Amount

-- an amount with its sign
pub record Coefficient : Type 0 where
  pub negative : Bool
  pub amount : Amount

abbrev pub before_point : List ℕ → List ℕ
before_point spelling = before_first (λ b. b == 46) spelling

abbrev pub after_point : List ℕ → List ℕ
after_point spelling = after_first (λ b. b == 46) spelling

abbrev pub figure_spelled : ℕ → List ℕ → Option Figure
figure_spelled place spelling =
    if is_numeral spelling then Some (record { place = place; digits = numeral_value spelling; behind_point = 0 })
    else if is_decimal spelling then Some (record {
      place = place;
      digits = numeral_value (before_point spelling ++ after_point spelling);
      behind_point = length (after_point spelling);
    })
    else None

abbrev pub figure_of : Item → Option Figure
figure_of (word place spelling) = figure_spelled place spelling
figure_of other = None

-- a figure that is not 0
abbrev pub divisor_of : Item → Option Figure
divisor_of i = option_and_then (λ f. if f.digits == 0 then None else Some f) (figure_of i)

-- what stands behind the minus of `(- i)`
abbrev pub opposite_of : Item → Option Item
opposite_of (list place (item minus (item i no_items))) = if is_symbol_of (codes "-") minus then Some i else None
opposite_of other = None

abbrev pub quotient_of : ℕ → Item → Item → Option Amount
quotient_of place n d = elim (opposite_of n) [
  | Some m ↦ option_and_then (λ f. option_map (quotient place true f) (divisor_of d)) (figure_of m)
  | None ↦ option_and_then (λ f. option_map (quotient place false f) (divisor_of d)) (figure_of n)
]

abbrev pub numerator_spelled : List ℕ → ℕ
numerator_spelled spelling = numeral_value (before_first (λ b. b == 47) spelling)

abbrev pub denominator_spelled : List ℕ → ℕ
denominator_spelled spelling = numeral_value (after_first (λ b. b == 47) spelling)

abbrev pub amount_spelled : ℕ → List ℕ → Option Amount
amount_spelled place spelling =
    if is_ratio spelling then
    (if denominator_spelled spelling == 0 then None else Some (ratio place (numerator_spelled spelling) (denominator_spelled spelling)))
    else option_map figure (figure_spelled place spelling)

abbrev pub amount_of : Item → Option Amount
amount_of (word place spelling) = amount_spelled place spelling
amount_of (list place (item head (item n (item d no_items)))) = if is_symbol_of (codes "/") head then quotient_of place n d else None
amount_of other = None

-- what an argument of la_generic stands for, where it has the form of a coefficient
unfoldable pub coefficient_of : Item → Option Coefficient
coefficient_of i = elim (opposite_of i) [
  | Some j ↦ option_map (λ a. record { negative = true; amount = a }) (amount_of j)
  | None ↦ option_map (λ a. record { negative = false; amount = a }) (amount_of i)
]

-- the greatest common divisor, by Euclid's algorithm in so many steps at most
abbrev pub common_divisor_in : ℕ → ℕ → ℕ → ℕ
common_divisor_in zero a b = a
common_divisor_in (suc n) a b = if b == 0 then a else common_divisor_in n b (a % b)

unfoldable pub common_divisor : ℕ → ℕ → ℕ
common_divisor a b = common_divisor_in (suc b) a b

-- numerator and denominator, as they are spelled and in lowest terms
abbrev pub fraction_parts : Amount → ℕ × ℕ
fraction_parts (figure f) = (f.digits, 10 ^ f.behind_point)
fraction_parts (ratio place n d) = (n, d)
fraction_parts (quotient place negative n d) = (n.digits * 10 ^ d.behind_point, 10 ^ n.behind_point * d.digits)

abbrev pub lowest : ℕ × ℕ → ℕ × ℕ
lowest p = (p.0 / common_divisor p.0 p.1, p.1 / common_divisor p.0 p.1)

abbrev pub is_negative : Amount → Bool
is_negative (quotient place negative n d) = negative
is_negative other = false

abbrev pub is_wide : ℕ → Bool
is_wide n = nat_le (2 ^ 127) n

-- Of a decimal both the number of its digits and the power of ten below it have to fit.
abbrev pub figure_fault : Figure → Option ℕ
figure_fault f = if is_wide f.digits || is_wide (10 ^ f.behind_point) then Some f.place else None

-- The first number that is too wide. Of a quotient the figures come first, and then it itself, in lowest terms.
abbrev pub width_fault : Amount → Option ℕ
width_fault (figure f) = figure_fault f
width_fault (ratio place n d) = if is_wide n || is_wide d then Some place else None
width_fault (quotient place negative n d) =
    option_or (figure_fault n) (option_or (figure_fault d)
    (if is_wide (lowest (fraction_parts (quotient place negative n d))).0 || is_wide (lowest (fraction_parts (quotient place negative n d))).1
    then Some place else None))

-- numerator over denominator, with a sign
abbrev pub signed : Bool → ℕ × ℕ → Fraction
signed negative p = record { num = if negative then neg_ℤ (pos p.0) else pos p.0; den = pos p.1 }

abbrev pub fraction_of : Coefficient → Fraction
fraction_of c = signed (if c.negative then not (is_negative c.amount) else is_negative c.amount) (lowest (fraction_parts c.amount))

abbrev pub coefficient_read : Option Coefficient → Result (Option Fraction) Refusal
coefficient_read None = Ok None
coefficient_read (Some c) = elim (width_fault c.amount) [ Some place ↦ refused WideNumber place | None ↦ Ok (Some (fraction_of c)) ]

-- The coefficients that arguments are, or None where one of them is no coefficient. All of them are judged.
unfoldable pub coefficients_from : Items → Result (Option (List Fraction)) Refusal
coefficients_from no_items = Ok (Some [])
coefficients_from (item i rest) =
    result_then (coefficient_read (coefficient_of i)) (λ q. result_then (coefficients_from rest) (λ qs.
    Ok (option_and_then (λ first. option_map (λ others. first ∷ others) qs) q)))
