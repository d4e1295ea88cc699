-- Coefficients that are read are fractions in lowest terms.
use Rattle.std.proofs.Common.{◌≡◌, ◌<◌, ◌*◌, ◌/◌, ◌^◌, ◌==◌, ℕ, List, ◌∷◌, Bool, true, false, not, Option, Some, None, Result, Ok, Err, IfSome, IfOk, option_map, option_and_then, All, refl, arith, if◌then◌else◌}
use Rattle.std.specs.Prelude.{codes}
use Rattle.std.proofs.lemmas.Bool.Decides.{nat_tests}
use Rattle.std.proofs.lemmas.List.Elements.{All-nil, All-cons}
use Rattle.std.proofs.Math.Nat.{mul-pos, one-le-pow, div-le_self}
use Rattle.std.proofs.lemmas.Bool.{or_parts}
use Rattle.sexpr.specs.declared.causes.Cause.TheVariants.{WideNumber}
use Rattle.sexpr.specs.declared.causes.Refusal.{Refusal}
use Rattle.sexpr.specs.Words.{is_ratio}
use Rattle.sexpr.specs.Items.{Item, word, quoted, string, list, Items, no_items, item}
use Rattle.term_model.proofs.Basics.{or_none}
use Rattle.rule_model.specs.Proofs.{Fraction}
use Rattle.rule_model.specs.WellFormed.{IsLowest}
use Rattle.problem_text.specs.Commands.{refused}
use Rattle.problem_text.specs.Sorts.{result_then}
use Rattle.alethe_text.specs.Commands.{is_symbol_of}
use Rattle.alethe_text.specs.Coefficients.{Figure, Amount, figure, ratio, quotient, Coefficient, figure_spelled, figure_of, divisor_of, opposite_of, quotient_of, numerator_spelled, denominator_spelled, amount_spelled, amount_of, coefficient_of, fraction_parts, lowest, is_negative, is_wide, figure_fault, width_fault, fraction_of, coefficient_read, coefficients_from}
use Rattle.alethe_text.proofs.LowestTerms.{lowest_is}

ten_power : (k : ℕ) → 0 < 10 ^ k
ten_power k = one-le-pow k 10 (omega arith)

-- the denominator is over 0
abbrev HasDenominator : Amount → Type 0
HasDenominator a = 0 < (fraction_parts a).1

figures : (o : Option Figure) → IfSome (option_map figure o) HasDenominator
figures None = tt
figures (Some f) = ten_power f.behind_point

spelled_has : (place : ℕ) (spelling : List ℕ) → IfSome (amount_spelled place spelling) HasDenominator
spelled_has place spelling = go (is_ratio spelling) (denominator_spelled spelling == 0) refl
  where
    go : (a b : Bool) → (denominator_spelled spelling == 0) ≡ b → IfSome (if a then (if b then None else Some (ratio place (numerator_spelled spelling) (denominator_spelled spelling))) else option_map figure (figure_spelled place spelling)) HasDenominator
    go true true e = tt
    go true false e = grind (arith, nat_tests)
    go false b e = figures (figure_spelled place spelling)

product_some : (a b : ℕ) → 0 < a → 0 < b → 0 < a * b
product_some a b h k = mul-pos h k

divisor_some : (d : Item) → IfSome (divisor_of d) (λ f. 0 < f.digits)
divisor_some d = go (figure_of d)
  where
    over : (f : Figure) (b : Bool) → (f.digits == 0) ≡ b → IfSome (if b then None else Some f) (λ f. 0 < f.digits)
    over f true e = tt
    over f false e = grind (arith, nat_tests)

    go : (o : Option Figure) → IfSome (option_and_then (λ f. if f.digits == 0 then None else Some f) o) (λ f. 0 < f.digits)
    go None = tt
    go (Some f) = over f (f.digits == 0) refl

quotient_has : (place : ℕ) (n d : Item) → IfSome (quotient_of place n d) HasDenominator
quotient_has place n d = go (opposite_of n)
  where
    divided : (negative : Bool) (f : Figure) (o : Option Figure) → IfSome o (λ g. 0 < g.digits) → IfSome (option_map (quotient place negative f) o) HasDenominator
    divided negative f None h = tt
    divided negative f (Some g) h = product_some (10 ^ f.behind_point) g.digits (ten_power f.behind_point) h

    over : (negative : Bool) (o : Option Figure) → IfSome (option_and_then (λ f. option_map (quotient place negative f) (divisor_of d)) o) HasDenominator
    over negative None = tt
    over negative (Some f) = divided negative f (divisor_of d) (divisor_some d)

    go : (o : Option Item) → IfSome (elim o [ Some m ↦ option_and_then (λ f. option_map (quotient place true f) (divisor_of d)) (figure_of m) | None ↦ option_and_then (λ f. option_map (quotient place false f) (divisor_of d)) (figure_of n) ]) HasDenominator
    go (Some m) = over true (figure_of m)
    go None = over false (figure_of n)

amount_has : (i : Item) → IfSome (amount_of i) HasDenominator
amount_has (word place spelling) = spelled_has place spelling
amount_has (quoted place spelling) = tt
amount_has (string place spelling) = tt
amount_has (list place no_items) = tt
amount_has (list place (item head no_items)) = tt
amount_has (list place (item head (item n no_items))) = tt
amount_has (list place (item head (item n (item d no_items)))) = go (is_symbol_of (codes "/") head)
  where
    go : (b : Bool) → IfSome (if b then quotient_of place n d else None) HasDenominator
    go true = quotient_has place n d
    go false = tt
amount_has (list place (item head (item n (item d (item e rest))))) = tt

coefficient_has : (i : Item) → IfSome (coefficient_of i) (λ c. HasDenominator c.amount)
unfolding coefficient_of
coefficient_has i = go (opposite_of i)
  where
    with_sign : (negative : Bool) (o : Option Amount) → IfSome o HasDenominator → IfSome {T = Coefficient} (option_map (λ a. record { negative = negative; amount = a }) o) (λ c. HasDenominator c.amount)
    with_sign negative None h = tt
    with_sign negative (Some a) h = h

    go : (o : Option Item) → IfSome {T = Coefficient} (elim o [ Some j ↦ option_map (λ a. record { negative = true; amount = a }) (amount_of j) | None ↦ option_map (λ a. record { negative = false; amount = a }) (amount_of i) ]) (λ c. HasDenominator c.amount)
    go (Some j) = with_sign true (amount_of j) (amount_has j)
    go None = with_sign false (amount_of i) (amount_has i)

-- What is not wide is below the limit.
narrow_number : (n : ℕ) → is_wide n ≡ false → n < 2 ^ 127
narrow_number n e = grind (arith, nat_tests)

no_fault : (b : Bool) (place : ℕ) → (if b then Some place else None) ≡ None → b ≡ false
no_fault true place e = absurd (cc)
no_fault false place e = refl

below : (a b n : ℕ) → a < 2 ^ 127 → a / n < 2 ^ 127
below a b n h = let l = div-le_self a n in omega (arith, h, l)

abbrev IsNarrowPair : ℕ × ℕ → Type 0
IsNarrowPair p = (p.0 < 2 ^ 127) × (p.1 < 2 ^ 127)

-- the parts in lowest terms of an amount that is not too wide
narrow_parts : (a : Amount) → width_fault a ≡ None → IsNarrowPair (lowest (fraction_parts a))
narrow_parts (figure f) e =
    let parts = or_parts (is_wide f.digits) (is_wide (10 ^ f.behind_point)) (no_fault _ f.place e) in
    (below f.digits 0 _ (narrow_number f.digits parts.0), below (10 ^ f.behind_point) 0 _ (narrow_number (10 ^ f.behind_point) parts.1))
narrow_parts (ratio place n d) e =
    let parts = or_parts (is_wide n) (is_wide d) (no_fault _ place e) in
    (below n 0 _ (narrow_number n parts.0), below d 0 _ (narrow_number d parts.1))
narrow_parts (quotient place negative n d) e =
    let p = lowest (fraction_parts (quotient place negative n d)) in
    let last = (or_none (figure_fault d) _ (or_none (figure_fault n) _ e).1).1 in
    let parts = or_parts (is_wide p.0) (is_wide p.1) (no_fault _ place last) in
    (narrow_number p.0 parts.0, narrow_number p.1 parts.1)

fraction_lowest : (c : Coefficient) → HasDenominator c.amount → width_fault c.amount ≡ None → IsLowest (fraction_of c)
fraction_lowest c h e =
    let narrow = narrow_parts c.amount e in
    lowest_is (if c.negative then not (is_negative c.amount) else is_negative c.amount) (fraction_parts c.amount) h narrow.0 narrow.1

read_lowest : (o : Option Coefficient) → IfSome o (λ c. HasDenominator c.amount) → IfOk (coefficient_read o) (λ q. IfSome q IsLowest)
read_lowest None h = tt
read_lowest (Some c) h = go (width_fault c.amount) refl
  where
    go : (o : Option ℕ) → width_fault c.amount ≡ o → IfOk (elim o [ Some place ↦ refused WideNumber place | None ↦ Ok (Some (fraction_of c)) ]) (λ q. IfSome q IsLowest)
    go (Some place) e = tt
    go None e = fraction_lowest c h e

chained_ok : {A B : Type 0} (Q : A → Type 0) (R : B → Type 0) (r : Result A Refusal) (next : A → Result B Refusal) → IfOk r Q → ((a : A) → Q a → IfOk (next a) R) → IfOk (result_then r next) R
chained_ok Q R (Ok a) next h k = k a h
chained_ok Q R (Err refusal) next h k = tt

pub coefficients_lowest : (items : Items) → IfOk (coefficients_from items) (λ o. IfSome o (All IsLowest))
unfolding coefficients_from
coefficients_lowest no_items = All-nil IsLowest
coefficients_lowest (item i rest) =
    chained_ok (λ q. IfSome q IsLowest) (λ o. IfSome o (All IsLowest)) (coefficient_read (coefficient_of i)) _ (read_lowest (coefficient_of i) (coefficient_has i))
    (λ q h. chained_ok (λ o. IfSome o (All IsLowest)) (λ o. IfSome o (All IsLowest)) (coefficients_from rest) _ (coefficients_lowest rest) (λ qs k. both q qs h k))
  where
    both : (q : Option Fraction) (qs : Option (List Fraction)) → IfSome q IsLowest → IfSome qs (All IsLowest) → IfSome (option_and_then (λ first. option_map (λ others. first ∷ others) qs) q) (All IsLowest)
    both None qs h k = tt
    both (Some q) None h k = tt
    both (Some q) (Some qs) h k = All-cons IsLowest q qs h k
