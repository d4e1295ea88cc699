-- The number that a text spells, and what `parse` makes of the text.
use Rattle.std.proofs.Common.{◌≡◌, ◌∙◌, ◌&&◌, ◌<◌, ◌≤◌, ◌^◌, ap, arith, refl, subst, sym, ℕ, Bool, true, false, List, [], ◌∷◌, not, None, Some}
use Rattle.std.proofs.Math.Bool.{and-false}
use Rattle.std.proofs.lemmas.Bool.{le-leb, leb-true, ne_eqb}
use Rattle.std.proofs.lemmas.Option.{same_Some}
use Rattle.std.proofs.lemmas.Str.Parse.{IsNumeralModel, numerals_by_value, tells_all_ascii_digits}
use Rattle.std.specs.Prelude.{if◌then◌else◌, nat_eq, nat_le, slice_get}
use Rattle.std.specs.Str.{all_ascii_digits}
use Rattle.std.specs.Str.Parse.{IsNumeral, digits_value, without_leading_plus}
use Rattle.command_words.specs.CommandLine.{number_up_to}

digits_model : IsNumeralModel (λ ds. all_ascii_digits ds ≡ true) (digits_value 10)
digits_model = numerals_by_value (λ ds. all_ascii_digits ds ≡ true) tells_all_ascii_digits

module _ (most : ℕ) (b : ℕ) (rest : List ℕ) (low : 48 < b) where
  abbrev text : List ℕ
  text = b ∷ rest

  no_plus : without_leading_plus text ≡ text
  no_plus = rw (ne_eqb b 43 (λ e. omega (arith, e))) refl

  value : ℕ
  value = digits_value 10 text

  chosen : (z d m l : Bool) → z ≡ false → d ≡ true → m ≡ true → l ≡ true → (if (not z && d) && (m && l) then Some (digits_value 10 text) else None) ≡ Some (digits_value 10 text)
  chosen z d m l zero digits more less = rw (zero, digits, more, less) refl

  pub is_taken : (count : ℕ) → IsNumeral 10 (without_leading_plus text) → count ≡ digits_value 10 (without_leading_plus text) → 1 ≤ count → count ≤ most
      → Some count ≡ number_up_to most text
  is_taken count numeral is more less =
      let all : IsNumeral 10 text = rw no_plus at numeral in
      let same : count ≡ digits_value 10 text = rw no_plus at is in
      ap Some same
      ∙ sym (chosen (nat_eq b 48) (all_ascii_digits text) (nat_le 1 (digits_value 10 text)) (nat_le (digits_value 10 text) most)
      (ne_eqb b 48 (λ e. omega (arith, e))) (digits_model.from text all.1)
      (le-leb 1 (digits_value 10 text) (subst (λ v. 1 ≤ v) same more)) (le-leb (digits_value 10 text) most (subst (λ v. v ≤ most) same less)))

  pub is_missed : most < 2 ^ 32 → (IsNumeral 10 (without_leading_plus text) × (digits_value 10 (without_leading_plus text) < 2 ^ 32) → ⊥) → None ≡ number_up_to most text
  is_missed fits bad = by (all_ascii_digits text) (nat_le (digits_value 10 text) most) refl refl
    where
      narrow : digits_value 10 text ≤ most → all_ascii_digits text ≡ true → ⊥
      narrow less digits = bad (rw no_plus ((omega arith, digits_model.to text digits), omega (arith, fits, less)))

      by : (d l : Bool) → all_ascii_digits text ≡ d → nat_le (digits_value 10 text) most ≡ l
          → None ≡ (if (not (nat_eq b 48) && d) && (nat_le 1 (digits_value 10 text) && l) then Some (digits_value 10 text) else None)
      by false l e k = rw (and-false (not (nat_eq b 48))) refl
      by true false e k = rw (and-false (nat_le 1 (digits_value 10 text)), and-false (not (nat_eq b 48) && true)) refl
      by true true e k = absurd (narrow (leb-true (digits_value 10 text) most k) e)

-- what `parse` says of a text that it takes, and of one that it refuses
abbrev pub IsTaken : ℕ → List ℕ → Type 0
IsTaken count text = (IsNumeral 10 (without_leading_plus text) × (digits_value 10 (without_leading_plus text) < 2 ^ 32))
    × (count ≡ digits_value 10 (without_leading_plus text))

pub taken : (most : ℕ) (text : List ℕ) (b : ℕ) → Some b ≡ slice_get text 0 → 48 < b → (count : ℕ) → IsTaken count text → 1 ≤ count → count ≤ most
    → Some count ≡ number_up_to most text
taken most [] b there low count h more less = absurd (cc)
taken most (x ∷ rest) b there low count h more less = is_taken most x rest (subst (λ y. 48 < y) (same_Some b x there) low) count h.0.0 h.1 more less

pub missed : (most : ℕ) (text : List ℕ) (b : ℕ) → Some b ≡ slice_get text 0 → 48 < b → most < 2 ^ 32
    → (IsNumeral 10 (without_leading_plus text) × (digits_value 10 (without_leading_plus text) < 2 ^ 32) → ⊥) → None ≡ number_up_to most text
missed most [] b there low fits h = absurd (cc)
missed most (x ∷ rest) b there low fits h = is_missed most x rest (subst (λ y. 48 < y) (same_Some b x there) low) fits h
