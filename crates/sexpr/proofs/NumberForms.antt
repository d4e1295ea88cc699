-- Cited by crates above. A word that begins with a digit is cut after its digits.
use Rattle.std.proofs.Common.{◌≡◌, ℕ, zero, suc, ◌+◌, ◌-◌, ◌<◌, Bool, true, false, not, ◌&&◌, eqb, List, [], ◌∷◌, length, get_or, take, drop, refl, sym, ap, ◌∙◌, inl, inr, arith, eqb-true, eq-eqb, get_or-take, length-take-le, subst, ◌≤◌, ◌≢◌, ◌⊎◌}
use Rattle.std.proofs.lemmas.Bool.{and_parts, cases_lt}
use Rattle.std.proofs.lemmas.List.{drop_all, take_rest}
use Rattle.std.proofs.lemmas.List.Sums.{prefix_len_is, prefix_len_passes, prefix_len_stops, list_all-from_AllPass}
use Rattle.std.proofs.lemmas.List.Elements.{All-from_get_or}
use Rattle.std.specs.List.{prefix_len, list_all, position_or_len, before_first, after_first}
use Rattle.std.specs.Char.{is_ascii_digit}
use Rattle.sexpr.specs.Words.{is_digits, is_numeral, is_decimal, is_ratio}

all_pass : (p : ℕ → Bool) (xs : List ℕ) (k : ℕ) → list_all p xs ≡ true → k < length xs → p (get_or xs k 0) ≡ true
all_pass p [] k all within = absurd (omega arith)
all_pass p (x ∷ xs) zero all within = (and_parts _ _ all).0
all_pass p (x ∷ xs) (suc k) all within = all_pass p xs k (and_parts _ _ all).1 (omega arith)

-- each byte of one or more digits is a digit
all_digits : (word : List ℕ) (k : ℕ) → is_digits word ≡ true → k < length word → is_ascii_digit (get_or word k 0) ≡ true
all_digits [] k digits within = absurd (omega arith)
all_digits (b ∷ word) k digits within = all_pass is_ascii_digit (b ∷ word) k digits within

pub is_digits-from_numeral : (word : List ℕ) → is_numeral word ≡ true → is_digits word ≡ true
is_digits-from_numeral [] numeral = numeral
is_digits-from_numeral (b ∷ []) numeral = rw numeral refl
is_digits-from_numeral (b ∷ c ∷ word) numeral = (and_parts _ _ numeral).1

false_unless : (b : Bool) → (b ≡ true → ⊥) → b ≡ false
false_unless true never = absurd (never refl)
false_unless false never = refl

-- one or more digits are all that stands there
pub prefix_len-digits : (word : List ℕ) → is_digits word ≡ true → prefix_len is_ascii_digit word ≡ length word
prefix_len-digits word digits =
    prefix_len_is is_ascii_digit word (length word) 0 (omega arith) (λ k within. all_digits word k digits within) (λ past. absurd (omega arith))

-- the digits that stand there are one or more, where they are the whole
pub digits-prefix_len : (word : List ℕ) → 0 < length word → prefix_len is_ascii_digit word ≡ length word → is_digits word ≡ true
digits-prefix_len [] some whole = absurd (omega arith)
digits-prefix_len (b ∷ word) some whole =
    list_all-from_AllPass is_ascii_digit (b ∷ word)
    (All-from_get_or (λ x. is_ascii_digit x ≡ true) (b ∷ word) 0 (λ k within. prefix_len_passes is_ascii_digit (b ∷ word) k 0 (omega (arith, whole))))

-- whether the digits at the front are the whole decides
pub is_digits_is : (word : List ℕ) → 0 < length word → eqb (prefix_len is_ascii_digit word) (length word) ≡ is_digits word
is_digits_is word some = go (is_digits word) refl
  where
    go : (b : Bool) → is_digits word ≡ b → eqb (prefix_len is_ascii_digit word) (length word) ≡ b
    go true e = eq-eqb _ _ (prefix_len-digits word e)
    go false e = false_unless _ (λ same. let clash : true ≡ false = sym (digits-prefix_len word some (eqb-true _ _ same)) ∙ e in cc)

module _ (c : ℕ) (no_digit : is_ascii_digit c ≡ false) (word : List ℕ) where
  abbrev first : ℕ
  first = position_or_len (λ b. eqb b c) word

  -- the byte at the first place of c is c
  at_first : first < length word → get_or word first 0 ≡ c
  at_first within =
      eqb-true _ _ (not_false _ (prefix_len_stops (λ b. not (eqb b c)) word 0 within))
    where
      not_false : (b : Bool) → not b ≡ false → b ≡ true
      not_false true e = refl
      not_false false e = sym e

  -- the digits at the front end at the first c, where only digits stand before it
  ends_at_first : is_digits (before_first (λ b. eqb b c) word) ≡ true → first < length word → prefix_len is_ascii_digit word ≡ first
  ends_at_first digits within =
      prefix_len_is is_ascii_digit word first 0 (omega arith)
      (λ k below. ap is_ascii_digit (sym (get_or-take first word k 0 below)) ∙ all_digits (take first word) k digits (omega (arith, length-take-le first word)))
      (λ inside. ap is_ascii_digit (at_first within) ∙ no_digit)

  -- where the byte after the digits is c, it is the first c
  pub first_is : prefix_len is_ascii_digit word < length word → get_or word (prefix_len is_ascii_digit word) 0 ≡ c → first ≡ prefix_len is_ascii_digit word
  first_is within here =
      prefix_len_is (λ b. not (eqb b c)) word (prefix_len is_ascii_digit word) 0 (omega arith)
      (λ k below. ap not (false_unless _ (λ same. clash k below (eqb-true _ _ same))))
      (λ inside. ap not (eq-eqb _ _ here))
    where
      clash : (k : ℕ) → k < prefix_len is_ascii_digit word → get_or word k 0 ≡ c → ⊥
      clash k below same =
          let yes = prefix_len_passes is_ascii_digit word k 0 below in
          let e : true ≡ false = sym yes ∙ ap is_ascii_digit same ∙ no_digit in cc

  -- where it isn't, no digits stand before a first c with something after it
  pub no_first : (q : List ℕ → Bool) → q [] ≡ false
      → ((prefix_len is_ascii_digit word < length word) → get_or word (prefix_len is_ascii_digit word) 0 ≡ c → ⊥)
      → (is_numeral (before_first (λ b. eqb b c) word) && q (after_first (λ b. eqb b c) word)) ≡ false
  no_first q empty other =
      false_unless _ (λ both. let parts : (is_numeral (take first word) ≡ true) × (q (drop (first + 1) word) ≡ true) = and_parts _ _ both in
      elim (cases_lt first (length word)) [
        | inl within ↦
            let ends = ends_at_first (is_digits-from_numeral (take first word) parts.0) within in
            other (omega arith) (ap (λ n. get_or word n 0) ends ∙ at_first within)
        | inr past ↦
            let nothing : after_first (λ b. eqb b c) word ≡ [] = drop_all _ word (omega arith) in
            let e : true ≡ false = sym parts.1 ∙ ap q nothing ∙ empty in cc
      ])

-- A word is cut after its digits, at n.
module _ (word : List ℕ) (n : ℕ) (here : n ≡ prefix_len is_ascii_digit word) where
  elsewhere : (c : ℕ) → (n < length word → get_or word n 0 ≡ c → ⊥) → (prefix_len is_ascii_digit word < length word → get_or word (prefix_len is_ascii_digit word) 0 ≡ c → ⊥)
  elsewhere c other = subst (λ m. m < length word → get_or word m 0 ≡ c → ⊥) here other

  decimal_none_if : (n < length word → get_or word n 0 ≡ 46 → ⊥) → is_decimal word ≡ false
  decimal_none_if other = no_first 46 refl word is_digits refl (elsewhere 46 other)

  ratio_none_if : (n < length word → get_or word n 0 ≡ 47 → ⊥) → is_ratio word ≡ false
  ratio_none_if other = no_first 47 refl word is_numeral refl (elsewhere 47 other)

  cut_is : (c : ℕ) → is_ascii_digit c ≡ false → n < length word → get_or word n 0 ≡ c → position_or_len (λ b. eqb b c) word ≡ n
  cut_is c no_digit within at_n = first_is c no_digit word (omega (arith, here)) (ap (λ m. get_or word m 0) (sym here) ∙ at_n) ∙ sym here

-- The same, as the code cuts the word.
pub decimal_none : (word : List ℕ) (n : ℕ) → n ≡ prefix_len is_ascii_digit word → (length word ≤ n) ⊎ (get_or word n 0 ≢ 46) → is_decimal word ≡ false
decimal_none word n here (inl past) = decimal_none_if word n here (λ within e. omega arith)
decimal_none word n here (inr other) = decimal_none_if word n here (λ within e. other e)

pub ratio_none : (word : List ℕ) (n : ℕ) → n ≡ prefix_len is_ascii_digit word → (length word ≤ n) ⊎ (get_or word n 0 ≢ 47) → is_ratio word ≡ false
ratio_none word n here (inl past) = ratio_none_if word n here (λ within e. omega arith)
ratio_none word n here (inr other) = ratio_none_if word n here (λ within e. other e)

pub decimal_cut : (word : List ℕ) (n : ℕ) → n ≡ prefix_len is_ascii_digit word → n < length word → get_or word n 0 ≡ 46
    → is_decimal word ≡ (is_numeral (take n word) && is_digits (take (length word - (n + 1)) (drop (n + 1) word)))
decimal_cut word n here within at_n = rw (take_rest word (n + 1)) (ap (λ m. is_numeral (take m word) && is_digits (drop (m + 1) word)) (cut_is word n here 46 refl within at_n))

pub ratio_cut : (word : List ℕ) (n : ℕ) → n ≡ prefix_len is_ascii_digit word → n < length word → get_or word n 0 ≡ 47
    → is_ratio word ≡ (is_numeral (take n word) && is_numeral (take (length word - (n + 1)) (drop (n + 1) word)))
ratio_cut word n here within at_n = rw (take_rest word (n + 1)) (ap (λ m. is_numeral (take m word) && is_numeral (drop (m + 1) word)) (cut_is word n here 47 refl within at_n))
