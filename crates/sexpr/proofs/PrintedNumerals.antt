-- Cited by crates above. Printed numerals are read back.
use Rattle.std.proofs.lemmas.Bool.Decides.{nat_tests}
use Rattle.std.proofs.Common.{◌≡◌, ℕ, zero, suc, ◌+◌, ◌-◌, ◌*◌, ◌/◌, ◌%◌, ◌^◌, ◌<◌, ◌≤◌, true, false, not, ◌&&◌, ◌==◌}
use Rattle.std.proofs.Common.{List, [], ◌∷◌, ◌++◌, length, fold, decimal, refl, ap, ◌∙◌, arith}
use Rattle.std.proofs.lemmas.Fmt.{decimal_by_steps_wide}
use Rattle.std.proofs.lemmas.Bool.{and_parts}
use Rattle.std.proofs.lemmas.List.Sums.{AllPass-from_list_all}
use Rattle.std.specs.List.{list_all}
use Rattle.std.specs.Char.{is_ascii_digit}
use Rattle.sexpr.specs.Characters.{is_word_byte}
use Rattle.sexpr.specs.Words.{is_numeral, is_digits, is_number, numeral_value}
use Rattle.sexpr.specs.Grammar.{IsWord}

-- how a number is spelled
pub record IsNumeralOf (n : ℕ) (ds : List ℕ) : Type 0 where
  pub numeral : is_numeral ds ≡ true
  pub digits : list_all is_ascii_digit ds ≡ true
  pub value : numeral_value ds ≡ n

digit_is : (n : ℕ) → n < 10 → is_ascii_digit (48 + n) ≡ true
digit_is zero l = refl
digit_is (suc zero) l = refl
digit_is (suc (suc zero)) l = refl
digit_is (suc (suc (suc zero))) l = refl
digit_is (suc (suc (suc (suc zero)))) l = refl
digit_is (suc (suc (suc (suc (suc zero))))) l = refl
digit_is (suc (suc (suc (suc (suc (suc zero)))))) l = refl
digit_is (suc (suc (suc (suc (suc (suc (suc zero))))))) l = refl
digit_is (suc (suc (suc (suc (suc (suc (suc (suc zero)))))))) l = refl
digit_is (suc (suc (suc (suc (suc (suc (suc (suc (suc zero))))))))) l = refl
digit_is (suc (suc (suc (suc (suc (suc (suc (suc (suc (suc n)))))))))) l = absurd (omega (arith, l))

one : (n : ℕ) → n < 10 → IsNumeralOf n ((48 + n) ∷ [])
one n l = let d = digit_is n l in record { numeral = d; digits = rw d refl; value = omega arith }

fold_more : (f : ℕ → ℕ → ℕ) (z : ℕ) (xs : List ℕ) (d : ℕ) → fold f z (xs ++ d ∷ []) ≡ f (fold f z xs) d
fold_more f z [] d = refl
fold_more f z (x ∷ xs) d = fold_more f (f z x) xs d

all_more : (xs : List ℕ) (d : ℕ) → list_all is_ascii_digit xs ≡ true → is_ascii_digit d ≡ true → list_all is_ascii_digit (xs ++ d ∷ []) ≡ true
all_more [] d a b = rw b refl
all_more (x ∷ xs) d a b =
    let both = and_parts (is_ascii_digit x) (list_all is_ascii_digit xs) a in
    let e = both.0 in
    let f = all_more xs d both.1 b in
    rw (e, f) refl

no_zero : (x : ℕ) → (x ≡ 48 → ⊥) → (x == 48) ≡ false
no_zero x differs = grind (arith, nat_tests)

numeral_more : (n : ℕ) (ds : List ℕ) (d : ℕ) → 0 < n → IsNumeralOf n ds → is_ascii_digit d ≡ true → is_numeral (ds ++ d ∷ []) ≡ true
numeral_more n [] d some h b = absurd (let f : false ≡ true = h.numeral in cc)
numeral_more n (x ∷ []) d some h b =
    let e : is_ascii_digit x ≡ true = h.numeral in
    let v : 10 * 0 + (x - 48) ≡ n = h.value in
    let f : (x == 48) ≡ false = no_zero x (λ same. let w : x - 48 ≡ 0 = ap (λ y. y - 48) same in omega (arith, v, w, some)) in
    rw (f, e, b) refl
numeral_more n (x ∷ y ∷ ds) d some h b =
    let parts = and_parts (not (x == 48)) (is_digits (x ∷ y ∷ ds)) h.numeral in
    let f = parts.0 in
    let inner = and_parts (is_ascii_digit x) (list_all is_ascii_digit (y ∷ ds)) parts.1 in
    let e = inner.0 in
    let g : list_all is_ascii_digit ((y ∷ ds) ++ d ∷ []) ≡ true = all_more (y ∷ ds) d inner.1 b in
    let k : (is_ascii_digit x && list_all is_ascii_digit ((y ∷ ds) ++ d ∷ [])) ≡ true = rw (e, g) refl in
    ap (λ t. t && (is_ascii_digit x && list_all is_ascii_digit ((y ∷ ds) ++ d ∷ []))) f ∙ k

more : (n : ℕ) (ds : List ℕ) → 10 ≤ n → IsNumeralOf (n / 10) ds → IsNumeralOf n (ds ++ ((48 + n % 10) ∷ []))
more n ds l h =
    let d = digit_is (n % 10) (omega arith) in
    record {
      numeral = numeral_more (n / 10) ds (48 + n % 10) (omega (arith, l)) h d;
      digits = all_more ds (48 + n % 10) h.digits d;
      value = fold_more (λ n b. 10 * n + (b - 48)) 0 ds (48 + n % 10) ∙ ap (λ v. 10 * v + (48 + n % 10 - 48)) h.value ∙ joined;
    }
  where
    joined : 10 * (n / 10) + (48 + n % 10 - 48) ≡ n
    joined = omega arith

pub decimal_is : (n : ℕ) → n < 10 ^ 64 → IsNumeralOf n (decimal n)
decimal_is n small = decimal_by_steps_wide IsNumeralOf one more n small

digit_is_word : (b : ℕ) → is_ascii_digit b ≡ true → is_word_byte b ≡ true
unfolding is_word_byte
digit_is_word b e = rw e refl

words : (ds : List ℕ) → list_all is_ascii_digit ds ≡ true → list_all is_word_byte ds ≡ true
words [] e = refl
words (d ∷ ds) e =
    let both = and_parts (is_ascii_digit d) (list_all is_ascii_digit ds) e in
    let f = digit_is_word d both.0 in
    let g = words ds both.1 in
    rw (f, g) refl

numeral_some : (ds : List ℕ) → is_numeral ds ≡ true → 0 < length ds
numeral_some [] e = absurd (let f : false ≡ true = e in cc)
numeral_some (d ∷ ds) e = omega arith

pub decimal_is_word : (n : ℕ) → n < 10 ^ 64 → IsWord (decimal n)
unfolding is_number
decimal_is_word n small =
    let h = decimal_is n small in
    let e = h.numeral in
    record {
      some = numeral_some (decimal n) h.numeral;
      bytes = AllPass-from_list_all is_word_byte (decimal n) (words (decimal n) h.digits);
      number = λ digit. rw e refl;
    }
