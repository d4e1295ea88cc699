-- The table of classes holds the class of each byte.
use Rattle.std.proofs.Common.{◌≡◌, ℕ, zero, suc, ◌+◌, ◌<◌, Bool, true, false, ◌&&◌, inl, inr, subst, cond, eqb, List, [], ◌∷◌, length, get_or, refl, sym, ap, ◌∙◌, arith, eqb-true, zero-add, add-zero}
use Rattle.std.proofs.lemmas.Bool.{and_parts, or_cases}
use Rattle.sexpr.specs.declared.bytes.Class.{Class}
use Rattle.sexpr.specs.declared.bytes.Class.TheVariants.{Other, White, Word}
use Rattle.sexpr.specs.Characters.{is_white, is_word_byte, is_mark}
use Rattle.sexpr.specs.Classes.{class_of}

abbrev number_of : Class → ℕ
number_of Other = 0
number_of White = 1
number_of Word = 2

one_number : (a b : Class) → number_of a ≡ number_of b → a ≡ b
one_number Other Other same = refl
one_number White White same = refl
one_number Word Word same = refl
one_number Other White same = absurd (omega arith)
one_number Other Word same = absurd (omega arith)
one_number White Other same = absurd (omega arith)
one_number White Word same = absurd (omega arith)
one_number Word Other same = absurd (omega arith)
one_number Word White same = absurd (omega arith)

-- the table holds the classes that f gives from n on
abbrev agrees : (ℕ → Class) → ℕ → List Class → Bool
agrees f n [] = true
agrees f n (x ∷ xs) = eqb (number_of x) (number_of (f n)) && agrees f (suc n) xs

class_from : (f : ℕ → Class) (n : ℕ) (xs : List Class) (k : ℕ) → agrees f n xs ≡ true → k < length xs → get_or xs k Other ≡ f (n + k)
class_from f n [] k all within = absurd (omega arith)
class_from f n (x ∷ xs) zero all within = rw add-zero (one_number x (f n) (eqb-true _ _ (and_parts _ _ all).0))
class_from f n (x ∷ xs) (suc k) all within =
    let e : suc n + k ≡ n + suc k = omega arith in
    class_from f (suc n) xs k (and_parts _ _ all).1 (omega arith) ∙ ap f e

-- a table that holds them all has the class of each byte at its place
pub class_in_table : (f : ℕ → Class) (xs : List Class) (k : ℕ) → agrees f 0 xs ≡ true → length xs ≡ 256 → k < 256 → get_or xs k Other ≡ f k
class_in_table f xs k all whole within = class_from f 0 xs k all (omega arith) ∙ ap f (zero-add k)

-- the tests of a class
abbrev pub is_class_white : Class → Bool
is_class_white Other = false
is_class_white White = true
is_class_white Word = false

pub not_white : (k : Class) → (k ≡ White → ⊥) → is_class_white k ≡ false
not_white Other other = refl
not_white White other = absurd (other refl)
not_white Word other = refl

of_white : (w v : Bool) → is_class_white (cond w White (cond v Word Other)) ≡ w
of_white true v = refl
of_white false true = refl
of_white false false = refl

pub is_class_white-class_of : (b : ℕ) → is_class_white (class_of b) ≡ is_white b
unfolding class_of
is_class_white-class_of b = of_white (is_white b) (is_word_byte b)

abbrev pub is_class_word : Class → Bool
is_class_word Other = false
is_class_word White = false
is_class_word Word = true

pub not_word : (k : Class) → (k ≡ Word → ⊥) → is_class_word k ≡ false
not_word Other other = refl
not_word White other = refl
not_word Word other = absurd (other refl)

of_word : (w v : Bool) → (w ≡ true → v ≡ false) → is_class_word (cond w White (cond v Word Other)) ≡ v
of_word true true apart = sym (apart refl)
of_word true false apart = refl
of_word false true apart = refl
of_word false false apart = refl

pub white_is_no_word : (b : ℕ) → is_white b ≡ true → is_word_byte b ≡ false
unfolding is_white is_word_byte is_mark
white_is_no_word b white = elim (or_cases _ _ white) [
  | inl others ↦ elim (or_cases _ _ others) [
    | inl others ↦ elim (or_cases _ _ others) [
      | inl is_tab ↦ subst (λ c. is_word_byte c ≡ false) (sym (eqb-true b 9 is_tab)) refl
      | inr is_feed ↦ subst (λ c. is_word_byte c ≡ false) (sym (eqb-true b 10 is_feed)) refl
    ]
    | inr is_return ↦ subst (λ c. is_word_byte c ≡ false) (sym (eqb-true b 13 is_return)) refl
  ]
  | inr is_space ↦ subst (λ c. is_word_byte c ≡ false) (sym (eqb-true b 32 is_space)) refl
]

pub is_class_word-class_of : (b : ℕ) → is_class_word (class_of b) ≡ is_word_byte b
unfolding class_of
is_class_word-class_of b = of_word (is_white b) (is_word_byte b) (white_is_no_word b)
