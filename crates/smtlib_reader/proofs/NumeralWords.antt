-- Numerals among the kinds of words, and the numeral 0.
use Rattle.std.proofs.Common.{◌≡◌, ℕ, ◌+◌, ◌-◌, ◌*◌, ◌≤◌, ◌∙◌, arith, Bool, true, false, List, [], ◌∷◌, Some, None, refl, sym, ap, fold}
use Rattle.std.specs.Prelude.{◌==◌, ◌↔◌, IsTrue, codes, bytes_eq, if◌then◌else◌}
use Rattle.std.proofs.lemmas.Bool.Decides.{nat_tests}
use Rattle.sexpr.specs.declared.words.WordKind.{WordKind}
use Rattle.sexpr.specs.declared.words.WordKind.TheVariants.{Symbol, Keyword, BitLiteral, Numeral, Decimal, Ratio}
use Rattle.sexpr.specs.Words.{is_numeral, numeral_value, word_kind}

numeral_kind : (w : List ℕ) → is_numeral w ≡ true → word_kind w ≡ Some Numeral
unfolding word_kind
numeral_kind [] h = cc
numeral_kind (b ∷ []) h = grind (arith, nat_tests)
numeral_kind (b ∷ c ∷ w) h = grind (arith, nat_tests)

no_numeral : (a b c d e : Bool)
    → (if a then Some Keyword else if b then Some BitLiteral else if c then Some Symbol else if false then Some Numeral else if d then Some Decimal else if e then Some Ratio else None) ≡ Some Numeral → ⊥
no_numeral true b c d e h = cc
no_numeral false true c d e h = cc
no_numeral false false true d e h = cc
no_numeral false false false true e h = cc
no_numeral false false false false true h = cc
no_numeral false false false false false h = cc

other_kind : (w : List ℕ) → is_numeral w ≡ false → word_kind w ≡ Some Numeral → ⊥
unfolding word_kind
other_kind w h e = no_numeral _ _ _ _ _ (rw h at e)

-- the word is a numeral exactly where its kind is that of numerals
pub by_kind : (w : List ℕ) (k : WordKind) (r : Bool) → Some k ≡ word_kind w → IsTrue r ↔ (k ≡ Numeral) → r ≡ is_numeral w
by_kind w k r is same = go (is_numeral w) refl r same
  where
    go : (b : Bool) → is_numeral w ≡ b → (r : Bool) → IsTrue r ↔ (k ≡ Numeral) → r ≡ b
    go true e true same = refl
    go false e false same = refl
    go true e false same = let n : Some k ≡ Some Numeral = is ∙ numeral_kind w e in let m : k ≡ Numeral = cc in same.1 m
    go false e true same = absurd (other_kind w e (sym is ∙ ap Some (same.0 refl)))

pub by_none : (w : List ℕ) → None ≡ word_kind w → false ≡ is_numeral w
by_none w is = go (is_numeral w) refl
  where
    go : (b : Bool) → is_numeral w ≡ b → false ≡ b
    go false e = refl
    go true e = let n : None ≡ Some Numeral = is ∙ numeral_kind w e in cc

grows : (w : List ℕ) (n : ℕ) → n ≤ fold (λ n b. 10 * n + (b - 48)) n w
grows [] n = omega arith
grows (b ∷ w) n = let h = grows w (10 * n + (b - 48)) in omega arith

-- `0` is the one numeral that stands for 0
pub zero_numeral : (s : List ℕ) → is_numeral s ≡ true → bytes_eq s (codes "0") ≡ (numeral_value s == 0)
zero_numeral [] h = cc
zero_numeral (b ∷ []) h = grind (arith, nat_tests)
zero_numeral (b ∷ c ∷ w) h =
    let g = grows (c ∷ w) (10 * 0 + (b - 48)) in grind (arith, nat_tests)
