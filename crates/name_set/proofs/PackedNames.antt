-- Two short names that are packed into one number are one name.
use Rattle.std.proofs.Common.{◌≡◌, ◌⊎◌, inl, inr, ℕ, ◌+◌, ◌*◌, ◌-◌, ◌/◌, ◌%◌, ◌^◌, ◌<◌, ◌≤◌, zero, suc, Bool, true, false, nat_le, List, [], ◌∷◌, length, get_or, drop, refl, sym, ◌∙◌, ap, subst, arith, if◌then◌else◌}
use Rattle.std.specs.Int.{from_le_bytes, to_le_bytes, w64}
use Rattle.std.proofs.lemmas.Nat.{le_bytes_8}
use Rattle.std.proofs.lemmas.List.{ext_get_or}
use Rattle.std.proofs.lemmas.Bool.{cases_lt, leb-true, leb-false}
use Rattle.std.proofs.lemmas.Bool.Decides.{nat_tests}
use Rattle.name_set.specs.Packing.{four_from, last_eight, first_seven, first_middle_last, low_bytes, high_bytes, packed}
use Rattle.name_set.specs.Keys.{AreBytes}

-- bytes in front of bytes
bytes_nil : AreBytes []
bytes_nil = record { byte = λ i. omega arith }

bytes_cons : (x : ℕ) (xs : List ℕ) → x < 256 → AreBytes xs → AreBytes (x ∷ xs)
bytes_cons x xs h hs = record { byte = go }
  where
    go : (i : ℕ) → get_or (x ∷ xs) i 0 < 256
    go zero = h
    go (suc i) = hs.byte i

bytes_four : (name : List ℕ) (k : ℕ) (rest : List ℕ) → AreBytes name → AreBytes rest → AreBytes (four_from name k rest)
bytes_four name k rest h hs =
    bytes_cons _ _ (h.byte k) (bytes_cons _ _ (h.byte (k + 1)) (bytes_cons _ _ (h.byte (k + 2)) (bytes_cons _ _ (h.byte (k + 3)) hs)))

five_zeros : (x : ℕ) → x < 256 → AreBytes (0 ∷ 0 ∷ 0 ∷ 0 ∷ 0 ∷ x ∷ [])
five_zeros x h = bytes_cons _ _ (omega arith) (bytes_cons _ _ (omega arith) (bytes_cons _ _ (omega arith) (bytes_cons _ _ (omega arith) (bytes_cons _ _ (omega arith) (bytes_cons _ _ h bytes_nil)))))

-- eight bytes that make a number, and what it is below
abbrev IsWord : List ℕ → Type 0
IsWord bs = (length bs ≡ 8) × AreBytes bs

same_words : (xs ys : List ℕ) → IsWord xs → IsWord ys → from_le_bytes w64 xs ≡ from_le_bytes w64 ys → xs ≡ ys
same_words xs ys a b e =
    sym (le_bytes_8 xs (from_le_bytes w64 xs) a.0 a.1.byte refl) ∙ ap (to_le_bytes w64) e ∙ le_bytes_8 ys (from_le_bytes w64 ys) b.0 b.1.byte refl

word_below : (bs : List ℕ) → AreBytes bs → from_le_bytes w64 bs < 2 ^ 64
word_below bs h = omega (arith, h.byte 0, h.byte 1, h.byte 2, h.byte 3, h.byte 4, h.byte 5, h.byte 6, h.byte 7)

word_below_top : (bs : List ℕ) → AreBytes bs → get_or bs 7 0 ≤ 15 → from_le_bytes w64 bs < 2 ^ 60
word_below_top bs h top = omega (arith, h.byte 0, h.byte 1, h.byte 2, h.byte 3, h.byte 4, h.byte 5, h.byte 6, top)

-- the two halves are such numbers
low_is_word : (n : ℕ) (name : List ℕ) → AreBytes name → IsWord (low_bytes n name)
unfolding low_bytes
low_is_word n name h = go (nat_le 8 n) (nat_le 4 n)
  where
    go : (a b : Bool) → IsWord (if a then last_eight n name else (if b then four_from name 0 (four_from name (n - 4) []) else first_middle_last n name))
    go true b = (refl, bytes_four name (n - 8) _ h (bytes_four name (n - 4) _ h bytes_nil))
    go false true = (refl, bytes_four name 0 _ h (bytes_four name (n - 4) _ h bytes_nil))
    go false false = (refl, bytes_cons _ _ (h.byte 0) (bytes_cons _ _ (h.byte (n / 2)) (five_zeros _ (h.byte (n - 1)))))

high_is_word : (n : ℕ) (name : List ℕ) → n < 256 → AreBytes name → IsWord (high_bytes n name)
unfolding high_bytes
high_is_word n name few h = go (nat_le 8 n)
  where
    go : (b : Bool) → IsWord (if b then first_seven n name else (0 ∷ 0 ∷ 0 ∷ 0 ∷ 0 ∷ 0 ∷ 0 ∷ n ∷ []))
    go true =
        (refl, bytes_four name 0 _ h (bytes_cons _ _ (h.byte 4) (bytes_cons _ _ (h.byte 5) (bytes_cons _ _ (h.byte 6) (bytes_cons _ _ few bytes_nil)))))
    go false = (refl, bytes_cons _ _ (omega arith) (bytes_cons _ _ (omega arith) (five_zeros n few)))

-- the length stands last
high_length : (n : ℕ) (name : List ℕ) → get_or (high_bytes n name) 7 0 ≡ n
unfolding high_bytes
high_length n name = go (nat_le 8 n)
  where
    go : (b : Bool) → get_or (if b then first_seven n name else (0 ∷ 0 ∷ 0 ∷ 0 ∷ 0 ∷ 0 ∷ 0 ∷ n ∷ [])) 7 0 ≡ n
    go true = refl
    go false = refl

same_halves : (h l i m : ℕ) → l < 2 ^ 64 → m < 2 ^ 64 → h * 2 ^ 64 + l ≡ i * 2 ^ 64 + m → (h ≡ i) × (l ≡ m)
same_halves h l i m a b e = let high : h ≡ i = omega arith in (high, omega arith)

-- what holds at each place below four and seven
module _ (P : ℕ → Type 0) where
  below_four : P 0 → P 1 → P 2 → P 3 → (i : ℕ) → i < 4 → P i
  below_four a b c d zero less = a
  below_four a b c d (suc zero) less = b
  below_four a b c d (suc (suc zero)) less = c
  below_four a b c d (suc (suc (suc zero))) less = d
  below_four a b c d (suc (suc (suc (suc i)))) less = absurd (omega arith)

  below_seven : P 0 → P 1 → P 2 → P 3 → P 4 → P 5 → P 6 → (i : ℕ) → i < 7 → P i
  below_seven a b c d e f g zero less = a
  below_seven a b c d e f g (suc zero) less = b
  below_seven a b c d e f g (suc (suc zero)) less = c
  below_seven a b c d e f g (suc (suc (suc zero))) less = d
  below_seven a b c d e f g (suc (suc (suc (suc zero)))) less = e
  below_seven a b c d e f g (suc (suc (suc (suc (suc zero))))) less = f
  below_seven a b c d e f g (suc (suc (suc (suc (suc (suc zero)))))) less = g
  below_seven a b c d e f g (suc (suc (suc (suc (suc (suc (suc i))))))) less = absurd (omega arith)

-- the bytes of two names of n bytes, by those that are read
module _ (a b : List ℕ) where
  abbrev Same : ℕ → Type 0
  Same i = get_or a i 0 ≡ get_or b i 0

  with_zero : (k : ℕ) → Same k → Same (k + 0)
  with_zero k h = let same : k ≡ k + 0 = omega arith in subst Same same h

  -- from place k on
  behind : (k i : ℕ) → k ≤ i → Same (k + (i - k)) → Same i
  behind k i from h = let same : k + (i - k) ≡ i = omega arith in subst Same same h

  -- by four that are read from place k on
  from_place : (k i : ℕ) (r s : List ℕ) → k ≤ i → i < k + 4 → four_from a k r ≡ four_from b k s → Same i
  from_place k i r s from below e =
      behind k i from (below_four (λ j. Same (k + j)) (with_zero k (ap (λ x. get_or x 0 0) e)) (ap (λ x. get_or x 1 0) e) (ap (λ x. get_or x 2 0) e) (ap (λ x. get_or x 3 0) e) (i - k) (omega arith))

  from_eight : (n i : ℕ) → i < n → n ≤ 15 → 8 ≤ n → last_eight n a ≡ last_eight n b → first_seven n a ≡ first_seven n b → Same i
  from_eight n i below few many l h = elim (cases_lt i 7) [
    | inl less ↦ below_seven Same (ap (λ x. get_or x 0 0) h) (ap (λ x. get_or x 1 0) h) (ap (λ x. get_or x 2 0) h) (ap (λ x. get_or x 3 0) h) (ap (λ x. get_or x 4 0) h) (ap (λ x. get_or x 5 0) h) (ap (λ x. get_or x 6 0) h) i less
    | inr more ↦ behind_seven more (cases_lt i (n - 4))
  ]
    where
      behind_seven : 7 ≤ i → (i < n - 4) ⊎ (n - 4 ≤ i) → Same i
      behind_seven more (inl less) = from_place (n - 8) i _ _ (omega arith) (omega arith) l
      behind_seven more (inr later) = from_place (n - 4) i [] [] later (omega arith) (ap (drop 4) l)

  from_four : (n i : ℕ) → i < n → n < 8 → 4 ≤ n → four_from a 0 (four_from a (n - 4) []) ≡ four_from b 0 (four_from b (n - 4) []) → Same i
  from_four n i below few many l = elim (cases_lt i 4) [
    | inl less ↦ from_place 0 i _ _ (omega arith) less l
    | inr more ↦ from_place (n - 4) i [] [] (omega arith) (omega arith) (ap (drop 4) l)
  ]

  -- the middle one of up to three is the one behind the first
  from_one : (n i : ℕ) → i < n → n < 4 → first_middle_last n a ≡ first_middle_last n b → Same i
  from_one n zero below few l = ap (λ x. get_or x 0 0) l
  from_one n (suc zero) below few l = let at : n / 2 ≡ 1 = omega arith in subst Same at (ap (λ x. get_or x 1 0) l)
  from_one n (suc (suc i)) below few l = let at : n - 1 ≡ suc (suc i) = omega arith in subst Same at (ap (λ x. get_or x 7 0) l)

  same_byte : (n i : ℕ) → i < n → n ≤ 15 → low_bytes n a ≡ low_bytes n b → high_bytes n a ≡ high_bytes n b → Same i
  unfolding low_bytes high_bytes
  same_byte n i below few low high = go (nat_le 8 n) (nat_le 4 n) refl refl low high
    where
      go : (p q : Bool) → nat_le 8 n ≡ p → nat_le 4 n ≡ q
          → (if p then last_eight n a else (if q then four_from a 0 (four_from a (n - 4) []) else first_middle_last n a)) ≡ (if p then last_eight n b else (if q then four_from b 0 (four_from b (n - 4) []) else first_middle_last n b))
          → (if p then first_seven n a else (0 ∷ 0 ∷ 0 ∷ 0 ∷ 0 ∷ 0 ∷ 0 ∷ n ∷ [])) ≡ (if p then first_seven n b else (0 ∷ 0 ∷ 0 ∷ 0 ∷ 0 ∷ 0 ∷ 0 ∷ n ∷ []))
          → Same i
      go true q s t l h = from_eight n i below few (leb-true 8 n s) l h
      go false true s t l h = from_four n i below (leb-false 8 n s) (leb-true 4 n t) l
      go false false s t l h = from_one n i below (leb-false 4 n t) l

-- names that are packed into one number are one name
pub packed-same : (a b : List ℕ) → AreBytes a → AreBytes b → length a ≤ 15 → length b ≤ 15 → packed a ≡ packed b → a ≡ b
unfolding packed
packed-same a b bytes_a bytes_b few_a few_b e =
    let low_a = low_is_word (length a) a bytes_a in
    let low_b = low_is_word (length b) b bytes_b in
    let high_a = high_is_word (length a) a (omega arith) bytes_a in
    let high_b = high_is_word (length b) b (omega arith) bytes_b in
    let halves = same_halves (from_le_bytes w64 (high_bytes (length a) a)) (from_le_bytes w64 (low_bytes (length a) a)) (from_le_bytes w64 (high_bytes (length b) b)) (from_le_bytes w64 (low_bytes (length b) b)) (word_below _ low_a.1) (word_below _ low_b.1) e in
    let high = same_words _ _ high_a high_b halves.0 in
    let low = same_words _ _ low_a low_b halves.1 in
    let lengths : length a ≡ length b = sym (high_length (length a) a) ∙ ap (λ x. get_or x 7 0) high ∙ high_length (length b) b in
    ext_get_or 0 a b lengths (λ i below. same_byte a b (length a) i below few_a (low ∙ ap (λ n. low_bytes n b) (sym lengths)) (high ∙ ap (λ n. high_bytes n b) (sym lengths)))

-- and that number is below those of longer names
pub packed-below : (name : List ℕ) → AreBytes name → length name ≤ 15 → packed name < 2 ^ 127
unfolding packed
packed-below name bytes few =
    let high = high_is_word (length name) name (omega arith) bytes in
    let top : get_or (high_bytes (length name) name) 7 0 ≤ 15 = omega (arith, high_length (length name) name) in
    below _ _ (word_below_top _ high.1 top) (word_below _ (low_is_word (length name) name bytes).1)
  where
    below : (h l : ℕ) → h < 2 ^ 60 → l < 2 ^ 64 → h * 2 ^ 64 + l < 2 ^ 127
    below h l less few = omega arith

-- the cases of the halves, by the length
pub low-eight : (n : ℕ) (name : List ℕ) → 8 ≤ n → last_eight n name ≡ low_bytes n name
unfolding low_bytes
low-eight n name h = let many : nat_le 8 n ≡ true = grind (arith, nat_tests) in rw many refl

pub low-fours : (n : ℕ) (name : List ℕ) → 4 ≤ n → n < 8 → four_from name 0 (four_from name (n - 4) []) ≡ low_bytes n name
unfolding low_bytes
low-fours n name h few =
    let less : nat_le 8 n ≡ false = grind (arith, nat_tests) in
    let many : nat_le 4 n ≡ true = grind (arith, nat_tests) in
    rw (less, many) refl

pub low-three : (n : ℕ) (name : List ℕ) → n < 4 → first_middle_last n name ≡ low_bytes n name
unfolding low_bytes
low-three n name few =
    let less : nat_le 8 n ≡ false = grind (arith, nat_tests) in
    let fewer : nat_le 4 n ≡ false = grind (arith, nat_tests) in
    rw (less, fewer) refl

pub low-nothing : (name : List ℕ) → length name ≡ 0 → 0 ≡ from_le_bytes w64 (low_bytes (length name) name)
unfolding low_bytes
low-nothing [] e = refl
low-nothing (x ∷ name) e = absurd (omega arith)

pub high-seven : (n : ℕ) (name : List ℕ) → 8 ≤ n → first_seven n name ≡ high_bytes n name
unfolding high_bytes
high-seven n name h = let many : nat_le 8 n ≡ true = grind (arith, nat_tests) in rw many refl

-- the first eight bytes, of which the last makes room for the length
pub seven_and_length : (n : ℕ) (name : List ℕ) → AreBytes name → from_le_bytes w64 (four_from name 0 (four_from name 4 [])) % 2 ^ 56 + n * 2 ^ 56 ≡ from_le_bytes w64 (first_seven n name)
seven_and_length n name h =
    omega (arith, h.byte 0, h.byte 1, h.byte 2, h.byte 3, h.byte 4, h.byte 5, h.byte 6, h.byte 7)

pub high-short : (n : ℕ) (name : List ℕ) → n < 8 → ◌≡◌ {A = List ℕ} (0 ∷ 0 ∷ 0 ∷ 0 ∷ 0 ∷ 0 ∷ 0 ∷ n ∷ []) (high_bytes n name)
unfolding high_bytes
high-short n name few = let less : nat_le 8 n ≡ false = grind (arith, nat_tests) in rw less refl
