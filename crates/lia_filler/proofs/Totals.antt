-- Sums over lists of anything that has a number.
use Rattle.std.proofs.Common.{◌≡◌, ℕ, zero, suc, ℤ, pos, neg_ℤ, ◌+ℤ◌, ◌*ℤ◌, List, [], ◌∷◌, ◌++◌, map, arith}
use Rattle.std.specs.List.{AllByRecursion}
use Rattle.std.proofs.Math.IntN.{suc_ℤ-*ℤ, zero-*ℤ}
use Rattle.std.proofs.lemmas.Int.{ints}
use Rattle.lia_filler.proofs.Ring as ring

abbrev pub total : {X : Type 0} → (X → ℤ) → List X → ℤ
total g [] = pos 0
total g (x ∷ xs) = g x +ℤ total g xs

pub total-append : {X : Type 0} (g : X → ℤ) (xs ys : List X) → total g (xs ++ ys) ≡ total g xs +ℤ total g ys
total-append g [] ys = omega (arith, ints)
total-append g (x ∷ xs) ys = omega (arith, ints, total-append g xs ys)

-- a list, a number of times
abbrev pub copies : {X : Type 0} → ℕ → List X → List X
copies zero xs = []
copies (suc n) xs = xs ++ copies n xs

pub total-copies : {X : Type 0} (g : X → ℤ) (n : ℕ) (xs : List X) → total g (copies n xs) ≡ pos n *ℤ total g xs
total-copies g zero xs = omega (arith, ints, zero-*ℤ (total g xs))
total-copies g (suc n) xs =
    omega (arith, ints, total-append g xs (copies n xs), total-copies g n xs, suc_ℤ-*ℤ (pos n) (total g xs))

-- each of some is paired with each of others
abbrev pub products : {X : Type 0} → (X → X → X) → List X → List X → List X
products pair [] ys = []
products pair (x ∷ xs) ys = map (pair x) ys ++ products pair xs ys

-- The number of a pair is made of its parts' numbers so that what c says of them is cancelled.
abbrev pub IsLinear : {X : Type 0} → (X → Type 0) → (X → X → X) → (X → ℤ) → (X → ℤ) → Type 0
IsLinear {X} S pair c g = (x y : X) → S x → S y → g (pair x y) ≡ neg_ℤ (c y) *ℤ g x +ℤ c x *ℤ g y

total-pairs : {X : Type 0} (S : X → Type 0) (pair : X → X → X) (c g : X → ℤ) → IsLinear S pair c g → (x : X) (ys : List X) → S x → AllByRecursion S ys
    → total g (map (pair x) ys) ≡ neg_ℤ (total c ys) *ℤ g x +ℤ c x *ℤ total g ys
total-pairs S pair c g linear x [] s ss = omega (arith, ints, zero-*ℤ (g x), ring.mul-add (c x) (pos 0) (pos 0))
total-pairs S pair c g linear x (y ∷ ys) s (t, ss) =
    omega (
      arith,
      ints,
      linear x y s t,
      total-pairs S pair c g linear x ys s ss,
      ring.neg-mul (c y) (g x),
      ring.neg-mul (total c ys) (g x),
      ring.neg-mul (c y +ℤ total c ys) (g x),
      ring.add-mul (c y) (total c ys) (g x),
      ring.mul-add (c x) (g y) (total g ys),
    )

pub total-products : {X : Type 0} (S : X → Type 0) (pair : X → X → X) (c g : X → ℤ) → IsLinear S pair c g → (xs ys : List X) → AllByRecursion S xs
    → AllByRecursion S ys → total g (products pair xs ys) ≡ neg_ℤ (total c ys) *ℤ total g xs +ℤ total c xs *ℤ total g ys
total-products S pair c g linear [] ys ss ts =
    omega (arith, ints, zero-*ℤ (total g ys), ring.mul-add (neg_ℤ (total c ys)) (pos 0) (pos 0))
total-products S pair c g linear (x ∷ xs) ys (s, ss) ts =
    omega (
      arith,
      ints,
      total-append g (map (pair x) ys) (products pair xs ys),
      total-pairs S pair c g linear x ys s ts,
      total-products S pair c g linear xs ys ss ts,
      ring.mul-add (neg_ℤ (total c ys)) (g x) (total g xs),
      ring.add-mul (c x) (total c xs) (total g ys),
    )
