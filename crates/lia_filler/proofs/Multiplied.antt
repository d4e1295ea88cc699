-- Rows multiplied and added: by mixed multipliers, by those of one row, and row by row.
use Rattle.std.proofs.Common.{◌≡◌, ℕ, zero, suc, ◌+◌, ◌<◌, ◌≤◌, ℤ, pos, ◌+ℤ◌, ◌*ℤ◌, List, [], ◌∷◌, length}
use Rattle.std.proofs.Common.{get_or, set, replicate, take, drop, add-one, ◌++◌, refl, sym, ap, ◌∙◌, arith}
use Rattle.std.proofs.Math.IntN.{zero-*ℤ, *ℤ_comm}
use Rattle.std.proofs.Math.Seq.{take-suc}
use Rattle.std.proofs.lemmas.List.{take_more_set}
use Rattle.std.proofs.lemmas.Int.{ints}
use Rattle.lia_filler.specs.declared.row.Row.{Row}
use Rattle.lia_filler.specs.Plain.{multiplied}
use Rattle.lia_filler.specs.Mixing.{mixed}
use Rattle.lia_filler.proofs.Ring as ring

-- row by row
pub multiplied_step : (f : Row → ℤ) (rows : List Row) (ms : List ℤ) (i : ℕ) (d : Row) → i < length rows → i < length ms
    → multiplied f (drop i rows) (drop i ms) ≡ get_or ms i (pos 0) *ℤ f (get_or rows i d) +ℤ multiplied f (drop (suc i) rows) (drop (suc i) ms)
multiplied_step f [] ms i d h k = absurd (omega (arith, h))
multiplied_step f (r ∷ rs) [] i d h k = absurd (omega (arith, k))
multiplied_step f (r ∷ rs) (m ∷ ms) zero d h k = refl
multiplied_step f (r ∷ rs) (m ∷ ms) (suc i) d h k = multiplied_step f rs ms i d (omega (arith, h)) (omega (arith, k))

pub multiplied_end : (f : Row → ℤ) (rows : List Row) (ms : List ℤ) (i : ℕ) → length rows ≤ i → multiplied f (drop i rows) ms ≡ pos 0
multiplied_end f [] ms zero h = refl
multiplied_end f [] ms (suc i) h = refl
multiplied_end f (r ∷ rs) ms zero h = absurd (omega (arith, h))
multiplied_end f (r ∷ rs) ms (suc i) h = multiplied_end f rs ms i (omega (arith, h))

-- mixed multipliers
pub length-mixed : (a b : ℤ) (xs ys : List ℤ) → length xs ≡ length ys → length (mixed a xs b ys) ≡ length xs
length-mixed a b [] ys h = refl
length-mixed a b (x ∷ xs) [] h = absurd (omega (arith, h))
length-mixed a b (x ∷ xs) (y ∷ ys) h = ap suc (length-mixed a b xs ys (omega (arith, h)))

pub get_or-mixed : (a b : ℤ) (xs ys : List ℤ) (i : ℕ) → length xs ≡ length ys → i < length xs
    → get_or (mixed a xs b ys) i (pos 0) ≡ a *ℤ get_or xs i (pos 0) +ℤ b *ℤ get_or ys i (pos 0)
get_or-mixed a b [] ys i h k = absurd (omega (arith, k))
get_or-mixed a b (x ∷ xs) [] i h k = absurd (omega (arith, h))
get_or-mixed a b (x ∷ xs) (y ∷ ys) zero h k = refl
get_or-mixed a b (x ∷ xs) (y ∷ ys) (suc i) h k = get_or-mixed a b xs ys i (omega (arith, h)) (omega (arith, k))

pub multiplied-mixed : (f : Row → ℤ) (a b : ℤ) (rows : List Row) (xs ys : List ℤ) → length xs ≡ length ys
    → multiplied f rows (mixed a xs b ys) ≡ a *ℤ multiplied f rows xs +ℤ b *ℤ multiplied f rows ys
multiplied-mixed f a b [] xs ys h = omega (arith, ints, *ℤ_comm a (pos 0), zero-*ℤ a, *ℤ_comm b (pos 0), zero-*ℤ b)
multiplied-mixed f a b (r ∷ rs) [] [] h = omega (arith, ints, *ℤ_comm a (pos 0), zero-*ℤ a, *ℤ_comm b (pos 0), zero-*ℤ b)
multiplied-mixed f a b (r ∷ rs) [] (y ∷ ys) h = absurd (omega (arith, h))
multiplied-mixed f a b (r ∷ rs) (x ∷ xs) [] h = absurd (omega (arith, h))
multiplied-mixed f a b (r ∷ rs) (x ∷ xs) (y ∷ ys) h =
    omega (
      arith,
      ints,
      multiplied-mixed f a b rs xs ys (omega (arith, h)),
      ring.add-mul (a *ℤ x) (b *ℤ y) (f r),
      ring.mul_assoc a x (f r),
      ring.mul_assoc b y (f r),
      ring.mul-add a (x *ℤ f r) (multiplied f rs xs),
      ring.mul-add b (y *ℤ f r) (multiplied f rs ys),
    )

-- nothing is taken of any row, or of all but one
pub multiplied-none : (f : Row → ℤ) (rows : List Row) (n : ℕ) → multiplied f rows (replicate n (pos 0)) ≡ pos 0
multiplied-none f [] n = refl
multiplied-none f (r ∷ rs) zero = refl
multiplied-none f (r ∷ rs) (suc n) = omega (arith, ints, zero-*ℤ (f r), multiplied-none f rs n)

pub multiplied-one : (f : Row → ℤ) (rows : List Row) (n i : ℕ) (s : ℤ) (d : Row) → i < n → i < length rows
    → multiplied f rows (set (replicate n (pos 0)) i s) ≡ s *ℤ f (get_or rows i d)
multiplied-one f [] n i s d h k = absurd (omega (arith, k))
multiplied-one f (r ∷ rs) zero i s d h k = absurd (omega (arith, h))
multiplied-one f (r ∷ rs) (suc n) zero s d h k = omega (arith, ints, multiplied-none f rs n)
multiplied-one f (r ∷ rs) (suc n) (suc i) s d h k =
    omega (arith, ints, zero-*ℤ (f r), multiplied-one f rs n i s d (omega (arith, h)) (omega (arith, k)))

-- one turn of each loop
pub combined_more : (f : Row → ℤ) (rows : List Row) (ms : List ℤ) (i : ℕ) (d : Row) (sum whole product : ℤ) → i < length rows
    → length rows ≤ length ms → product ≡ get_or ms i (pos 0) *ℤ f (get_or rows i d) → sum +ℤ multiplied f (drop i rows) (drop i ms) ≡ whole
    → (sum +ℤ product) +ℤ multiplied f (drop (i + 1) rows) (drop (i + 1) ms) ≡ whole
combined_more f rows ms i d sum whole product h k p s =
    rw add-one (omega (arith, ints, multiplied_step f rows ms i d h (omega (arith, h, k)), p, s))

pub mixed_more : (a b : ℤ) (xs ys sum : List ℤ) (i : ℕ) (v : ℤ) → i < length sum → length xs ≡ length sum → length ys ≡ length sum
    → take i sum ≡ take i (mixed a xs b ys) → v ≡ a *ℤ get_or xs i (pos 0) +ℤ b *ℤ get_or ys i (pos 0)
    → take (i + 1) (set sum i v) ≡ take (i + 1) (mixed a xs b ys)
mixed_more a b xs ys sum i v h k l e w =
    let there : i < length (mixed a xs b ys) = omega (arith, h, k, l, length-mixed a b xs ys (k ∙ sym l)) in
    let entry : get_or (mixed a xs b ys) i (pos 0) ≡ v = get_or-mixed a b xs ys i (k ∙ sym l) (omega (arith, h, k)) ∙ sym w in
    let more : take (i + 1) (mixed a xs b ys) ≡ take i (mixed a xs b ys) ++ v ∷ [] = rw (add-one, take-suc (mixed a xs b ys) i (pos 0) there, entry) refl in
    take_more_set sum i v h ∙ (ap (λ (z : List ℤ). z ++ v ∷ []) e ∙ sym more)
