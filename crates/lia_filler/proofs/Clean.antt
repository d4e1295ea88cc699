-- Elimination of one column, on lists of rows with repeats: if those that are made of rows never add up to a bound over 0
-- once all columns cancel, neither do the rows.
use Rattle.std.proofs.Common.{◌≡◌, ℕ, zero, suc, ◌<◌, ℤ, pos, negsuc, neg_ℤ, ◌+ℤ◌, ◌*ℤ◌, ◌≤ℤ◌, ◌<ℤ◌, List, [], ◌∷◌, ◌++◌, map, refl, sym, ap, arith}
use Rattle.std.specs.List.{AllByRecursion}
use Rattle.std.proofs.Math.IntN.{zero-*ℤ, *ℤ_comm}
use Rattle.std.proofs.lemmas.Int.{ints, by_lt_z}
use Rattle.lia_filler.proofs.Ring as ring
use Rattle.lia_filler.proofs.Totals.{total, total-append, copies, total-copies, products, total-products, IsLinear}

-- all columns cancel only where the bound is not over 0
pub record IsClean {X : Type 0} (S : X → Type 0) (columns : ℕ → X → ℤ) (bound : X → ℤ) : Type 0 where
  pub none : (xs : List X) → AllByRecursion S xs → ((k : ℕ) → k < 4 → total (columns k) xs ≡ pos 0) → total bound xs ≤ℤ pos 0

-- a list taken apart by signs
record IsParted {X : Type 0} (S : X → Type 0) (c : X → ℤ) (xs : List X) : Type 1 where
  highs : List X
  lows : List X
  levels : List X
  of_highs : AllByRecursion (λ x. S x × (pos 0 <ℤ c x)) highs
  of_lows : AllByRecursion (λ x. S x × (c x <ℤ pos 0)) lows
  of_levels : AllByRecursion (λ x. S x × (c x ≡ pos 0)) levels
  sums : (g : X → ℤ) → total g xs ≡ total g highs +ℤ total g lows +ℤ total g levels

parted : {X : Type 0} (S : X → Type 0) (c : X → ℤ) (xs : List X) → AllByRecursion S xs → IsParted S c xs
parted {X} S c [] ss =
    record { highs = []; lows = []; levels = []; of_highs = tt; of_lows = tt; of_levels = tt; sums = λ (g : X → ℤ). omega (arith, ints) }
parted {X} S c (x ∷ xs) (s, ss) = go (c x) refl (parted S c xs ss)
  where
    go : (z : ℤ) → c x ≡ z → IsParted S c xs → IsParted S c (x ∷ xs)
    go (pos zero) e p = record {
      highs = p.highs;
      lows = p.lows;
      levels = x ∷ p.levels;
      of_highs = p.of_highs;
      of_lows = p.of_lows;
      of_levels = ((s, e), p.of_levels);
      sums = λ (g : X → ℤ). omega (arith, ints, p.sums g);
    }
    go (pos (suc n)) e p = record {
      highs = x ∷ p.highs;
      lows = p.lows;
      levels = p.levels;
      of_highs = ((s, omega (arith, ints, e)), p.of_highs);
      of_lows = p.of_lows;
      of_levels = p.of_levels;
      sums = λ (g : X → ℤ). omega (arith, ints, p.sums g);
    }
    go (negsuc n) e p = record {
      highs = p.highs;
      lows = x ∷ p.lows;
      levels = p.levels;
      of_highs = p.of_highs;
      of_lows = ((s, omega (arith, ints, e)), p.of_lows);
      of_levels = p.of_levels;
      sums = λ (g : X → ℤ). omega (arith, ints, p.sums g);
    }

-- the two facts that are kept of each element
firsts : {X : Type 0} (P Q : X → Type 0) (xs : List X) → AllByRecursion (λ x. P x × Q x) xs → AllByRecursion P xs
firsts P Q [] hs = tt
firsts P Q (x ∷ xs) (h, hs) = (h.0, firsts P Q xs hs)

pub joined : {X : Type 0} (P : X → Type 0) (xs ys : List X) → AllByRecursion P xs → AllByRecursion P ys → AllByRecursion P (xs ++ ys)
joined P [] ys hs ks = ks
joined P (x ∷ xs) ys (h, hs) ks = (h, joined P xs ys hs ks)

pub copied : {X : Type 0} (P : X → Type 0) (n : ℕ) (xs : List X) → AllByRecursion P xs → AllByRecursion P (copies n xs)
copied P zero xs hs = tt
copied P (suc n) xs hs = joined P xs (copies n xs) hs (copied P n xs hs)

passed : {X : Type 0} (P Q : X → Type 0) → ((x : X) → P x → Q x) → (xs : List X) → AllByRecursion P xs → AllByRecursion Q xs
passed P Q f [] hs = tt
passed P Q f (x ∷ xs) (h, hs) = (f x h, passed P Q f xs hs)

mapped : {X : Type 0} (P Q : X → Type 0) (f : X → X) → ((x : X) → P x → Q (f x)) → (xs : List X) → AllByRecursion P xs → AllByRecursion Q (map f xs)
mapped P Q f h [] hs = tt
mapped P Q f h (x ∷ xs) (p, hs) = (h x p, mapped P Q f h xs hs)

all_pairs : {X : Type 0} (P Q R : X → Type 0) (pair : X → X → X) → ((x y : X) → P x → Q y → R (pair x y)) → (xs ys : List X) → AllByRecursion P xs
    → AllByRecursion Q ys → AllByRecursion R (products pair xs ys)
all_pairs P Q R pair h [] ys ps qs = tt
all_pairs P Q R pair h (x ∷ xs) ys (p, ps) qs =
    joined R (map (pair x) ys) (products pair xs ys) (mapped Q R (pair x) (λ y. h x y p) ys qs) (all_pairs P Q R pair h xs ys ps qs)

-- what is over 0 each time is over 0 together, and 0 only where there is nothing
highs_over : {X : Type 0} (S : X → Type 0) (c : X → ℤ) (xs : List X) → AllByRecursion (λ x. S x × (pos 0 <ℤ c x)) xs → pos 0 ≤ℤ total c xs
highs_over S c [] hs = omega (arith, ints)
highs_over S c (x ∷ xs) (h, hs) = omega (arith, ints, h.1, highs_over S c xs hs)

no_highs : {X : Type 0} (S : X → Type 0) (c g : X → ℤ) (xs : List X) → AllByRecursion (λ x. S x × (pos 0 <ℤ c x)) xs → total c xs ≡ pos 0 → total g xs ≡ pos 0
no_highs S c g [] hs e = refl
no_highs S c g (x ∷ xs) (h, hs) e = absurd (omega (arith, ints, h.1, highs_over S c xs hs, e))

lows_under : {X : Type 0} (S : X → Type 0) (c : X → ℤ) (xs : List X) → AllByRecursion (λ x. S x × (c x <ℤ pos 0)) xs → total c xs ≤ℤ pos 0
lows_under S c [] hs = omega (arith, ints)
lows_under S c (x ∷ xs) (h, hs) = omega (arith, ints, h.1, lows_under S c xs hs)

no_lows : {X : Type 0} (S : X → Type 0) (c g : X → ℤ) (xs : List X) → AllByRecursion (λ x. S x × (c x <ℤ pos 0)) xs → total c xs ≡ pos 0 → total g xs ≡ pos 0
no_lows S c g [] hs e = refl
no_lows S c g (x ∷ xs) (h, hs) e = absurd (omega (arith, ints, h.1, lows_under S c xs hs, e))

levels_nothing : {X : Type 0} (S : X → Type 0) (c : X → ℤ) (xs : List X) → AllByRecursion (λ x. S x × (c x ≡ pos 0)) xs → total c xs ≡ pos 0
levels_nothing S c [] hs = refl
levels_nothing S c (x ∷ xs) (h, hs) = omega (arith, ints, h.1, levels_nothing S c xs hs)

-- a product by a number over 0 is not over 0 only where the factor is not
smaller : (n : ℕ) (z : ℤ) → (pos (suc n) *ℤ z) ≤ℤ pos 0 → z ≤ℤ pos 0
smaller n z h =
    by_lt_z (pos 0) z (λ over. absurd (omega (arith, ints, h, grown over, *ℤ_comm (pos (suc n)) (pos 1), ring.one-mul (pos (suc n))))) (λ le. le)
  where
    grown : pos 0 <ℤ z → (pos (suc n) *ℤ pos 1) ≤ℤ (pos (suc n) *ℤ z)
    grown over = ring.mul_le (suc n) (pos 1) z (omega (arith, ints, over))

-- what pairs and levels are for the rows of a column
pub record IsMadeOf {X : Type 0} (pair : X → X → X) (c : X → ℤ) (S T : X → Type 0) : Type 0 where
  pub pairs : (x y : X) → S x → S y → pos 0 <ℤ c x → c y <ℤ pos 0 → T (pair x y)
  pub levels : (x : X) → S x → c x ≡ pos 0 → T x

total-made : {X : Type 0} (S : X → Type 0) (pair : X → X → X) (c g : X → ℤ) (n : ℕ) → IsLinear S pair c g → (highs lows levels : List X)
    → AllByRecursion S highs → AllByRecursion S lows → total c highs ≡ pos n → total c lows ≡ neg_ℤ (pos n)
    → total g (products pair highs lows ++ copies n levels) ≡ pos n *ℤ (total g highs +ℤ total g lows +ℤ total g levels)
total-made S pair c g n linear highs lows levels hs ls e f =
    let turned : ◌≡◌ {A = ℤ} (neg_ℤ (total c lows)) (pos n) = omega (arith, ints, f) in
    omega (
      arith,
      ints,
      total-append g (products pair highs lows) (copies n levels),
      total-products S pair c g linear highs lows hs ls,
      total-copies g n levels,
      ap (λ (z : ℤ). z *ℤ total g highs) turned,
      ap (λ (z : ℤ). z *ℤ total g lows) e,
      ring.mul-add (pos n) (total g highs +ℤ total g lows) (total g levels),
      ring.mul-add (pos n) (total g highs) (total g lows),
    )

pub clean_before : {X : Type 0} (S T : X → Type 0) (pair : X → X → X) (columns : ℕ → X → ℤ) (bound : X → ℤ) (k : ℕ) → k < 4
    → IsMadeOf pair (columns k) S T → ((j : ℕ) → j < 4 → IsLinear S pair (columns k) (columns j)) → IsLinear S pair (columns k) bound
    → IsClean T columns bound → IsClean S columns bound
clean_before {X} S T pair columns bound k within made_of linear linear_bound clean = record {
  none = λ xs ss zeros. split xs zeros (parted S (columns k) xs ss);
}
  where
    c : X → ℤ
    c = columns k

    nothing : (xs : List X) → ((j : ℕ) → j < 4 → total (columns j) xs ≡ pos 0) → (p : IsParted S c xs) → total c p.highs ≡ pos 0 → total bound xs ≤ℤ pos 0
    nothing xs zeros p e =
        let f : total c p.lows ≡ pos 0 = omega (arith, ints, e, zeros k within, p.sums c, levels_nothing S c p.levels p.of_levels) in
        let left = clean.none p.levels (passed (λ x. S x × (c x ≡ pos 0)) T (λ x h. made_of.levels x h.0 h.1) p.levels p.of_levels)
        (λ j l. omega (
          arith,
          ints,
          zeros j l,
          p.sums (columns j),
          no_highs S c (columns j) p.highs p.of_highs e,
          no_lows S c (columns j) p.lows p.of_lows f,
        )) in
        omega (arith, ints, left, p.sums bound, no_highs S c bound p.highs p.of_highs e, no_lows S c bound p.lows p.of_lows f)

    times : (xs : List X) → ((j : ℕ) → j < 4 → total (columns j) xs ≡ pos 0) → (p : IsParted S c xs) → (n : ℕ) → total c p.highs ≡ pos (suc n)
        → total bound xs ≤ℤ pos 0
    times xs zeros p n e =
        let f : total c p.lows ≡ neg_ℤ (pos (suc n)) = omega (arith, ints, e, zeros k within, p.sums c, levels_nothing S c p.levels p.of_levels) in
        let hs = firsts S (λ x. pos 0 <ℤ c x) p.highs p.of_highs in
        let ls = firsts S (λ x. c x <ℤ pos 0) p.lows p.of_lows in
        let sums = λ (g : X → ℤ) (l : IsLinear S pair c g). total-made S pair c g (suc n) l p.highs p.lows p.levels hs ls e f in
        let pairs = all_pairs (λ x. S x × (pos 0 <ℤ c x)) (λ x. S x × (c x <ℤ pos 0)) T pair (λ x y h l. made_of.pairs x y h.0 l.0 h.1 l.1)
        p.highs p.lows p.of_highs p.of_lows in
        let levels = copied T (suc n) p.levels (passed (λ x. S x × (c x ≡ pos 0)) T (λ x h. made_of.levels x h.0 h.1) p.levels p.of_levels) in
        let all = joined T (products pair p.highs p.lows) (copies (suc n) p.levels) pairs levels in
        let left = clean.none (products pair p.highs p.lows ++ copies (suc n) p.levels) all (λ j l. omega (
          arith,
          ints,
          sums (columns j) (linear j l),
          ap (λ (z : ℤ). pos (suc n) *ℤ z) (sym (p.sums (columns j))),
          ap (λ (z : ℤ). pos (suc n) *ℤ z) (zeros j l),
          *ℤ_comm (pos (suc n)) (pos 0),
          zero-*ℤ (pos (suc n)),
        )) in
        smaller n (total bound xs) (omega (arith, ints, left, sums bound linear_bound, ap (λ (z : ℤ). pos (suc n) *ℤ z) (p.sums bound)))

    cases : (xs : List X) → ((j : ℕ) → j < 4 → total (columns j) xs ≡ pos 0) → (p : IsParted S c xs) → (z : ℤ) → total c p.highs ≡ z → total bound xs ≤ℤ pos 0
    cases xs zeros p (pos zero) e = nothing xs zeros p e
    cases xs zeros p (pos (suc n)) e = times xs zeros p n e
    cases xs zeros p (negsuc n) e = absurd (omega (arith, ints, e, highs_over S c p.highs p.of_highs))

    split : (xs : List X) → ((j : ℕ) → j < 4 → total (columns j) xs ≡ pos 0) → IsParted S c xs → total bound xs ≤ℤ pos 0
    split xs zeros p = cases xs zeros p (total c p.highs) refl
