-- Sums of coefficients: joined, multiplied, in another order.
use Rattle.std.proofs.Common.{◌≡◌, ◌≢◌, ℕ, zero, suc, ◌+◌, ◌*◌, ◌<◌, ◌≤◌, ◌==◌, ℤ, pos, negsuc, ◌+ℤ◌, ◌-ℤ◌, ◌*ℤ◌, unsigned_abs, Bool, true, false, if◌then◌else◌, List, [], ◌∷◌, ◌++◌, length, get_or, map, All, IsPermutation, refl, sym, ap, subst, ◌∙◌, arith}
use Rattle.std.proofs.Math.Nat.{mul-le-mul_left}
use Rattle.std.proofs.Math.IntN.{*ℤ_comm, zero-*ℤ}
use Rattle.std.proofs.lemmas.Bool.{eqb-true, eq-eqb}
use Rattle.std.proofs.lemmas.Int.{ints, unsigned_abs-mul}
use Rattle.std.proofs.lemmas.List.Elements.{All-head, All-tail}
use Rattle.std.proofs.lemmas.List.Sorted.{sum_by-IsPermutation}
use Rattle.std.proofs.lemmas.List.Sums.{sum_by-cons}
use Rattle.std.specs.List.{sum_by}
use Rattle.rule_model.specs.Arith.{IsWhole}
use Rattle.rule_model.proofs.Ring as ring
use Rattle.rule_model.proofs.Arith.{whole_sum}
use Rattle.scaled_sums.specs.declared.coefficients.Coefficient.{Coefficient}
use Rattle.scaled_sums.specs.Coefficients.{sum_at, sizes_of, AreOfDifferentTerms, scale}
use Rattle.scaled_sums.proofs.Wholes.{whole_nothing}

abbrev pub counted : Coefficient → ℕ → ℤ
counted c r = if c.term == r then c.number else pos 0

pub joined : (cs ds : List Coefficient) (r : ℕ) → sum_at (cs ++ ds) r ≡ sum_at cs r +ℤ sum_at ds r
joined [] ds r = omega (arith, ints)
joined (c ∷ cs) ds r = omega (arith, ints, joined cs ds r)

pub sizes_joined : (cs ds : List Coefficient) → sizes_of (cs ++ ds) ≡ sizes_of cs + sizes_of ds
sizes_joined [] ds = omega arith
sizes_joined (c ∷ cs) ds = omega (arith, sizes_joined cs ds)

counted_scaled : (f : ℤ) (b : Bool) (n : ℤ) → (if b then f *ℤ n else pos 0) ≡ f *ℤ (if b then n else pos 0)
counted_scaled f true n = refl
counted_scaled f false n = omega (arith, ints, *ℤ_comm f (pos 0), zero-*ℤ f)

pub scaled_number : (f : ℤ) (cs : List Coefficient) (r : ℕ) → sum_at (map (scale f) cs) r ≡ f *ℤ sum_at cs r
scaled_number f [] r = omega (arith, ints, *ℤ_comm f (pos 0), zero-*ℤ f)
scaled_number f (c ∷ cs) r =
    omega (arith, ints, counted_scaled f (c.term == r) c.number, scaled_number f cs r, ring.mul-add f (counted c r) (sum_at cs r))

pub sizes_scaled : (f : ℤ) (cs : List Coefficient) → sizes_of (map (scale f) cs) ≡ unsigned_abs f * sizes_of cs
sizes_scaled f [] = omega arith
sizes_scaled f (c ∷ cs) = omega (arith, unsigned_abs-mul f c.number, sizes_scaled f cs)

-- each part is at most the whole
pub size_within : (cs : List Coefficient) (k : ℕ) (c : Coefficient) → k < length cs → c ≡ get_or cs k c → unsigned_abs c.number ≤ sizes_of cs
size_within [] k c h e = absurd (omega (arith, h))
size_within (d ∷ cs) zero c h e = omega (arith, ap (λ (x : Coefficient). unsigned_abs x.number) e)
size_within (d ∷ cs) (suc k) c h e = omega (arith, size_within cs k c (omega (arith, h)) e)

pub scaled_within : (f : ℤ) (cs : List Coefficient) (k n : ℕ) (c : Coefficient) → k < length cs → c ≡ get_or cs k c → unsigned_abs f * sizes_of cs < n → unsigned_abs f * unsigned_abs c.number < n
scaled_within f cs k n c h e narrow =
    omega (arith, narrow, mul-le-mul_left (unsigned_abs f) (size_within cs k c h e))

-- what a coefficient counts for a term
pub other_counts : (c : Coefficient) (r : ℕ) → c.term ≢ r → counted c r ≡ pos 0
other_counts c r h = go (c.term == r) refl
  where
    go : (b : Bool) → (c.term == r) ≡ b → (if b then c.number else pos 0) ≡ pos 0
    go true e = absurd (h (eqb-true c.term r e))
    go false e = refl

pub own_counts : (c : Coefficient) → counted c c.term ≡ c.number
own_counts c = go (c.term == c.term) (eq-eqb c.term c.term refl)
  where
    go : (b : Bool) → b ≡ true → (if b then c.number else pos 0) ≡ c.number
    go true e = refl
    go false e = absurd cc

pub absent : (cs : List Coefficient) (r : ℕ) → ((j : ℕ) (d : Coefficient) → j < length cs → (get_or cs j d).term ≢ r) → sum_at cs r ≡ pos 0
absent [] r h = refl
absent (c ∷ cs) r h =
    omega (arith, ints, other_counts c r (h 0 c (omega arith)), absent cs r (λ j d l. h (suc j) d (omega (arith, l))))

-- where no term stands twice, a term's coefficient is the one that stands with it
pub alone : (cs : List Coefficient) (k : ℕ) (c : Coefficient) → AreOfDifferentTerms cs → k < length cs → c ≡ get_or cs k c → sum_at cs c.term ≡ c.number
alone [] k c apart h e = absurd (omega (arith, h))
alone (d ∷ cs) zero c apart h e =
    subst (λ (x : Coefficient). sum_at (d ∷ cs) x.term ≡ x.number) (sym e)
    (omega (arith, ints, own_counts d, absent cs d.term (λ j x l f. apart 0 (suc j) x (omega arith) (omega (arith, l)) (sym f))))
alone (d ∷ cs) (suc k) c apart h e =
    let here : d.term ≢ c.term = λ f. apart 0 (suc k) c (omega arith) h (f ∙ ap (λ (x : Coefficient). x.term) e) in
    omega (
      arith,
      ints,
      other_counts d c.term here,
      alone cs k c (λ i j x l g. apart (suc i) (suc j) x (omega (arith, l)) (omega (arith, g))) (omega (arith, h)) e,
    )

-- coefficients that are whole once they are multiplied
abbrev pub AreWhole : ℕ → ℤ → List Coefficient → Type 0
AreWhole n f cs = All (λ (c : Coefficient). IsWhole n (f *ℤ c.number)) cs

counted_whole : (n : ℕ) (f : ℤ) (c : Coefficient) (r : ℕ) → IsWhole n (f *ℤ c.number) → IsWhole n (f *ℤ counted c r)
counted_whole n f c r h = go (c.term == r)
  where
    go : (b : Bool) → IsWhole n (f *ℤ (if b then c.number else pos 0))
    go true = h
    go false = subst (IsWhole n) (omega (arith, ints, *ℤ_comm f (pos 0), zero-*ℤ f)) (whole_nothing n)

pub all_whole : (n : ℕ) (f : ℤ) (cs : List Coefficient) (r : ℕ) → AreWhole n f cs → IsWhole n (f *ℤ sum_at cs r)
all_whole n f [] r h = subst (IsWhole n) (omega (arith, ints, *ℤ_comm f (pos 0), zero-*ℤ f)) (whole_nothing n)
all_whole n f (c ∷ cs) r h =
    subst (IsWhole n) (sym (ring.mul-add f (counted c r) (sum_at cs r)))
    (whole_sum n (f *ℤ counted c r) (f *ℤ sum_at cs r) (counted_whole n f c r (All-head (λ (c : Coefficient). IsWhole n (f *ℤ c.number)) c cs h)) (all_whole n f cs r (All-tail (λ (c : Coefficient). IsWhole n (f *ℤ c.number)) c cs h)))

-- in another order
abbrev over : ℤ → ℕ
over (pos n) = n
over (negsuc n) = 0

abbrev under : ℤ → ℕ
under (pos n) = 0
under (negsuc n) = suc n

both : (z : ℤ) → z ≡ pos (over z) -ℤ pos (under z)
both (pos n) = omega (arith, ints)
both (negsuc n) = omega (arith, ints)

abbrev over_at : ℕ → Coefficient → ℕ
over_at r c = over (counted c r)

abbrev under_at : ℕ → Coefficient → ℕ
under_at r c = under (counted c r)

parted : (cs : List Coefficient) (r : ℕ) → sum_at cs r ≡ pos (sum_by (over_at r) cs) -ℤ pos (sum_by (under_at r) cs)
parted [] r = omega (arith, ints)
parted (c ∷ cs) r =
    omega (arith, ints, both (counted c r), parted cs r, sum_by-cons (over_at r) c cs, sum_by-cons (under_at r) c cs)

pub moved : (cs ds : List Coefficient) (r : ℕ) → IsPermutation cs ds → sum_at ds r ≡ sum_at cs r
moved cs ds r h =
    omega (arith, ints, parted cs r, parted ds r, sum_by-IsPermutation (over_at r) cs ds h, sum_by-IsPermutation (under_at r) cs ds h)

sizes_are : (cs : List Coefficient) → sizes_of cs ≡ sum_by (λ (c : Coefficient). unsigned_abs c.number) cs
sizes_are [] = refl
sizes_are (c ∷ cs) = omega (arith, sizes_are cs, sum_by-cons (λ (c : Coefficient). unsigned_abs c.number) c cs)

pub sizes_moved : (cs ds : List Coefficient) → IsPermutation cs ds → sizes_of ds ≡ sizes_of cs
sizes_moved cs ds h =
    omega (arith, sizes_are cs, sizes_are ds, sum_by-IsPermutation (λ (c : Coefficient). unsigned_abs c.number) cs ds h)
