-- Rows taken once: each is derived from itself, and combinations come to sums of them.
use Rattle.std.proofs.Common.{◌≡◌, ◌⊎◌, inl, inr, ℕ, zero, suc, ◌+◌, ◌<◌, ◌≤◌, ℤ, pos, negsuc, neg_ℤ, ◌+ℤ◌, ◌*ℤ◌, List, [], ◌∷◌, ◌++◌, length}
use Rattle.std.proofs.Common.{get_or, set, replicate, unsigned_abs, All, Contains, Bool, true, false, refl, ap, ◌∙◌, subst, arith}
use Rattle.std.specs.List.{AllByRecursion, AllZip}
use Rattle.std.proofs.Math.ListN.{length-set}
use Rattle.std.proofs.Math.Nat.{mul-le-mul}
use Rattle.std.proofs.lemmas.Bool.{cases_lt}
use Rattle.std.proofs.lemmas.List.{get_or_default, length-replicate}
use Rattle.std.proofs.lemmas.Int.{ints, unsigned_abs-mul}
use Rattle.std.proofs.lemmas.List.Elements.{All-set, All-replicate, All-push, Contains-push, Contains-append_left}
use Rattle.lia_filler.specs.declared.row.Row.{Row}
use Rattle.lia_filler.specs.Plain.{coef, multiplied, MayMultiply}
use Rattle.lia_filler.specs.Mixing.{unit}
use Rattle.lia_filler.specs.Elimination.{AreFit, AreRowsOf, HaveSigns, IsDerived}
use Rattle.lia_filler.proofs.Ring as ring
use Rattle.lia_filler.proofs.Totals.{total, total-append, copies, total-copies}
use Rattle.lia_filler.proofs.Clean.{joined, copied}
use Rattle.lia_filler.proofs.Multiplied.{multiplied-one}

-- ---- one row is derived from itself
no_signs : (rows : List Row) (n : ℕ) → length rows ≤ n → HaveSigns rows (replicate n (pos 0))
no_signs [] n h = tt
no_signs (r ∷ rs) zero h = absurd (omega (arith, h))
no_signs (r ∷ rs) (suc n) h = (λ e. omega (arith, ints), no_signs rs n (omega (arith, h)))

one_sign : (rows : List Row) (n i : ℕ) (s : ℤ) (d : Row) → length rows ≤ n → i < length rows → MayMultiply (get_or rows i d) s
    → HaveSigns rows (set (replicate n (pos 0)) i s)
one_sign [] n i s d h k sign = tt
one_sign (r ∷ rs) zero i s d h k sign = absurd (omega (arith, h))
one_sign (r ∷ rs) (suc n) zero s d h k sign = (sign, no_signs rs n (omega (arith, h)))
one_sign (r ∷ rs) (suc n) (suc i) s d h k sign = (λ e. omega (arith, ints), one_sign rs n i s d (omega (arith, h)) (omega (arith, k)) sign)

pub one_derived : (rows : List Row) (i : ℕ) (s : ℤ) (d : Row) → AreFit rows → i < length rows → unsigned_abs s ≤ 1 → MayMultiply (get_or rows i d) s
    → IsDerived rows 0 (unit i s)
one_derived rows i s d fit within one sign = record {
  each = omega (arith, length-set (replicate 8 (pos 0)) i s, length-replicate 8 (pos 0));
  signs = one_sign rows 8 i s d fit.few within sign;
  cancels = λ column l. absurd (omega (arith, l));
  small = All-set (λ m. unsigned_abs m ≤ 1) (replicate 8 (pos 0)) i s one (All-replicate (λ m. unsigned_abs m ≤ 1) 8 (pos 0) (omega arith));
  narrow =
      λ column l. rw (multiplied-one (coef column) rows 8 i s d (omega (arith, within, fit.few)) within)
      (omega (arith, unsigned_abs-mul s (coef column (get_or rows i d)), mul-le-mul one ((fit.narrow i d within).coefs column l)));
}

-- ---- all rows taken once
pub no_rows : (rows : List Row) → AreRowsOf rows [] 0
no_rows rows = record { straight = λ i h. absurd (omega (arith, h)); turned = λ i d h e. absurd (omega (arith, h)) }

kept_rows : (rows : List Row) (old new : List (List ℤ)) (i : ℕ) (d : Row) → ((z : List ℤ) → Contains old z → Contains new z) → AreRowsOf rows old i
    → Contains new (unit i (pos 1)) → ((get_or rows i d).equal ≡ true → Contains new (unit i (neg_ℤ (pos 1)))) → i < length rows
    → AreRowsOf rows new (i + 1)
kept_rows rows old new i d kept before straight turned h =
    record { straight = λ j l. straight_at j (cases_lt j i) l; turned = λ j e l f. turned_at j e (cases_lt j i) l f }
  where
    straight_at : (j : ℕ) → (j < i) ⊎ (i ≤ j) → j < i + 1 → Contains new (unit j (pos 1))
    straight_at j (inl l) m = kept (unit j (pos 1)) (before.straight j l)
    straight_at j (inr l) m =
        let same : i ≡ j = omega (arith, l, m) in subst (λ (k : ℕ). Contains new (unit k (pos 1))) same straight

    turned_at : (j : ℕ) (e : Row) → (j < i) ⊎ (i ≤ j) → j < i + 1 → (get_or rows j e).equal ≡ true → Contains new (unit j (neg_ℤ (pos 1)))
    turned_at j e (inl l) m f = kept (unit j (neg_ℤ (pos 1))) (before.turned j e l f)
    turned_at j e (inr l) m f =
        let same : i ≡ j = omega (arith, l, m) in
        subst (λ (k : ℕ). (get_or rows k e).equal ≡ true → Contains new (unit k (neg_ℤ (pos 1)))) same
        (λ g. turned (ap (λ (r : Row). r.equal) (get_or_default rows i d e h) ∙ g)) f

pub inequality_added : (rows : List Row) (old : List (List ℤ)) (i : ℕ) (d : Row) → AreRowsOf rows old i → (get_or rows i d).equal ≡ false
    → i < length rows → AreRowsOf rows (old ++ unit i (pos 1) ∷ []) (i + 1)
inequality_added rows old i d before e h =
    kept_rows rows old (old ++ unit i (pos 1) ∷ []) i d (λ z there. Contains-append_left old (unit i (pos 1) ∷ []) z there) before
    (Contains-push old (unit i (pos 1))) (λ f. absurd cc) h

pub equality_added : (rows : List Row) (old : List (List ℤ)) (i : ℕ) → AreRowsOf rows old i → i < length rows
    → AreRowsOf rows ((old ++ unit i (pos 1) ∷ []) ++ unit i (neg_ℤ (pos 1)) ∷ []) (i + 1)
equality_added rows old i before h =
    kept_rows rows old new i (get_or rows i a_row) (λ z there. on z (Contains-append_left old (unit i (pos 1) ∷ []) z there)) before
    (on (unit i (pos 1)) (Contains-push old (unit i (pos 1)))) (λ f. Contains-push (old ++ unit i (pos 1) ∷ []) (unit i (neg_ℤ (pos 1)))) h
  where
    a_row : Row
    a_row = record { coefs = []; bound = pos 0; equal = false }

    new : List (List ℤ)
    new = (old ++ unit i (pos 1) ∷ []) ++ unit i (neg_ℤ (pos 1)) ∷ []

    on : (z : List ℤ) → Contains (old ++ unit i (pos 1) ∷ []) z → Contains new z
    on z there = Contains-append_left (old ++ unit i (pos 1) ∷ []) (unit i (neg_ℤ (pos 1)) ∷ []) z there

-- ---- a combination is a sum of rows taken once
abbrev pub sign : ℤ → ℤ
sign (pos n) = pos 1
sign (negsuc n) = neg_ℤ (pos 1)

abbrev pub spread : ℕ → List ℤ → List (List ℤ)
spread i [] = []
spread i (m ∷ ms) = copies (unsigned_abs m) (unit i (sign m) ∷ []) ++ spread (suc i) ms

with_sign : (m z : ℤ) → pos (unsigned_abs m) *ℤ (sign m *ℤ z) ≡ m *ℤ z
with_sign (pos n) z = ap (λ (y : ℤ). pos n *ℤ y) (ring.one-mul z)
with_sign (negsuc n) z = omega (arith, ints, ring.neg-mul (pos (suc n)) z, ring.mul-neg (pos (suc n)) z, turned z, ap (λ (y : ℤ). pos (suc n) *ℤ y) (turned z))
  where
    turned : (z : ℤ) → neg_ℤ (pos 1) *ℤ z ≡ neg_ℤ z
    turned z = omega (arith, ints, ring.neg-mul (pos 1) z, ring.one-mul z)

-- the rows from a place on
abbrev pub Stands : List Row → ℕ → List Row → Type 0
Stands all i rest = (j k : ℕ) (d : Row) → j ≡ i + k → k < length rest → get_or all j d ≡ get_or rest k d

stands_next : (all : List Row) (i : ℕ) (r : Row) (rest : List Row) → Stands all i (r ∷ rest) → Stands all (suc i) rest
stands_next all i r rest h = λ j k d e l. h j (suc k) d (omega (arith, e)) (omega (arith, l))

pub total-spread : (f : Row → ℤ) (all : List Row) (i : ℕ) (rest : List Row) (ms : List ℤ) → Stands all i rest → length all ≡ i + length rest
    → length all ≤ 8 → AllZip MayMultiply rest ms → total (multiplied f all) (spread i ms) ≡ multiplied f rest ms
total-spread f all i [] [] stands long few signs = refl
total-spread f all i [] (m ∷ ms) stands long few signs = absurd signs
total-spread f all i (r ∷ rest) [] stands long few signs = absurd signs
total-spread f all i (r ∷ rest) (m ∷ ms) stands long few signs =
    omega (
      arith,
      ints,
      total-append (multiplied f all) (copies (unsigned_abs m) (unit i (sign m) ∷ [])) (spread (suc i) ms),
      total-copies (multiplied f all) (unsigned_abs m) (unit i (sign m) ∷ []),
      ap (λ (y : ℤ). pos (unsigned_abs m) *ℤ y) one,
      with_sign m (f r),
      total-spread f all (suc i) rest ms (stands_next all i r rest stands) (omega (arith, long)) few signs.1,
    )
  where
    one : multiplied f all (unit i (sign m)) +ℤ pos 0 ≡ sign m *ℤ f r
    one =
        omega (
          arith,
          ints,
          multiplied-one f all 8 i (sign m) r (omega (arith, long, few)) (omega (arith, long)),
          ap (λ (x : Row). sign m *ℤ f x) (stands i 0 r (omega arith) (omega arith)),
        )

pub of_rows : (all : List Row) (derived : List (List ℤ)) (i : ℕ) (rest : List Row) (ms : List ℤ) → Stands all i rest → length all ≡ i + length rest
    → AreRowsOf all derived (length all) → AllZip MayMultiply rest ms → AllByRecursion (Contains derived) (spread i ms)
of_rows all derived i [] [] stands long there signs = tt
of_rows all derived i [] (m ∷ ms) stands long there signs = absurd signs
of_rows all derived i (r ∷ rest) [] stands long there signs = absurd signs
of_rows all derived i (r ∷ rest) (m ∷ ms) stands long there signs =
    joined (Contains derived) (copies (unsigned_abs m) (unit i (sign m) ∷ [])) (spread (suc i) ms)
    (copied (Contains derived) (unsigned_abs m) (unit i (sign m) ∷ []) (one m signs.0, tt))
    (of_rows all derived (suc i) rest ms (stands_next all i r rest stands) (omega (arith, long)) there signs.1)
  where
    turned : (b : Bool) → r.equal ≡ b → (n : ℕ) → MayMultiply r (negsuc n) → Contains derived (unit i (neg_ℤ (pos 1)))
    turned true e n h = there.turned i r (omega (arith, long)) (ap (λ (x : Row). x.equal) (stands i 0 r (omega arith) (omega arith)) ∙ e)
    turned false e n h = absurd (omega (arith, ints, h e))

    one : (m : ℤ) → MayMultiply r m → Contains derived (unit i (sign m))
    one (pos n) h = there.straight i (omega (arith, long))
    one (negsuc n) h = turned r.equal refl n h

-- ---- one turn
pub one_derived_more : (rows : List Row) (old : List (List ℤ)) (i : ℕ) → AreFit rows → i < length rows → All (IsDerived rows 0) old
    → All (IsDerived rows 0) (old ++ unit i (pos 1) ∷ [])
one_derived_more rows old i fit h all =
    All-push (IsDerived rows 0) old (unit i (pos 1)) all (one_derived rows i (pos 1) a_row fit h (omega arith) (λ e. omega (arith, ints)))
  where
    a_row : Row
    a_row = record { coefs = []; bound = pos 0; equal = false }

pub both_derived_more : (rows : List Row) (old : List (List ℤ)) (i : ℕ) (d : Row) → AreFit rows → i < length rows → (get_or rows i d).equal ≡ true
    → All (IsDerived rows 0) old → All (IsDerived rows 0) ((old ++ unit i (pos 1) ∷ []) ++ unit i (neg_ℤ (pos 1)) ∷ [])
both_derived_more rows old i d fit h e all =
    All-push (IsDerived rows 0) (old ++ unit i (pos 1) ∷ []) (unit i (neg_ℤ (pos 1))) (one_derived_more rows old i fit h all)
    (one_derived rows i (neg_ℤ (pos 1)) d fit h (omega arith) (λ f. absurd cc))
