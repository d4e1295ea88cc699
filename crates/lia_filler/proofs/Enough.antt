-- Where there is a plain combination, what is derived adds up to one, from the rows taken once to the last column.
use Rattle.std.proofs.Common.{◌≡◌, ℕ, suc, ◌+◌, ◌^◌, if◌then◌else◌, ◌<◌, ◌≤◌, ℤ, pos, neg_ℤ, ◌+ℤ◌, ◌*ℤ◌, ◌≤ℤ◌, List, [], ◌∷◌}
use Rattle.std.proofs.Common.{length, get_or, take, unsigned_abs, All, Contains, true, false, Bool, refl, sym, ap, ◌∙◌, arith}
use Rattle.std.specs.List.{AllByRecursion, AllZip}
use Rattle.std.proofs.lemmas.Int.{ints}
use Rattle.std.proofs.lemmas.List.Elements.{All-contains, All-take}
use Rattle.lia_filler.specs.declared.row.Row.{Row}
use Rattle.lia_filler.specs.Plain.{coef, bound, multiplied, MayMultiply, IsPlainCombination, IsSmallRow, inequalities_of}
use Rattle.lia_filler.specs.Elimination.{AreFit, AreMadeOf, AreRowsOf, HaveSigns, IsDerived, IsNotOver, IsOver, in_column, paired}
use Rattle.lia_filler.proofs.Totals.{total, IsLinear}
use Rattle.lia_filler.proofs.Clean.{IsClean, IsMadeOf, clean_before}
use Rattle.lia_filler.proofs.Multiplied.{multiplied-mixed}
use Rattle.lia_filler.proofs.Units.{spread, total-spread, of_rows}

-- Multipliers of which no sum has a bound over 0 once the columns cancel.
abbrev pub AreClean : List Row → (List ℤ → Type 0) → Type 0
AreClean rows P = IsClean P (in_column rows) (multiplied bound rows)

-- where that holds of them, there is no plain combination
abbrev pub AreEnough : List Row → (List ℤ → Type 0) → Type 0
AreEnough rows P = AreClean rows P → (ms : List ℤ) → ¬ IsPlainCombination rows ms

pub rows_are_enough : (rows : List Row) (derived : List (List ℤ)) → length rows ≤ 8 → AreRowsOf rows derived (length rows) → AreEnough rows (Contains derived)
rows_are_enough rows derived few there clean ms plain =
    let stands = λ (j k : ℕ) (d : Row) (e : j ≡ 0 + k) (l : k < length rows). ap (λ (i : ℕ). get_or rows i d) (same j k e) in
    let sums = λ (f : Row → ℤ). total-spread f rows 0 rows ms stands (omega arith) few plain.signs in
    let none = clean.none (spread 0 ms) (of_rows rows derived 0 rows ms stands (omega arith) there plain.signs) (λ j l. sums (coef j) ∙ plain.cancels j l) in
    absurd (omega (arith, ints, none, sums bound, plain.over))
  where
    same : (j k : ℕ) → j ≡ 0 + k → j ≡ k
    same j k e = omega (arith, e)

linear_of : (rows : List Row) (k : ℕ) (derived : List (List ℤ)) (f : Row → ℤ) → All (IsDerived rows k) derived
    → IsLinear (Contains derived) (paired rows k) (in_column rows k) (multiplied f rows)
linear_of rows k derived f all x y p q =
    multiplied-mixed f (neg_ℤ (in_column rows k y)) (in_column rows k x) rows x y
    (IsDerived.each (All-contains (IsDerived rows k) derived x all p) ∙ sym (IsDerived.each (All-contains (IsDerived rows k) derived y all q)))

pub made_are_enough : (rows : List Row) (k : ℕ) (derived : List (List ℤ)) (P : List ℤ → Type 0) → k < 4 → All (IsDerived rows k) derived
    → AreMadeOf rows k derived derived P → AreEnough rows (Contains derived) → AreEnough rows P
made_are_enough rows k derived P within all made enough clean =
    enough (clean_before (Contains derived) P (paired rows k) (in_column rows) (multiplied bound rows) k within both
    (λ j l. linear_of rows k derived (coef j) all) (linear_of rows k derived bound all) clean)
  where
    both : IsMadeOf (paired rows k) (in_column rows k) (Contains derived) P
    both = record { pairs = λ x y p q high low. (made.pairs x p high).pairs y q low; levels = λ x p e. made.levels x p e }

pub none_over : (rows : List Row) → AreClean rows (IsNotOver rows)
none_over rows = record { none = λ xs all zeros. below xs all }
  where
    below : (xs : List (List ℤ)) → AllByRecursion (IsNotOver rows) xs → total (multiplied bound rows) xs ≤ℤ pos 0
    below [] all = omega (arith, ints)
    below (x ∷ xs) (h, hs) = omega (arith, ints, h, below xs hs)

-- ---- what is found
pub few_rows : (rows : List Row) → length rows ≤ inequalities_of rows
few_rows [] = omega arith
few_rows (r ∷ rs) = go r.equal (few_rows rs)
  where
    go : (b : Bool) → length rs ≤ inequalities_of rs → suc (length rs) ≤ (if b then 2 else 1) + inequalities_of rs
    go true h = omega (arith, h)
    go false h = omega (arith, h)

signs_zip : (rows : List Row) (ms : List ℤ) → HaveSigns rows ms → AllZip MayMultiply rows (take (length rows) ms)
signs_zip [] ms h = tt
signs_zip (r ∷ rs) [] h = absurd h
signs_zip (r ∷ rs) (m ∷ ms) (h, hs) = (h, signs_zip rs ms hs)

multiplied-take : (f : Row → ℤ) (rows : List Row) (ms : List ℤ) → multiplied f rows (take (length rows) ms) ≡ multiplied f rows ms
multiplied-take f [] ms = refl
multiplied-take f (r ∷ rs) [] = refl
multiplied-take f (r ∷ rs) (m ∷ ms) = ap (λ (z : ℤ). m *ℤ f r +ℤ z) (multiplied-take f rs ms)

pub found_is_plain : (rows : List Row) (ms : List ℤ) → IsOver rows ms → IsPlainCombination rows (take (length rows) ms)
found_is_plain rows ms h = record {
  signs = signs_zip rows ms h.derived.signs;
  cancels = λ column l. multiplied-take (coef column) rows ms ∙ h.derived.cancels column l;
  over = omega (arith, ints, h.over, multiplied-take bound rows ms);
}

pub found_is_small : (rows : List Row) (ms : List ℤ) → IsOver rows ms → All (λ m. unsigned_abs m ≤ 2 ^ 105) (take (length rows) ms)
found_is_small rows ms h = All-take (λ m. unsigned_abs m ≤ 2 ^ 105) (length rows) ms h.derived.small

pub rows_are_fit : (rows : List Row) → inequalities_of rows ≤ 8 → All IsSmallRow rows → AreFit rows
rows_are_fit rows few narrow = record { few = omega (arith, few, few_rows rows); narrow = narrow }
