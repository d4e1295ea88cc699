-- Runs of coefficients in a sorted sum.
use Rattle.std.proofs.Common.{◌≡◌, ◌≢◌, ◌↔◌, ℕ, suc, ◌<◌, ◌≤◌, ◌==◌, ℤ, pos, ◌+ℤ◌, Bool, true, false, if◌then◌else◌, List, [], ◌∷◌, length, get_or, refl, sym, ap, subst, arith}
use Rattle.std.specs.List.Sorted.{IsNonDecreasingBy}
use Rattle.std.proofs.lemmas.Bool.{eq-eqb}
use Rattle.std.proofs.lemmas.Int.{ints}
use Rattle.scaled_sums.specs.declared.coefficients.Coefficient.{Coefficient}
use Rattle.scaled_sums.specs.Coefficients.{sum_at}
use Rattle.scaled_sums.specs.Runs.{Rises, IsRunOfTerm}
use Rattle.scaled_sums.proofs.Sums.{other_counts}

abbrev term_of : Coefficient → ℕ
term_of c = c.term

rises_of : (cs : List Coefficient) (r : ℕ) → ((j : ℕ) (d : Coefficient) → j < length cs → r ≤ (get_or cs j d).term) → IsNonDecreasingBy term_of cs → Rises r cs
rises_of [] r low up = tt
rises_of (c ∷ cs) r low up =
    (low 0 c (omega arith), rises_of cs c.term (λ j d h. up 0 (suc j) d (omega arith) (omega (arith, h))) (λ i j d h g. up (suc i) (suc j) d (omega (arith, h)) (omega (arith, g))))

later : (cs : List Coefficient) (r q : ℕ) → Rises q cs → r < q → sum_at cs r ≡ pos 0
later [] r q h less = refl
later (c ∷ cs) r q h less =
    let other : c.term ≢ r = λ e. absurd (omega (arith, e, h.0, less)) in
    omega (arith, ints, other_counts c r other, later cs r c.term h.1 (omega (arith, h.0, less)))

nothing_if : (b : Bool) → (if b then pos 0 else pos 0) ≡ pos 0
nothing_if true = refl
nothing_if false = refl

joined_if : (b : Bool) (m n : ℤ) → (if b then m else pos 0) +ℤ (if b then n else pos 0) ≡ (if b then m +ℤ n else pos 0)
joined_if true m n = refl
joined_if false m n = refl

pub run_starts : (cs : List Coefficient) → IsNonDecreasingBy term_of cs → IsRunOfTerm cs 0 (pos 0) cs
run_starts cs up = record {
  numbers = λ r. omega (arith, ints, nothing_if (0 == r));
  narrow = omega arith;
  rising = rises_of cs 0 (λ j d h. omega arith) up;
}

pub run_goes_on : (whole : List Coefficient) (current : ℕ) (so_far : ℤ) (c : Coefficient) (rest : List Coefficient) → IsRunOfTerm whole current so_far (c ∷ rest) → c.term ≡ current → IsRunOfTerm whole current (so_far +ℤ c.number) rest
run_goes_on whole current so_far c rest run e = record {
  numbers = λ r. omega (arith, ints, run.numbers r, ap (λ x. if x == r then c.number else pos 0) e, joined_if (current == r) so_far c.number);
  narrow = let h = run.narrow in omega (arith, ints, h);
  rising = subst (λ x. Rises x rest) e run.rising.1;
}

new_run : (whole : List Coefficient) (current : ℕ) (so_far : ℤ) (c : Coefficient) (rest : List Coefficient) → IsRunOfTerm whole current so_far (c ∷ rest) → so_far ≡ pos 0 → IsRunOfTerm whole c.term (pos 0) (c ∷ rest)
new_run whole current so_far c rest run e = record {
  numbers = λ r. omega (arith, ints, run.numbers r, ap (λ x. if current == r then x else pos 0) e, nothing_if (current == r), nothing_if (c.term == r));
  narrow = let h = run.narrow in omega (arith, ints, h);
  rising = (omega arith, run.rising.1);
}

pub run_begins : (whole : List Coefficient) (current : ℕ) (so_far : ℤ) (c : Coefficient) (rest : List Coefficient) → IsRunOfTerm whole current so_far (c ∷ rest) → so_far ≡ pos 0 → IsRunOfTerm whole c.term (so_far +ℤ c.number) rest
run_begins whole current so_far c rest run e =
    subst (λ x. IsRunOfTerm whole c.term x rest) (ap (λ x. x +ℤ c.number) (sym e)) (run_goes_on whole c.term (pos 0) c rest (new_run whole current so_far c rest run e) refl)

own_if : (n : ℕ) (z : ℤ) → (if n == n then z else pos 0) ≡ z
own_if n z = go (n == n) (eq-eqb n n refl)
  where
    go : (b : Bool) → b ≡ true → (if b then z else pos 0) ≡ z
    go true e = refl
    go false e = absurd cc

pub run_is_left : (whole : List Coefficient) (current : ℕ) (so_far : ℤ) (c : Coefficient) (rest : List Coefficient) → IsRunOfTerm whole current so_far (c ∷ rest) → c.term ≢ current → so_far ≢ pos 0 → ((r : ℕ) → sum_at whole r ≡ pos 0) → ⊥
run_is_left whole current so_far c rest run other some all =
    let less : current < c.term = apart current c.term run.rising.0 other in
    some (omega (arith, ints, all current, run.numbers current, own_if current so_far, later (c ∷ rest) current c.term (omega arith, run.rising.1) less))
  where
    apart : (m n : ℕ) → m ≤ n → n ≢ m → m < n
    apart m n le ne = omega (arith, le, ne)

pub run_ends : (whole : List Coefficient) (current : ℕ) (so_far : ℤ) (b : Bool) → IsRunOfTerm whole current so_far [] → (b ≡ true) ↔ (so_far ≡ pos 0) → (b ≡ true) ↔ ((r : ℕ) → sum_at whole r ≡ pos 0)
run_ends whole current so_far b run told =
    (λ e r. omega (arith, ints, run.numbers r, ap (λ x. if current == r then x else pos 0) (told.0 e), nothing_if (current == r)), λ all. told.1 (omega (arith, ints, all current, run.numbers current, own_if current so_far)))
