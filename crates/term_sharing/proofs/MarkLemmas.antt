-- The marks of cells by their places: one more, and how many there are.
use Rattle.std.proofs.Common.{◌≡◌, ◌≢◌, ℕ, zero, suc, ◌+◌, ◌-◌, ◌<◌, ◌≤◌, ◌^◌, Bool, true, false, List, [], ◌∷◌, ◌++◌, length, set, take, replicate}
use Rattle.std.proofs.Common.{nat_lt, refl, sym, ap, ◌∙◌, arith, get_or-set_same, get_or-set_other}
use Rattle.std.specs.Prelude.{slice_index_or, if◌then◌else◌}
use Rattle.std.proofs.lemmas.Bool.Decides.{nat_tests}
use Rattle.sym_table.specs.Table.{Table}
use Rattle.term_pool.specs.Views.{TermsView}
use Rattle.term_sharing.specs.Marks.{mark_at, is_met, met, says_closed, AreRight, IsMarked}
use Rattle.term_sharing.specs.NamedTerms.{IsClosed}
use Rattle.term_sharing.specs.declared.marks.Mark.{Mark}

pub no_marks : (s : Table) (v : TermsView) → AreRight s v (mark_at [])
no_marks s v r says = go (nat_lt r (2 ^ 30)) says
  where
    go : (test : Bool) → says_closed (if test then Mark.Unmet else Mark.Unmet) ≡ true → IsClosed s v r
    go true e = absurd (let f : false ≡ true = e in cc)
    go false e = absurd (let f : false ≡ true = e in cc)

-- the mark of a cell stands at its place
at_cell : (marks : List Mark) (r : ℕ) → 2 ^ 30 ≤ r → mark_at marks r ≡ slice_index_or marks (r - 2 ^ 30) Mark.Unmet
at_cell marks r high = go (nat_lt r (2 ^ 30)) refl
  where
    go : (test : Bool) → nat_lt r (2 ^ 30) ≡ test → mark_at marks r ≡ slice_index_or marks (r - 2 ^ 30) Mark.Unmet
    go true e = absurd (let low : r < 2 ^ 30 = grind (arith, nat_tests) in omega (arith, low, high))
    go false e = rw e refl

pub marked : (old new : List Mark) (r place : ℕ) (m : Mark) → 2 ^ 30 ≤ r → place ≡ r - 2 ^ 30
    → ((k : ℕ) → slice_index_or new k Mark.Unmet ≡ slice_index_or old k Mark.Unmet) → place < length new → IsMarked old (set new place m) r m
marked old new r place m high at same there = record {
  here =
      at_cell (set new place m) r high
      ∙ (ap (λ k. slice_index_or (set new place m) k Mark.Unmet) (sym at) ∙ get_or-set_same new place m Mark.Unmet there);
  elsewhere = λ q other. go q other (nat_lt q (2 ^ 30)) refl;
}
  where
    go : (q : ℕ) → q ≢ r → (test : Bool) → nat_lt q (2 ^ 30) ≡ test → mark_at (set new place m) q ≡ mark_at old q
    go q other true e = rw e refl
    go q other false e =
        let low : 2 ^ 30 ≤ q = grind (arith, nat_tests) in
        at_cell (set new place m) q low
        ∙ (get_or-set_other new place (q - 2 ^ 30) m Mark.Unmet (λ f. other (omega (arith, f, at, low, high)))
        ∙ (same (q - 2 ^ 30) ∙ sym (at_cell old q low)))

-- how many cells are met, where the vector gets longer
met_none : (k : ℕ) → met (replicate k Mark.Unmet) ≡ 0
met_none zero = refl
met_none (suc k) = let e = met_none k in rw e refl

pub met_more : (ms : List Mark) (n k : ℕ) → length ms ≤ n → met (take n ms ++ replicate k Mark.Unmet) ≡ met ms
met_more [] zero k le = met_none k
met_more [] (suc n) k le = met_none k
met_more (m ∷ ms) zero k le = absurd (omega (arith, le))
met_more (m ∷ ms) (suc n) k le = ap (λ x. x + (if is_met m then 1 else 0)) (met_more ms n k (omega (arith, le)))

-- and where a cell gets a mark
behind_one : (a b c d : ℕ) → a ≡ b + c → a + d ≡ (b + d) + c
behind_one a b c d e = omega (arith, e)

met_set : (ms : List Mark) (k : ℕ) (m : Mark) → is_met m ≡ true → k < length ms
    → met (set ms k m) ≡ met ms + (if is_met (slice_index_or ms k Mark.Unmet) then 0 else 1)
met_set [] k m is low = absurd (omega (arith, low))
met_set (x ∷ ms) zero m is low = go (is_met x) refl
  where
    go : (test : Bool) → is_met x ≡ test
        → met ms + (if is_met m then 1 else 0) ≡ (met ms + (if is_met x then 1 else 0)) + (if is_met x then 0 else 1)
    go true e = rw (is, e) (omega arith)
    go false e = rw (is, e) (omega arith)
met_set (x ∷ ms) (suc k) m is low =
    behind_one (met (set ms k m)) (met ms) (if is_met (slice_index_or ms k Mark.Unmet) then 0 else 1) (if is_met x then 1 else 0)
    (met_set ms k m is (omega (arith, low)))

pub met_now : (old new : List Mark) (r place : ℕ) (m : Mark) → is_met m ≡ true → 2 ^ 30 ≤ r → place ≡ r - 2 ^ 30
    → ((k : ℕ) → slice_index_or new k Mark.Unmet ≡ slice_index_or old k Mark.Unmet) → met new ≡ met old → place < length new
    → met (set new place m) ≡ met old + (if is_met (mark_at old r) then 0 else 1)
met_now old new r place m is high at same kept there =
    let was : slice_index_or new place Mark.Unmet ≡ mark_at old r =
    same place ∙ (ap (λ k. slice_index_or old k Mark.Unmet) at ∙ sym (at_cell old r high)) in
    met_set new place m is there
    ∙ (ap (λ n. n + (if is_met (slice_index_or new place Mark.Unmet) then 0 else 1)) kept
    ∙ ap (λ x. met old + (if is_met x then 0 else 1)) was)

pub met_few : (ms : List Mark) → met ms ≤ length ms
met_few [] = omega arith
met_few (m ∷ ms) = let le = met_few ms in go (is_met m) refl le
  where
    go : (test : Bool) → is_met m ≡ test → met ms ≤ length ms → met ms + (if is_met m then 1 else 0) ≤ suc (length ms)
    go true e le = rw e (omega (arith, le))
    go false e le = rw e (omega (arith, le))
