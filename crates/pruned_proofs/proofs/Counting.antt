-- Cited by crates above. How kept commands are counted.
use Rattle.std.proofs.Common.{◌≡◌, ◌<◌, ◌≤◌, ◌⊎◌, inl, inr, ℕ, zero, suc, Bool, true, false, List, refl, sym, ◌∙◌, ap, arith}
use Rattle.std.proofs.lemmas.Bool.{cases_lt}
use Rattle.std.proofs.Math.Nat.{eq-or-lt_of_le}
use Rattle.pruned_proofs.specs.Reached.{is_kept}
use Rattle.pruned_proofs.specs.Pruned.{new_index}

pub kept_or_not : (b : Bool) → (b ≡ true) ⊎ (b ≡ false)
kept_or_not true = inl refl
kept_or_not false = inr refl

pub not_both : {b : Bool} → b ≡ true → b ≡ false → ⊥
not_both e f = different (sym e ∙ f)
  where
    different : true ≡ false → ⊥
    different e = cc

module _ (marks : List Bool) where
  pub after_kept : (n : ℕ) → is_kept marks n ≡ true → new_index marks (suc n) ≡ suc (new_index marks n)
  after_kept n e = rw e refl

  pub after_dropped : (n : ℕ) → is_kept marks n ≡ false → new_index marks (suc n) ≡ new_index marks n
  after_dropped n e = rw e refl

  one_up : (n : ℕ) → new_index marks n ≤ new_index marks (suc n)
  one_up n =
      elim (kept_or_not (is_kept marks n)) [
        | inl e ↦ (let s = after_kept n e in omega arith)
        | inr e ↦ (let s = after_dropped n e in omega arith)
      ]

  pub up : (m n : ℕ) → m ≤ n → new_index marks m ≤ new_index marks n
  up m zero h = let e : m ≡ 0 = omega arith in rw e (omega arith)
  up m (suc n) h =
      elim (eq-or-lt_of_le h) [
        | inl e ↦ (let s = ap (new_index marks) e in omega arith)
        | inr less ↦ (let ih = up m n (omega arith) in let s = one_up n in omega arith)
      ]

  pub kept_less : (m n : ℕ) → m < n → is_kept marks m ≡ true → new_index marks m < new_index marks n
  kept_less m n h e = let s = after_kept m e in let more = up (suc m) n (omega arith) in omega arith

  -- different kept commands have different new indices
  pub one_old : (m n : ℕ) → is_kept marks m ≡ true → is_kept marks n ≡ true → new_index marks m ≡ new_index marks n → m ≡ n
  one_old m n e f same = go (cases_lt m n)
    where
      go : (m < n) ⊎ (n ≤ m) → m ≡ n
      go (inl less) = absurd (let s = kept_less m n less e in omega arith)
      go (inr more) =
          elim (eq-or-lt_of_le more) [
            | inl g ↦ sym g
            | inr less ↦ absurd (let s = kept_less n m less f in omega arith)
          ]

  pub none_between : (m n : ℕ) → m ≤ n → ((j : ℕ) → m ≤ j → j < n → is_kept marks j ≡ false) → new_index marks n ≡ new_index marks m
  none_between m zero h none = let e : m ≡ 0 = omega arith in ap (new_index marks) (sym e)
  none_between m (suc n) h none =
      elim (eq-or-lt_of_le h) [
        | inl e ↦ ap (new_index marks) (sym e)
        | inr less ↦ after_dropped n (none n (omega arith) (omega arith))
            ∙ none_between m n (omega arith) (λ j from below. none j from (omega arith))
      ]

  -- each number below that of all kept commands is the new index of one
  pub old_index : (n j : ℕ) → j < new_index marks n → (i : ℕ) × (i < n) × (is_kept marks i ≡ true) × (new_index marks i ≡ j)
  old_index zero j h = absurd (omega arith)
  old_index (suc n) j h = go (kept_or_not (is_kept marks n)) (old_index n j)
    where
      IsOld : ℕ → Type 0
      IsOld top = (i : ℕ) × (i < top) × (is_kept marks i ≡ true) × (new_index marks i ≡ j)

      more : IsOld n → IsOld (suc n)
      more old = (old.0, let less = old.1 in omega arith, old.2, old.3)

      go : (is_kept marks n ≡ true) ⊎ (is_kept marks n ≡ false) → (j < new_index marks n → IsOld n) → IsOld (suc n)
      go (inr e) ih = more (ih (let s = after_dropped n e in omega arith))
      go (inl e) ih =
          elim (cases_lt j (new_index marks n)) [
            | inl below ↦ more (ih below)
            | inr above ↦ (n, omega arith, e, (let s = after_kept n e in omega arith))
          ]
