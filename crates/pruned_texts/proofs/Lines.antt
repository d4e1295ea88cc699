-- The lines of the elements of a list, one behind the other.
use Rattle.std.proofs.Common.{◌≡◌, ℕ, zero, suc, ◌+◌, ◌<◌, ◌≤◌, List, [], ◌∷◌, ◌++◌, length, drop, slice_index_or, refl, sym, ap, ◌∙◌, arith, append_assoc, append-nil}
use Rattle.std.specs.List.{flat_map}
use Rattle.std.proofs.Math.Numerals.{add-one}

-- the lines of the elements from a place on
module _ {A : Type 0} (f : A → List ℕ) where
  lines_suc : (xs : List A) (k : ℕ) (x : A) → k < length xs → x ≡ slice_index_or xs k x → flat_map f (drop k xs) ≡ f x ++ flat_map f (drop (suc k) xs)
  lines_suc [] k x h e = absurd (omega (arith, h))
  lines_suc (y ∷ xs) zero x h e = ap (λ z. f z ++ flat_map f xs) (sym e)
  lines_suc (y ∷ xs) (suc k) x h e = lines_suc xs k x (omega (arith, h)) e

  pub lines_step : (xs : List A) (k : ℕ) (x : A) (old new whole : List ℕ) → k < length xs → x ≡ slice_index_or xs k x → new ≡ old ++ f x
      → old ++ flat_map f (drop k xs) ≡ whole → new ++ flat_map f (drop (k + 1) xs) ≡ whole
  lines_step xs k x old new whole h e added kept =
      let more : flat_map f (drop k xs) ≡ f x ++ flat_map f (drop (k + 1) xs) = rw (add-one k) (lines_suc xs k x h e) in
      rw added (append_assoc old (f x) (flat_map f (drop (k + 1) xs)) ∙ ap (λ l. old ++ l) (sym more) ∙ kept)

  no_lines : (xs : List A) (k : ℕ) → length xs ≤ k → flat_map f (drop k xs) ≡ []
  no_lines [] zero h = refl
  no_lines [] (suc k) h = refl
  no_lines (y ∷ xs) zero h = absurd (omega (arith, h))
  no_lines (y ∷ xs) (suc k) h = no_lines xs k (omega (arith, h))

  pub lines_end : (xs : List A) (k : ℕ) (text whole : List ℕ) → length xs ≤ k → text ++ flat_map f (drop k xs) ≡ whole → text ≡ whole
  lines_end xs k text whole h kept = sym (append-nil text) ∙ ap (λ l. text ++ l) (sym (no_lines xs k h)) ∙ kept
