-- Bindings of which none is for a plain leaf.
use Rattle.std.proofs.Common.{◌≡◌, ◌≢◌, ◌≤◌, ◌<◌, ◌+◌, ◌⊎◌, inl, inr, ℕ, List, [], ◌∷◌, ◌++◌, length, take, get_or, Some, None, Bool, true, false, eqb, if◌then◌else◌, refl, sym, ◌∙◌, ap}
use Rattle.std.proofs.lemmas.Bool.Decides.{eqb_tells}
use Rattle.std.proofs.lemmas.List.{take_more, take_all}
use Rattle.contexts.specs.declared.closed.Closed.{Closed}
use Rattle.contexts.specs.Closed.{has_plain}
use Rattle.contexts.specs.Firsts.{first_for}
use Rattle.contexts.proofs.KeptFrames.{none_before}

module _ (c : Closed) (bs : List (ℕ × ℕ)) (i : ℕ) where
  pub scan_more : (b : ℕ × ℕ) → i < length bs → b ≡ get_or bs i b → has_plain c b.0 ≡ false → ((k : ℕ) → has_plain c k ≡ true → first_for (take i bs) k ≡ None) → (k : ℕ) → has_plain c k ≡ true → first_for (take (i + 1) bs) k ≡ None
  scan_more b below is other before k plain =
      ap (λ xs. first_for xs k) (take_more bs i b below ∙ ap (λ x. take i bs ++ x ∷ []) (sym is))
      ∙ none_before (take i bs) (b ∷ []) k (before k plain) ∙ last (eqb b.0 k) (eqb_tells b.0 k)
    where
      last : (t : Bool) → ((t ≡ true) × (b.0 ≡ k)) ⊎ ((t ≡ false) × (b.0 ≢ k)) → (if t then Some b.1 else None) ≡ None
      last t (inl both) = absurd (let same = sym other ∙ ap (has_plain c) both.1 ∙ plain in cc)
      last true (inr both) = absurd (let clash = both.0 in cc)
      last false (inr both) = refl

  pub scan_all : length bs ≤ i → ((k : ℕ) → has_plain c k ≡ true → first_for (take i bs) k ≡ None) → (k : ℕ) → has_plain c k ≡ true → first_for bs k ≡ None
  scan_all end before k plain = ap (λ xs. first_for xs k) (sym (take_all i bs end)) ∙ before k plain
