-- Going back over the commands before a step.
use Rattle.std.proofs.Common.{◌≡◌, ◌<◌, ◌≤◌, ◌⊎◌, inl, inr, ℕ, zero, suc, List, Contains, Some, refl, sym, ap, subst, arith}
use Rattle.rule_model.specs.Subproof.{IsAssumeIn}
use Rattle.rule_model.specs.Proofs.{ProofItems}
use Rattle.rule_model.specs.Reading.{closes_at, scope_at}
use Rattle.rule_model.proofs.ScopeRanges.{together}

same_or_later : (j n : ℕ) → n ≤ j → (j ≡ n) ⊎ (suc n ≤ j)
same_or_later zero zero h = inl refl
same_or_later zero (suc n) h = absurd (omega arith)
same_or_later (suc j) zero h = inr (omega arith)
same_or_later (suc j) (suc n) h = elim (same_or_later j n (omega arith)) [ inl e ↦ inl (ap suc e) | inr k ↦ inr (omega (arith, k)) ]

below_or : (j n : ℕ) → (n ≤ j) ⊎ (j < n)
below_or j zero = inl (omega arith)
below_or zero (suc n) = inr (omega arith)
below_or (suc j) (suc n) = elim (below_or j n) [ inl h ↦ inl (omega (arith, h)) | inr h ↦ inr (omega (arith, h)) ]

module _ (proof : ProofItems ℕ ℕ) (i k : ℕ) (list : List ℕ) where
  -- the assumes from a command on are in the list
  abbrev pub AreKnown : ℕ → Type 0
  AreKnown n = (j : ℕ) → n ≤ j → IsAssumeIn proof i k j → Contains list j

  -- what stands before a command outside the scope is outside it too
  pub none_before : closes_at proof i ≡ Some k → (n : ℕ) → suc n ≤ i → scope_at proof n < k → AreKnown (suc n) → (j : ℕ) → IsAssumeIn proof i k j → Contains list j
  none_before closes n below outside known j a = go (below_or j (suc n))
    where
      go : (suc n ≤ j) ⊎ (j < suc n) → Contains list j
      go (inl later) = known j later a
      go (inr earlier) =
          let range = together proof i k closes in
          let scope = a.scope in
          let mine = (range.1 j a.before).1 (omega arith) in
          let other = (range.1 n (omega arith)).0 (omega arith) in
          absurd (omega arith)

  known_more : (n : ℕ) → AreKnown (suc n) → (IsAssumeIn proof i k n → Contains list n) → AreKnown n
  known_more n known own j h a = go (same_or_later j n h)
    where
      go : (j ≡ n) ⊎ (suc n ≤ j) → Contains list j
      go (inl e) = subst (Contains list) (sym e) (own (subst (IsAssumeIn proof i k) e a))
      go (inr later) = known j later a
