-- What holds of each item of the pieces of all chunks holds of the items of all pieces, one behind the other.
use Rattle.std.proofs.Common.{◌≡◌, ◌⊎◌, inl, inr, ◌<◌, ◌≤◌, ◌+◌, ◌-◌, ◌*◌, ℕ, suc, List, [], ◌∷◌, length, get_or, slice_get, Some, subst, arith}
use Rattle.std.specs.Prelude.{flat_map}
use Rattle.std.proofs.lemmas.List.{length-append}
use Rattle.rule_model.proofs.Lines.{get_append}
use Rattle.worker_crew.specs.Pieces.{AreAllDone}
use Rattle.elaborator.specs.Pieces.{chunks_of, size_of_chunk}

past_chunks : (n k : ℕ) → chunks_of n ≤ k → n ≤ 64 * k
past_chunks n k h = omega (arith, h)

in_chunks : (n k : ℕ) → k < chunks_of n → 64 * k < n
in_chunks n k h = omega (arith, h)

-- the items of chunk k of so many
pub record IsChunk {X : Type 0} (P : ℕ → X → Type 0) (n k : ℕ) (xs : List X) : Type 0 where
  pub count : length xs ≡ size_of_chunk n k
  pub each : (i : ℕ) (x : X) → slice_get xs i ≡ Some x → P (64 * k + i) x

module _ {X Q : Type 0} (items_of : Q → List X) (P : ℕ → X → Type 0) (n : ℕ) where
  -- pieces of all chunks from chunk k on
  abbrev AreFrom : ℕ → List Q → Type 0
  AreFrom k [] = n ≤ 64 * k
  AreFrom k (p ∷ ps) = (64 * k < n) × (IsChunk P n k (items_of p) × AreFrom (k + 1) ps)

  length_from : (k : ℕ) (ps : List Q) → AreFrom k ps → length (flat_map items_of ps) ≡ n - 64 * k
  length_from k [] h = omega (arith, h)
  length_from k (p ∷ ps) h =
      let whole = length-append (items_of p) (flat_map items_of ps) in
      let rest = length_from (k + 1) ps h.1.1 in
      let inside = h.0 in
      let count = h.1.0.count in
      omega (arith, whole, rest, inside, count)

  -- a chunk behind which another comes is full
  full_before : (k : ℕ) (p : Q) → IsChunk P n k (items_of p) → 64 * (k + 1) < n → length (items_of p) ≡ 64
  full_before k p one inside = let count = one.count in omega (arith, count, inside)

  each_from : (k : ℕ) (ps : List Q) → AreFrom k ps → (i : ℕ) (x : X) → slice_get (flat_map items_of ps) i ≡ Some x → P (64 * k + i) x
  each_from k [] h i x e = absurd cc
  each_from k (p ∷ ps) h i x e = go (λ j. each_from (k + 1) ps h.1.1 j x) (get_append (items_of p) (flat_map items_of ps) i x e)
    where
      full : (qs : List Q) → AreFrom (k + 1) qs → (j : ℕ) → slice_get (flat_map items_of qs) j ≡ Some x → length (items_of p) ≡ 64
      full [] g j f = absurd cc
      full (q ∷ qs) g j f = full_before k p h.1.0 g.0

      go : ((j : ℕ) → slice_get (flat_map items_of ps) j ≡ Some x → P (64 * (k + 1) + j) x)
          → ((i < length (items_of p)) × (slice_get (items_of p) i ≡ Some x)) ⊎ ((length (items_of p) ≤ i) × (slice_get (flat_map items_of ps) (i - length (items_of p)) ≡ Some x)) → P (64 * k + i) x
      go later (inl found) = h.1.0.each i x found.1
      go later (inr found) =
          let long = full ps h.1.1 (i - length (items_of p)) found.1 in
          let after = found.0 in
          let at : 64 * (k + 1) + (i - length (items_of p)) ≡ 64 * k + i = omega (arith, long, after) in
          subst (λ m. P m x) at (later (i - length (items_of p)) found.1)

  module _ (S : ℕ → Q → Type 0) (tells : (k : ℕ) (p : Q) → k < chunks_of n → S k p → IsChunk P n k (items_of p)) where
    are_from : (k : ℕ) (ps : List Q) → k + length ps ≡ chunks_of n → ((j : ℕ) (d : Q) → j < length ps → S (k + j) (get_or ps j d)) → AreFrom k ps
    are_from k [] long each = past_chunks n k (omega (arith, long))
    are_from k (p ∷ ps) long each =
        let first : k + 0 ≡ k = omega arith in
        let inside : k < chunks_of n = omega (arith, long) in (
          in_chunks n k inside,
          (
            tells k p inside (subst (λ m. S m p) first (each 0 p (omega arith))),
            are_from (k + 1) ps (omega (arith, long))
                (λ j d below. let next : k + suc j ≡ k + 1 + j = omega arith in subst (λ m. S m (get_or ps j d)) next (each (suc j) d (omega (arith, below)))),
          ),
        )

    all_from : (ps : List Q) → AreAllDone S (chunks_of n) ps → AreFrom 0 ps
    all_from ps done =
        let long = done.one_each in
        are_from 0 ps (omega (arith, long)) (λ j d below. let at : j ≡ 0 + j = omega arith in subst (λ m. S m (get_or ps j d)) at (done.say j d (omega (arith, below, long))))

    pub count_of_chunks : (ps : List Q) → AreAllDone S (chunks_of n) ps → length (flat_map items_of ps) ≡ n
    count_of_chunks ps done = let sum = length_from 0 ps (all_from ps done) in omega (arith, sum)

    pub each_of_chunks : (ps : List Q) → AreAllDone S (chunks_of n) ps → (i : ℕ) (x : X) → slice_get (flat_map items_of ps) i ≡ Some x → P i x
    each_of_chunks ps done i x e = let at : 64 * 0 + i ≡ i = omega arith in subst (λ m. P m x) at (each_from 0 ps (all_from ps done) i x e)
