-- A status for each command, as a list.
use Rattle.std.proofs.Common.{◌≡◌, ◌<◌, ◌≤◌, ◌-◌, ◌⊎◌, inl, inr, ℕ, zero, suc, List, [], ◌∷◌, ◌++◌, length, slice_get, Some, All, refl, subst, arith}
use Rattle.std.proofs.lemmas.List.{length-append}
use Rattle.std.proofs.lemmas.List.Elements.{All-nil, All-push}
use Rattle.rule_model.proofs.Lines.{get_append, get_one}

pub record Listed (X : Type 0) (P : X → Type 0) (R : ℕ → X → Type 0) (n : ℕ) : Type 0 where
  pub list : List X
  pub count : length list ≡ n
  pub all : All P list
  pub each : (i : ℕ) (x : X) → slice_get list i ≡ Some x → R i x

module _ {X : Type 0} (P : X → Type 0) (R : ℕ → X → Type 0) where
  pub listed : (n : ℕ) → ((i : ℕ) → i < n → (x : X) × P x × R i x) → Listed X P R n
  listed zero some = record { list = []; count = refl; all = All-nil P; each = λ i x e. absurd (nothing i x e) }
    where
      nothing : (i : ℕ) (x : X) → slice_get [] i ≡ Some x → ⊥
      nothing i x e = cc
  listed (suc n) some =
      let before = listed n (λ i less. some i (omega arith)) in
      let last = some n (omega arith) in
      let count = before.count in
      let longer = length-append before.list (last.0 ∷ []) in
      record { list = before.list ++ last.0 ∷ []; count = omega arith; all = All-push P before.list last.0 before.all last.1; each = each before last }
    where
      each : (before : Listed X P R n) (last : (x : X) × P x × R n x) (i : ℕ) (x : X) → slice_get (before.list ++ last.0 ∷ []) i ≡ Some x → R i x
      each before last i x e = go (get_append before.list (last.0 ∷ []) i x e)
        where
          go : ((i < length before.list) × (slice_get before.list i ≡ Some x)) ⊎ ((length before.list ≤ i) × (slice_get (last.0 ∷ []) (i - length before.list) ≡ Some x)) → R i x
          go (inl h) = before.each i x h.1
          go (inr h) =
              let one = get_one last.0 (i - length before.list) x h.1 in
              let more = h.0 in
              let zero_is = one.0 in
              let count = before.count in
              let here : n ≡ i = omega arith in
              subst (R i) one.1 (subst (λ k. R k last.0) here last.2)
