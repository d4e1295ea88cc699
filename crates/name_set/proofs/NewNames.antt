-- Cited by crates above. Names where a new one goes last.
use Rattle.std.proofs.Common.{◌≡◌, inl, inr, ℕ, Bool, true, false, List, [], ◌∷◌, ◌++◌, length, position, Some, None, sym, ◌∙◌, ap, refl, if◌then◌else◌}
use Rattle.std.specs.Str.{bytes_eq}
use Rattle.std.proofs.lemmas.Slice.Eq.{bytes_eq-Decides}
use Rattle.name_set.specs.Names.{StandOnce}
use Rattle.name_set.proofs.Positions.{position-push_found, position-push_new, position-push_other, slice_get-push_cases}

-- each name has its number, and the new one the next
pub position-new_name : (names : List (List ℕ)) (name other : List ℕ) → position (bytes_eq name) names ≡ None → position (bytes_eq other) (names ++ name ∷ []) ≡ (if bytes_eq other name then Some (length names) else position (bytes_eq other) names)
position-new_name names name other new = go (bytes_eq other name) (bytes_eq-Decides other name).0 refl
  where
    go : (b : Bool) → (bytes_eq other name ≡ true → other ≡ name) → bytes_eq other name ≡ b → position (bytes_eq other) (names ++ name ∷ []) ≡ (if b then Some (length names) else position (bytes_eq other) names)
    go true same e = position-push_new (bytes_eq other) names name (ap (λ n. position (bytes_eq n) names) (same e) ∙ new) e
    go false same e = position-push_other (bytes_eq other) names name e

-- names stay apart
pub StandOnce-new_name : (names : List (List ℕ)) (name : List ℕ) → StandOnce names → position (bytes_eq name) names ≡ None → StandOnce (names ++ name ∷ [])
StandOnce-new_name names name once new k n e =
    elim (slice_get-push_cases names name k n e) [
      | inl h ↦ position-push_found (bytes_eq n) names name k (once k n h)
      | inr h ↦ last h.0 h.1
    ]
  where
    last : k ≡ length names → name ≡ n → position (bytes_eq n) (names ++ name ∷ []) ≡ Some k
    last at same =
        position-push_new (bytes_eq n) names name (ap (λ m. position (bytes_eq m) names) (sym same) ∙ new) ((bytes_eq-Decides n name).1 (sym same)) ∙ ap Some (sym at)
