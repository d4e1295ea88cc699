-- Items that are found at a place or added at the end.
use Rattle.std.proofs.Common.{inl, inr, ℕ, List, [], ◌∷◌}
use Rattle.sym_table.specs.Names.{PlacesItem}
use Rattle.term_model.proofs.Lists.{slice_get-left, slice_get-last}
use Rattle.flip_keys.specs.Numbers.{IsNumberedAt, KeepsNumbers}

pub place_keeps : {X : Type 0} (old new : List X) (k : ℕ) (x : X) → PlacesItem old new k x → KeepsNumbers old new
place_keeps old new k x (inl h) j y e = rw h.1 e
place_keeps old new k x (inr h) j y e = rw h.2 (slice_get-left old (x ∷ []) j y e)

pub place_here : {X : Type 0} (old new : List X) (k : ℕ) (x : X) → PlacesItem old new k x → IsNumberedAt new k x
place_here old new k x (inl h) = rw h.1 h.0
place_here old new k x (inr h) = rw (h.1, h.2) (slice_get-last old x)
