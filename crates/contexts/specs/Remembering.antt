-- Private. What is remembered of places: of a term under no let that hides a variable by the slot of its cell, which is
-- its place in the pool's table, and of all else by the place itself.
use Rattle.std.specs.Prelude.{◌≡◌, ◌+◌, ◌-◌, ◌^◌, ◌&&◌, ℕ, List, Bool, false, Option, Some, None, length, nat_eq, nat_le, nat_lt, slice_index, if◌then◌else◌}
use Rattle.std.specs.HashMap.{get, hash_map_len}
use Rattle.contexts.specs.contracts.places.PlacePartialEq.TheImpl as places
use Rattle.contexts.specs.declared.memo.Memo.{Memo}
use Rattle.contexts.specs.declared.places.Place.{Place}
use Rattle.contexts.specs.declared.places.Place.TheVariants.{Term, Bindings}

-- the reference at a place
abbrev pub reference_of : Place → ℕ
reference_of (Term r layer) = r
reference_of (Bindings r layer) = r

-- a cell stands there as a term, under no let that hides a variable
abbrev pub is_bare : Place → Bool
is_bare (Term r layer) = nat_eq layer 0 && nat_le (2 ^ 30) r
is_bare (Bindings r layer) = false

-- what a slot says: a reference, where it is that of a cell
abbrev pub if_cell : ℕ → Option ℕ
if_cell r = if nat_lt r (2 ^ 30) then None else Some r

-- what the cell of a slot has become
abbrev pub found_at_slot : Memo → ℕ → Option ℕ
found_at_slot memo n = if nat_lt n (length memo.slots.items) then if_cell (slice_index memo.slots.items n) else get nat_eq memo.few n

-- what a place has become
abbrev pub remembered : Memo → Place → Option ℕ
remembered memo place =
    if is_bare place then found_at_slot memo (reference_of place - 2 ^ 30) else get (places.ghosts).eq memo.others place

-- how much was remembered
abbrev pub memory_size : Memo → ℕ
memory_size memo = length memo.met.items + hash_map_len memo.others

-- what is found now was found before
abbrev pub FindsNoMore : Memo → Memo → Type 0
FindsNoMore old new = (n x : ℕ) → found_at_slot new n ≡ Some x → found_at_slot old n ≡ Some x

abbrev pub RemembersNoMore : Memo → Memo → Type 0
RemembersNoMore old new = (q : Place) (x : ℕ) → remembered new q ≡ Some x → remembered old q ≡ Some x

-- a place is remembered, and no other that was not before
pub record Remembers (old new : Memo) (place : Place) (r : ℕ) : Type 0 where
  pub here : remembered new place ≡ Some r
  pub others : (q : Place) → ¬ (q ≡ place) → (x : ℕ) → remembered new q ≡ Some x → remembered old q ≡ Some x
  pub size : memory_size new ≡ memory_size old + 1

-- slots that say what is found, or nothing
abbrev pub IsCopy : Memo → List ℕ → Type 0
IsCopy memo slots = (n x : ℕ) → if_cell (slice_index slots n) ≡ Some x → found_at_slot memo n ≡ Some x
