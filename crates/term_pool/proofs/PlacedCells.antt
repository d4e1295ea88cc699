-- Cited by crates above. What was placed and what lacked room, of terms of a kind: for one term, for more kinds, and by one call behind another.
use Rattle.std.proofs.Common.{◌≡◌, ◌⊎◌, inl, inr, ℕ}
use Rattle.pair_pool.specs.Views.{PassView, IsPlaced}
use Rattle.sym_table.specs.Table.{Table, Keeps}
use Rattle.sym_table.proofs.Tables.{keeps_table}
use Rattle.term_model.specs.Terms.{Term}
use Rattle.term_pool.specs.Placing.{PlacesTerm, LacksRoomFor, IsWantedCell, PlacesCellsOf, LacksCellOf}
use Rattle.term_pool.specs.Views.{KeepsPass}
use Rattle.term_pool.proofs.Growth.{stays}
use Rattle.term_pool.proofs.Keeping.{in_later}

-- nothing is placed
pub places_none : (s : Table) (old new : PassView) (P : Term → Type 0) → new.placed ≡ old.placed → PlacesCellsOf s old new P
places_none s old new P e r a b h = inl (rw e at h)

-- a term of the kind
pub places_of_term : (s : Table) (old new : PassView) (P : Term → Type 0) (t : Term) → P t → PlacesTerm s old new t → PlacesCellsOf s old new P
places_of_term s old new P t kind h r a b placed = elim (h.placed r a b placed) [
  | inl before ↦ inl before
  | inr cell ↦ inr (record { whole = t; wanted = kind; tree = h.tree; stands = h.stands; cell = cell })
]

pub lacks_for_term : (s : Table) (new : PassView) (P : Term → Type 0) (t : Term) → P t → LacksRoomFor s new t → LacksCellOf s new P
lacks_for_term s new P t kind h = record { whole = t; wanted = kind; tree = h.tree; stands = h.stands; full = h.full }

-- a kind that takes in the other
pub cell_more : (s : Table) (p : PassView) (P Q : Term → Type 0) → ((t : Term) → P t → Q t) → (a b : ℕ) → IsWantedCell s p P a b → IsWantedCell s p Q a b
cell_more s p P Q more a b h = record { whole = h.whole; wanted = more h.whole h.wanted; tree = h.tree; stands = h.stands; cell = h.cell }

pub places_more : (s : Table) (a b : PassView) (P Q : Term → Type 0) → ((t : Term) → P t → Q t) → PlacesCellsOf s a b P → PlacesCellsOf s a b Q
places_more s a b P Q more h r m n e = go (h r m n e)
  where
    go : IsPlaced a r m n ⊎ IsWantedCell s b P m n → IsPlaced a r m n ⊎ IsWantedCell s b Q m n
    go (inl x) = inl x
    go (inr y) = inr (cell_more s b P Q more m n y)

pub lacks_more : (s : Table) (p : PassView) (P Q : Term → Type 0) → ((t : Term) → P t → Q t) → LacksCellOf s p P → LacksCellOf s p Q
lacks_more s p P Q more h = record { whole = h.whole; wanted = more h.whole h.wanted; tree = h.tree; stands = h.stands; full = h.full }

-- one call and then another
pub cell_stays : (s z : Table) (p q : PassView) (P : Term → Type 0) → Keeps s z → KeepsPass p q → (a b : ℕ) → IsWantedCell s p P a b → IsWantedCell z q P a b
cell_stays s z p q P table keeps a b h = record {
  whole = h.whole;
  wanted = h.wanted;
  tree = h.tree;
  stands = stays s z table h.whole h.tree h.stands;
  cell = in_later p q keeps a b h.tree h.cell;
}

pub places_then : (s z : Table) (a b c : PassView) (P : Term → Type 0) → Keeps s z → KeepsPass b c → PlacesCellsOf s a b P → PlacesCellsOf z b c P
    → PlacesCellsOf z a c P
places_then s z a b c P table keeps h k r m n e = go (k r m n e)
  where
    earlier : IsPlaced a r m n ⊎ IsWantedCell s b P m n → IsPlaced a r m n ⊎ IsWantedCell z c P m n
    earlier (inl x) = inl x
    earlier (inr y) = inr (cell_stays s z b c P table keeps m n y)

    go : IsPlaced b r m n ⊎ IsWantedCell z c P m n → IsPlaced a r m n ⊎ IsWantedCell z c P m n
    go (inl x) = earlier (h r m n x)
    go (inr y) = inr y

-- the same by one table
pub places_more_then : (s : Table) (a b c : PassView) (P : Term → Type 0) → KeepsPass b c → PlacesCellsOf s a b P → PlacesCellsOf s b c P → PlacesCellsOf s a c P
places_more_then s a b c P = places_then s s a b c P (keeps_table s)
