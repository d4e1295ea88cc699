-- Public. What a pass of a shared pool is to the table: its view and the number of its atomic steps; and what each kind of
-- step makes of it. Each step counts.
use Rattle.std.specs.Prelude.{◌≢◌, ℕ, ◌+◌, ◌-◌, ◌<◌, ◌^◌, ◌⊎◌, List, [], ◌∷◌, ◌++◌}
use Rattle.pair_pool.specs.declared.holder.Holder.{Holder}
use Rattle.pair_pool.specs.Views.{Cell, PassView, IsListed}
use Rattle.pair_pool.specs.Words.{probe_start, probe_place}

abbrev pub view_of : Holder → PassView
view_of h = record { places = h.places; shares = h.shares; seen = h.seen; known = h.known; placed = h.placed }

-- the first pass of a pool of so many places
abbrev pub first_holder : ℕ → Holder
first_holder places = record { places = places; shares = 65; steps = 0; seen = []; known = []; placed = [] }

-- a leaf, or a cell that is listed
abbrev pub IsListedPart : List Cell → ℕ → Type 0
IsListedPart cells r = (r < 2 ^ 30) ⊎ ((c : ℕ) × (d : ℕ) × IsListed cells r c d)

-- the cell (a, b) at a place
abbrev pub cell_of : ℕ → ℕ → ℕ → Cell
cell_of place a b = record { reference = 2 ^ 30 + place; first = a; second = b }

-- a step that found an empty place; that found a cell; that found the one that is wanted; that placed it
abbrev pub after_empty : Holder → Holder
after_empty h =
    record { places = h.places; shares = h.shares; steps = h.steps + 1; seen = h.seen; known = h.known; placed = h.placed }

abbrev pub after_other : ℕ → ℕ → ℕ → Holder → Holder
after_other place c d h =
    record { places = h.places; shares = h.shares; steps = h.steps + 1; seen = cell_of place c d ∷ h.seen; known = h.known; placed = h.placed }

abbrev pub after_here : ℕ → ℕ → ℕ → Holder → Holder
after_here place a b h = record {
  places = h.places;
  shares = h.shares;
  steps = h.steps + 1;
  seen = cell_of place a b ∷ h.seen;
  known = cell_of place a b ∷ h.known;
  placed = h.placed;
}

abbrev pub after_place : ℕ → ℕ → ℕ → Holder → Holder
after_place place a b h = record {
  places = h.places;
  shares = h.shares;
  steps = h.steps + 1;
  seen = cell_of place a b ∷ h.seen;
  known = cell_of place a b ∷ h.known;
  placed = cell_of place a b ∷ h.placed;
}

-- the pass has seen another cell at each of the first places of the probe for (a, b), so many
abbrev pub HasSeenOthers : Holder → ℕ → ℕ → ℕ → Type 0
HasSeenOthers h a b steps =
    (k : ℕ) → k < steps →
    (c : ℕ) × (d : ℕ) × IsListed h.seen (2 ^ 30 + probe_place h.places (probe_start h.places a b) k) c d × ((c ≢ a) ⊎ (d ≢ b))

-- the two halves of a pass that is split
abbrev pub left_half : Holder → Holder
left_half h =
    record { places = h.places; shares = h.shares - 1; steps = h.steps + 1; seen = h.seen; known = h.known; placed = h.placed }

abbrev pub right_half : Holder → Holder
right_half h =
    record { places = h.places; shares = 1; steps = 0; seen = h.seen; known = h.known; placed = [] }

-- two passes made one, and what is left of the other
abbrev pub both_of : Holder → Holder → Holder
both_of g h = record {
  places = g.places;
  shares = g.shares + h.shares;
  steps = g.steps + h.steps + 1;
  seen = g.seen ++ h.seen;
  known = g.known ++ h.known;
  placed = g.placed ++ h.placed;
}

abbrev pub spent_holder : ℕ → Holder
spent_holder places = record { places = places; shares = 0; steps = 0; seen = []; known = []; placed = [] }
