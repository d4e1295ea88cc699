-- The loop over cells that finds their heights: each from those of its parts, and none above the depth.
use Rattle.std.proofs.Common.{◌≡◌, ℕ, ◌<◌, ◌≤◌, ◌+◌, ◌^◌, refl, arith, List, [], ◌∷◌, ◌++◌, length, get_or, take, map, Bool, true, false, if◌then◌else◌}
use Rattle.std.proofs.lemmas.List.{map-append, length-map}
use Rattle.pair_pool.specs.Trees.{Tree, leaf, cell}
use Rattle.pair_pool.specs.Views.{PassView, IsOneToOne, HasPartsOfTrees}
use Rattle.term_pool.specs.declared.heights.Heights.{Heights}
use Rattle.term_pool.specs.declared.listing.Part.{Part}
use Rattle.term_pool.specs.declared.listing.Part.TheVariants.{Leaf, Cell}
use Rattle.term_pool.specs.declared.listing.ListedCell.{ListedCell}
use Rattle.term_pool.specs.declared.listing.Listing.{Listing}
use Rattle.term_pool.specs.Trees.{depth, IsCellTree}
use Rattle.term_pool.specs.CellCounts.{Has}
use Rattle.term_pool.specs.Heights.{is_let_head}
use Rattle.term_pool.specs.HeightTables.{cell_heights, heights_of, is_let_leaf}
use Rattle.term_pool.specs.Listings.{tree_of, listed_tree, trees_of, cell_at, IsBefore, IsListing}
use Rattle.term_pool.proofs.Members.{has_place}
use Rattle.term_pool.proofs.Depth.{depth-bound}
use Rattle.term_pool.proofs.ListingLemmas.{has_all, has_reference, after_cell, StandsAt}

-- no part of the heights is above the depth, but the height by one
pub record AreWithin (h : Heights) (n : ℕ) : Type 0 where
  pub term : h.term ≤ n + 1
  pub list : h.list ≤ n
  pub bindings : h.bindings ≤ n
  pub value : h.value ≤ n
  pub rest : h.rest ≤ n

choice_within : (b : Bool) (x y n : ℕ) → x ≤ n → y ≤ n → (if b then x else y) ≤ n
choice_within true x y n h k = h
choice_within false x y n h k = k

pub heights_within : (t : Tree) → AreWithin (heights_of t) (depth t)
heights_within (leaf k) = record { term = omega arith; list = omega arith; bindings = omega arith; value = omega arith; rest = omega arith }
heights_within (cell a b) =
    let h = heights_within a in
    let k = heights_within b in
    let top = choice_within (is_let_head a) (heights_of b).rest (heights_of b).list (depth b) k.rest k.list in
    record { term = omega arith; list = omega arith; bindings = omega arith; value = omega arith; rest = omega arith }

part_is_let : (trees : List Tree) (p : Part) → ((t : Tree) → Has trees t → IsCellTree t) → IsBefore (length trees) p → is_let_leaf p ≡ is_let_head (tree_of trees p)
part_is_let trees (Leaf k) cells before = refl
part_is_let trees (Cell n) cells before = go (get_or trees n (leaf 0)) (cells _ (has_place trees n (leaf 0) before))
  where
    go : (t : Tree) → IsCellTree t → false ≡ is_let_head t
    go (leaf k) is = absurd is
    go (cell a b) is = refl

part_low : (trees : List Tree) (p : Part) (n : ℕ) → ((t : Tree) → Has trees t → depth t ≤ n) → IsBefore (length trees) p → depth (tree_of trees p) ≤ n
part_low trees (Leaf k) n low before = omega arith
part_low trees (Cell m) n low before = low _ (has_place trees m (leaf 0) before)

pub listed_cell : (p : PassView) (listing : Listing) → IsListing p listing → (t : Tree) → Has (trees_of listing.cells.items) t → IsCellTree t
listed_cell p listing h t k = after_cell _ t (h.after t k)

pub listed_low : (p : PassView) → IsOneToOne p → HasPartsOfTrees p → (listing : Listing) → IsListing p listing → (t : Tree) → Has (trees_of listing.cells.items) t → depth t ≤ 2 ^ 30 + p.places
listed_low p one parts listing h t k =
    let found = has_reference p _ _ h.known t k in depth-bound p one parts found.0 t found.2

-- the heights of the cell at place i, where those of the cells before it are found
module _ (cells : List ListedCell) (i : ℕ) (s : StandsAt cells i) (found : List Heights) (e : found ≡ map heights_of (trees_of (take i cells))) where
  pub first_there : IsBefore (length found) (cell_at cells i).first
  first_there = rw (e, length-map) s.first

  pub second_there : IsBefore (length found) (cell_at cells i).second
  second_there = rw (e, length-map) s.second

  pub second_low : (n : ℕ) → n < 2 ^ 31 → ((t : Tree) → Has (trees_of cells) t → depth t ≤ n) → (h : Heights) → h ≡ heights_of (tree_of (trees_of (take i cells)) (cell_at cells i).second) → (h.list < 2 ^ 31) × (h.rest < 2 ^ 31)
  second_low n less low h is =
      let deep = part_low _ (cell_at cells i).second n (λ t k. low t (has_all cells i t k)) s.second in
      let within = heights_within (tree_of (trees_of (take i cells)) (cell_at cells i).second) in
      rw is (omega arith, omega arith)

  pub heights_more : (first second : Heights) → ((t : Tree) → Has (trees_of cells) t → IsCellTree t) → first ≡ heights_of (tree_of (trees_of (take i cells)) (cell_at cells i).first) → second ≡ heights_of (tree_of (trees_of (take i cells)) (cell_at cells i).second) → found ++ cell_heights (is_let_leaf (cell_at cells i).first) first second ∷ [] ≡ map heights_of (trees_of (take (i + 1) cells))
  heights_more first second is_cell a b =
      let trees : List Tree = trees_of (take i cells) in
      let head = part_is_let trees (cell_at cells i).first (λ t k. is_cell t (has_all cells i t k)) s.first in
      rw (s.more, map-append heights_of trees (listed_tree trees (cell_at cells i) ∷ []), e, a, b, head) refl
