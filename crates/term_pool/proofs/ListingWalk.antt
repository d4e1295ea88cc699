-- The walk that lists cells: the cells on the way down, and where it is.
use Rattle.std.proofs.Common.{◌≡◌, ℕ, ◌+◌, ◌<◌, ◌≤◌, ◌^◌, ◌⊎◌, inl, inr, refl, sym, ◌∙◌, ap, arith, List, [], ◌∷◌, ◌++◌, length}
use Rattle.std.specs.List.{sum_by}
use Rattle.std.proofs.lemmas.Bool.{cases_lt}
use Rattle.std.proofs.lemmas.List.{get_or_append_left, get_or_push, length_push}
use Rattle.std.proofs.lemmas.List.Sums.{sum_by_push}
use Rattle.pair_pool.specs.Trees.{Tree, leaf, cell}
use Rattle.pair_pool.specs.Views.{PassView, Knows, IsKnown, IsOneToOne, HasPartsOfTrees}
use Rattle.pair_pool.specs.Decoding.{HasTreesWithin}
use Rattle.term_pool.specs.declared.listing.Part.{Part}
use Rattle.term_pool.specs.declared.listing.Part.TheVariants.{Leaf, Cell}
use Rattle.term_pool.specs.declared.listing.ListedCell.{ListedCell}
use Rattle.term_pool.specs.declared.listing.Listing.{Listing}
use Rattle.term_pool.specs.declared.listing.Above.{Above}
use Rattle.term_pool.specs.declared.listing.Above.TheVariants.{First, Second}
use Rattle.term_pool.specs.declared.listing.At.{At}
use Rattle.term_pool.specs.declared.listing.At.TheVariants.{Down, Up}
use Rattle.term_pool.specs.Trees.{IsPartOf, depth}
use Rattle.term_pool.specs.Views.{IsKnownCell}
use Rattle.term_pool.specs.CellCounts.{Has}
use Rattle.term_pool.specs.Decoding.{tree_at}
use Rattle.term_pool.specs.Numbering.{IsPlace}
use Rattle.term_pool.specs.Listings.{trees_of, cell_at, IsBefore, IsAfterParts, Denotes, IsPartAt, IsListing, AddsCells, IsAdded}
use Rattle.term_pool.proofs.Members.{has_front, has_split, all_push}
use Rattle.term_pool.proofs.Depth.{depth-bound}
use Rattle.term_pool.proofs.Keeping.{part-refl}
use Rattle.term_pool.proofs.ListingLemmas.{trees_append, length_after, denotes_met, denotes_later, after_later, has_reference, known_at, has_tree, known_push}
use Rattle.term_pool.proofs.ReadingLemmas.{leaf_of, reference_cell}

-- the measure of the walk: what is yet to be seen of trees as trees, and the steps back
abbrev pub weight : Tree → ℕ
weight (leaf k) = 0
weight (cell a b) = weight a + weight b + 4

abbrev pub weight_above : PassView → Above → ℕ
weight_above p (First whole second) = weight (tree_at p second) + 3
weight_above p (Second whole first) = 1

abbrev pub weight_at : PassView → At → ℕ
weight_at p (Down r) = weight (tree_at p r) + 1
weight_at p (Up part) = 0

-- the tree t is the part of a cell that the walk is at or below, and u the cell
abbrev pub IsUnder : PassView → List Tree → Above → Tree → Tree → Type 0
IsUnder p trees (First whole second) t u = Knows p whole u × ((s : Tree) × Knows p second s × (u ≡ cell t s))
IsUnder p trees (Second whole first) t u = Knows p whole u × ((s : Tree) × Denotes trees first s × (u ≡ cell s t))

-- down from the tree u to t, through cells that are not listed
abbrev pub LeadsTo : PassView → List Tree → Tree → List Above → Tree → Type 0
LeadsTo p trees u [] t = u ≡ t
LeadsTo p trees u (x ∷ way) t = (s : Tree) × IsUnder p trees x s u × (Has trees u → ⊥) × LeadsTo p trees s way t

abbrev pub IsAt : PassView → List Tree → At → Tree → Type 0
IsAt p trees (Down r) t = Knows p r t
IsAt p trees (Up part) t = Denotes trees part t

-- Where the walk is: at a tree below that of r, with a list that has more cells of r than the old one.
pub record IsWalk (p : PassView) (old : List Tree) (listing : Listing) (r : ℕ) (way : List Above) (at : At) : Type 0 where
  pub root : Tree
  pub known : Knows p r root
  pub is_listing : IsListing p listing
  pub adds : AddsCells old (trees_of listing.cells.items) root
  pub on_way :
      (here : Tree) × IsAt p (trees_of listing.cells.items) at here
      × LeadsTo p (trees_of listing.cells.items) root way here

under_depth : (p : PassView) (trees : List Tree) (x : Above) (t u : Tree) → IsUnder p trees x t u → depth t < depth u
under_depth p trees (First whole second) t u h = rw h.1.2 (omega arith)
under_depth p trees (Second whole first) t u h = rw h.1.2 (omega arith)

under_later : (p : PassView) (trees : List Tree) (v : Tree) (x : Above) (t u : Tree) → IsUnder p trees x t u → IsUnder p (trees ++ v ∷ []) x t u
under_later p trees v (First whole second) t u h = h
under_later p trees v (Second whole first) t u h = (h.0, (h.1.0, denotes_later trees v first h.1.0 h.1.1, h.1.2))

leads_part : (p : PassView) (trees : List Tree) (u : Tree) (way : List Above) (t : Tree) → LeadsTo p trees u way t → IsPartOf t u
leads_part p trees u [] t h = rw h (part-refl t)
leads_part p trees u (First whole second ∷ way) t h = rw h.1.1.2 (inr (inl (leads_part p trees h.0 way t h.3)))
leads_part p trees u (Second whole first ∷ way) t h = rw h.1.1.2 (inr (inr (leads_part p trees h.0 way t h.3)))

leads_depth : (p : PassView) (trees : List Tree) (u : Tree) (way : List Above) (t : Tree) → LeadsTo p trees u way t → depth t ≤ depth u
leads_depth p trees u [] t h = rw h (omega arith)
leads_depth p trees u (x ∷ way) t h =
    let less = under_depth p trees x h.0 u h.1 in let rest = leads_depth p trees h.0 way t h.3 in omega arith

leads_push : (p : PassView) (trees : List Tree) (u : Tree) (way : List Above) (x : Above) (s t : Tree) → LeadsTo p trees u way s → IsUnder p trees x t s → (Has trees s → ⊥) → LeadsTo p trees u (way ++ x ∷ []) t
leads_push p trees u [] x s t h k new = rw h (t, k, new, refl)
leads_push p trees u (y ∷ way) x s t h k new = (h.0, h.1, h.2, leads_push p trees h.0 way x s t h.3 k new)

leads_pop : (p : PassView) (trees : List Tree) (u : Tree) (way : List Above) (x : Above) (t : Tree) → LeadsTo p trees u (way ++ x ∷ []) t → (s : Tree) × LeadsTo p trees u way s × IsUnder p trees x t s × (Has trees s → ⊥)
leads_pop p trees u [] x t h = (u, refl, rw h.3 at h.1, h.2)
leads_pop p trees u (y ∷ way) x t h =
    let rest = leads_pop p trees h.0 way x t h.3 in (rest.0, (h.0, h.1, h.2, rest.1), rest.2, rest.3)

-- the cells on the way to t are deeper than t, and so they are not listed when t is
leads_later : (p : PassView) (trees : List Tree) (u : Tree) (way : List Above) (t : Tree) → LeadsTo p trees u way t → LeadsTo p (trees ++ t ∷ []) u way t
leads_later p trees u [] t h = h
leads_later p trees u (x ∷ way) t h =
    (h.0, under_later p trees t x h.0 u h.1, λ k. new (has_split trees t u k), leads_later p trees h.0 way t h.3)
  where
    new : Has trees u ⊎ (u ≡ t) → ⊥
    new (inl k) = h.2 k
    new (inr e) =
        let less = under_depth p trees x h.0 u h.1 in
        let rest = leads_depth p trees h.0 way t h.3 in
        absurd (omega (arith, ap depth e))

part_denotes : (p : PassView) → IsOneToOne p → HasPartsOfTrees p → (listing : Listing) → IsListing p listing → (part : Part) (r : ℕ) (t : Tree) → IsPartAt listing.met.cells.items r part → Knows p r t → Denotes (trees_of listing.cells.items) part t
part_denotes p one parts listing h (Leaf k) r t is known =
    let low = is.1 in record { before = rw is.0 low; is = rw (is.0, leaf_of p one parts r t known low) refl }
part_denotes p one parts listing h (Cell n) r t is known =
    let found = known_at p one _ _ h.known n r t is.0 is.1 known in record { before = found.0; is = found.1 }

before_push : (cells : List ListedCell) (c : ListedCell) → ((k : ℕ) → k < length cells → IsBefore k (cell_at cells k).first × IsBefore k (cell_at cells k).second) → IsBefore (length cells) c.first → IsBefore (length cells) c.second → (k : ℕ) → k < length (cells ++ c ∷ []) → IsBefore k (cell_at (cells ++ c ∷ []) k).first × IsBefore k (cell_at (cells ++ c ∷ []) k).second
before_push cells c h a b k less = go (cases_lt k (length cells))
  where
    go : (k < length cells) ⊎ (length cells ≤ k) → IsBefore k (cell_at (cells ++ c ∷ []) k).first × IsBefore k (cell_at (cells ++ c ∷ []) k).second
    go (inl l) = rw (get_or_append_left cells (c ∷ []) (record { first = Leaf 0; second = Leaf 0 }) k l) (h k l)
    go (inr l) =
        let last : length cells ≡ k = omega (arith, length_push cells c) in
        rw (get_or_push cells c (record { first = Leaf 0; second = Leaf 0 }) k last) (rw last at a, rw last at b)

pub walk_start : (p : PassView) (listing : Listing) (r : ℕ) → IsKnown p r → IsListing p listing → IsWalk p (trees_of listing.cells.items) listing r [] (Down r)
walk_start p listing r root h = record {
  root = root.tree;
  known = root.stands;
  is_listing = h;
  adds = record { kept = λ u k. k; only = λ u k. inl k };
  on_way = (root.tree, root.stands, refl);
}

-- the steps
module _ (p : PassView) (one : IsOneToOne p) (parts : HasPartsOfTrees p) (old : List Tree) (listing : Listing) (r : ℕ) (way : List Above) where
  pub walk_found : (below : ℕ) (part : Part) → IsWalk p old listing r way (Down below) → IsPartAt listing.met.cells.items below part → IsWalk p old listing r way (Up part)
  walk_found below part h is =
      let denotes = part_denotes p one parts listing h.is_listing part below h.on_way.0 is h.on_way.1 in
      record { root = h.root; known = h.known; is_listing = h.is_listing; adds = h.adds; on_way = (h.on_way.0, denotes, h.on_way.2) }

  -- down to the first part of a cell that is not listed
  pub walk_cell : (below : ℕ) → IsWalk p old listing r way (Down below) → 2 ^ 30 ≤ below → IsKnownCell p below
  walk_cell below h high = reference_cell p below parts high (record { tree = h.on_way.0; stands = h.on_way.1 })

  pub walk_down : (below first second : ℕ) → IsWalk p old listing r way (Down below) → 2 ^ 30 ≤ below → (Has listing.met.cells.items below → ⊥) → ((s t : Tree) → Knows p below (cell s t) → Knows p first s) → ((s t : Tree) → Knows p below (cell s t) → Knows p second t) → IsWalk p old listing r (way ++ First below second ∷ []) (Down first)
  walk_down below first second h high unmet is_first is_second =
      let c = walk_cell below h high in
      let whole : Tree = cell c.first c.second in
      let same : h.on_way.0 ≡ whole = one.one_tree below _ whole h.on_way.1 c.stands in
      let new : Has (trees_of listing.cells.items) whole → ⊥ = λ k.
      let found = has_reference p _ _ h.is_listing.known whole k in
      unmet (rw (one.one_reference below found.0 whole c.stands found.2) found.1) in
      let way_down = leads_push p _ h.root way (First below second) whole c.first (rw same at h.on_way.2)
      (c.stands, (c.second, is_second _ _ c.stands, refl)) new in
      record { root = h.root; known = h.known; is_listing = h.is_listing; adds = h.adds; on_way = (c.first, is_first _ _ c.stands, way_down) }

  -- over to the second part of a cell, whose first part is listed
  pub walk_over : (whole second : ℕ) (part : Part) → IsWalk p old listing r (way ++ First whole second ∷ []) (Up part) → IsWalk p old listing r (way ++ Second whole part ∷ []) (Down second)
  walk_over whole second part h =
      let up = leads_pop p _ h.root way (First whole second) h.on_way.0 h.on_way.2 in
      let way_over = leads_push p _ h.root way (Second whole part) up.0 up.2.1.0 up.1 (up.2.0, (h.on_way.0, h.on_way.1, up.2.1.2)) up.3 in
      record { root = h.root; known = h.known; is_listing = h.is_listing; adds = h.adds; on_way = (up.2.1.0, up.2.1.1, way_over) }

  -- up to a cell whose parts are listed
  pub whole_place : (whole : ℕ) (first part : Part) → IsWalk p old listing r (way ++ Second whole first ∷ []) (Up part) → IsPlace listing.met.places whole
  whole_place whole first part h =
      let up = leads_pop p _ h.root way (Second whole first) h.on_way.0 h.on_way.2 in
      record { cell = one.high whole _ _ (rw up.2.1.2 at up.2.0); inside = rw h.is_listing.places (one.bound whole up.0 up.2.0) }

  pub whole_new : (whole : ℕ) (first part : Part) → IsWalk p old listing r (way ++ Second whole first ∷ []) (Up part) → Has listing.met.cells.items whole → ⊥
  whole_new whole first part h k =
      let up = leads_pop p _ h.root way (Second whole first) h.on_way.0 h.on_way.2 in
      up.3 (has_tree p one _ _ h.is_listing.known whole up.0 k up.2.0)

  pub walk_up : (new : Listing) (whole : ℕ) (first part made : Part) → IsWalk p old listing r (way ++ Second whole first ∷ []) (Up part) → IsAdded listing new whole first part made → IsWalk p old new r way (Up made)
  walk_up new whole first part made h a = record {
    root = h.root;
    known = h.known;
    is_listing = record {
      numbering = a.next.numbering;
      places = a.next.places ∙ h.is_listing.places;
      known = rw (more, a.next.cells) (known_push p _ trees whole up.0 h.is_listing.known up.2.0);
      before = rw a.cells (before_push listing.cells.items added h.is_listing.before (rw long at up.2.1.1.before) (rw long at h.on_way.1.before));
      after = rw more (all_push (IsAfterParts (trees ++ up.0 ∷ [])) trees up.0
          (λ t k. after_later trees up.0 t (h.is_listing.after t k))
          (after_later trees up.0 up.0 (rw up.2.1.2 (denotes_met trees first _ up.2.1.1, denotes_met trees part _ h.on_way.1))));
    };
    adds = rw more (record {
      kept = λ u k. has_front trees up.0 u (h.adds.kept u k);
      only = all_push (λ u. Has old u ⊎ IsPartOf u h.root) trees up.0 h.adds.only (inr (leads_part p trees h.root way up.0 up.1));
    });
    on_way = (
      up.0,
      rw (a.is, more, each) (record { before = omega (arith, length_push trees up.0); is = get_or_push trees up.0 (leaf 0) _ refl }),
      rw more (leads_later p trees h.root way up.0 up.1),
    );
  }
    where
      trees : List Tree
      trees = trees_of listing.cells.items

      added : ListedCell
      added = record { first = first; second = part }

      up : (s : Tree) × LeadsTo p trees h.root way s × IsUnder p trees (Second whole first) h.on_way.0 s × (Has trees s → ⊥)
      up = leads_pop p trees h.root way (Second whole first) h.on_way.0 h.on_way.2

      each : length listing.met.cells.items ≡ length trees
      each = sym h.is_listing.known.each

      long : length trees ≡ length listing.cells.items
      long = let all = length_after [] listing.cells.items in omega arith

      more : trees_of new.cells.items ≡ trees ++ up.0 ∷ []
      more = rw (a.cells, up.2.1.2, ← up.2.1.1.is, ← h.on_way.1.is) (trees_append [] listing.cells.items (added ∷ []))

pub down_smaller : (p : PassView) (way : List Above) → IsOneToOne p → HasPartsOfTrees p → HasTreesWithin p → (below first second : ℕ) → IsKnownCell p below → ((s t : Tree) → Knows p below (cell s t) → Knows p first s) → ((s t : Tree) → Knows p below (cell s t) → Knows p second t) → sum_by (weight_above p) (way ++ First below second ∷ []) + (weight (tree_at p first) + 1) < sum_by (weight_above p) way + (weight (tree_at p below) + 1)
down_smaller p way one parts within below first second c is_first is_second =
    let is : (n : ℕ) (t : Tree) → Knows p n t → tree_at p n ≡ t = λ n t known. within (2 ^ 30 + p.places) n t known (depth-bound p one parts n t known) in
    rw (sum_by_push (weight_above p) way (First below second), is below _ c.stands, is first _ (is_first _ _ c.stands), is second _ (is_second _ _ c.stands))
    (omega arith)
