-- Cells in a list: their trees, and that these are just the cells of what has been listed.
use Rattle.std.proofs.Common.{◌≡◌, ℕ, ◌+◌, ◌<◌, ◌≤◌, ◌⊎◌, inl, inr, refl, sym, ◌∙◌, arith, List, [], ◌∷◌, ◌++◌, length, get_or, take, drop}
use Rattle.std.specs.List.{All}
use Rattle.std.proofs.lemmas.Bool.{cases_lt}
use Rattle.std.proofs.lemmas.List.{get_or_append_left, get_or_push, length_push, take_more, length-take-le, take-append-drop}
use Rattle.std.proofs.lemmas.List.Elements.{All-get_or}
use Rattle.pair_pool.specs.Trees.{Tree, leaf, cell}
use Rattle.pair_pool.specs.Views.{PassView, Knows, IsKnown, IsOneToOne}
use Rattle.term_pool.specs.declared.listing.Part.{Part}
use Rattle.term_pool.specs.declared.listing.Part.TheVariants.{Leaf, Cell}
use Rattle.term_pool.specs.declared.listing.ListedCell.{ListedCell}
use Rattle.term_pool.specs.declared.listing.Listing.{Listing}
use Rattle.term_pool.specs.Trees.{IsPartOf, IsCellTree}
use Rattle.term_pool.specs.Views.{KnowsAll}
use Rattle.term_pool.specs.CellCounts.{Has, IsPartOfAny, CountsCells}
use Rattle.term_pool.specs.Listings.{listed_tree, trees_after, trees_of, cell_at, IsBefore, IsMet, IsAfterParts, AreKnown, Denotes, IsListing, AddsCells}
use Rattle.term_pool.proofs.Members.{has_front, has_split, has_place, place_of, apart_from_distinct}
use Rattle.term_pool.proofs.NumberingLemmas.{cells_distinct}

-- the trees of a list
pub trees_append : (before : List Tree) (xs ys : List ListedCell) → trees_after before (xs ++ ys) ≡ trees_after (trees_after before xs) ys
trees_append before [] ys = refl
trees_append before (c ∷ xs) ys = trees_append (before ++ listed_tree before c ∷ []) xs ys

has_after : (before : List Tree) (cells : List ListedCell) (t : Tree) → Has before t → Has (trees_after before cells) t
has_after before [] t h = h
has_after before (c ∷ cells) t h = has_after (before ++ listed_tree before c ∷ []) cells t (has_front before (listed_tree before c) t h)

pub has_all : (cells : List ListedCell) (n : ℕ) (t : Tree) → Has (trees_of (take n cells)) t → Has (trees_of cells) t
has_all cells n t h =
    rw (← take-append-drop n cells, trees_append [] (take n cells) (drop n cells)) (has_after (trees_of (take n cells)) (drop n cells) t h)

pub length_after : (before : List Tree) (cells : List ListedCell) → length (trees_after before cells) ≡ length before + length cells
length_after before [] = omega arith
length_after before (c ∷ cells) =
    let rest = length_after (before ++ listed_tree before c ∷ []) cells in
    omega (arith, length_push before (listed_tree before c))

-- what a part is
pub denotes_met : (trees : List Tree) (p : Part) (t : Tree) → Denotes trees p t → IsMet trees t
denotes_met trees (Leaf k) t h is = absurd (rw (← h.is) at is)
denotes_met trees (Cell n) t h is = rw (← h.is) (has_place trees n (leaf 0) h.before)

pub denotes_later : (trees : List Tree) (u : Tree) (p : Part) (t : Tree) → Denotes trees p t → Denotes (trees ++ u ∷ []) p t
denotes_later trees u (Leaf k) t h = record { before = h.before; is = h.is }
denotes_later trees u (Cell n) t h =
    record { before = omega (arith, length_push trees u); is = get_or_append_left trees (u ∷ []) (leaf 0) n h.before ∙ h.is }

pub after_later : (trees : List Tree) (u t : Tree) → IsAfterParts trees t → IsAfterParts (trees ++ u ∷ []) t
after_later trees u (leaf k) h = h
after_later trees u (cell a b) h = (λ is. has_front trees u a (h.0 is), λ is. has_front trees u b (h.1 is))

-- references and their trees
pub has_reference : (p : PassView) (xs : List ℕ) (ts : List Tree) → AreKnown p xs ts → (t : Tree) → Has ts t → (x : ℕ) × Has xs x × Knows p x t
has_reference p xs ts h t k =
    let found = place_of ts (leaf 0) t k in
    let less : found.0 < length xs = rw h.each at found.1 in
    (get_or xs found.0 0, has_place xs found.0 0 less, rw found.2 at (h.known found.0 less))

pub known_at : (p : PassView) → IsOneToOne p → (xs : List ℕ) (ts : List Tree) → AreKnown p xs ts → (n r : ℕ) (t : Tree) → n < length xs → get_or xs n 0 ≡ r → Knows p r t → (n < length ts) × (get_or ts n (leaf 0) ≡ t)
known_at p one xs ts h n r t less is known =
    (rw h.each less, one.one_tree r _ t (rw is at (h.known n less)) known)

pub has_tree : (p : PassView) → IsOneToOne p → (xs : List ℕ) (ts : List Tree) → AreKnown p xs ts → (x : ℕ) (t : Tree) → Has xs x → Knows p x t → Has ts t
has_tree p one xs ts h x t k known =
    let found = place_of xs 0 x k in
    let there = known_at p one xs ts h found.0 x t found.1 found.2 known in
    rw (← there.1) (has_place ts found.0 (leaf 0) there.0)

pub known_push : (p : PassView) (xs : List ℕ) (ts : List Tree) (r : ℕ) (t : Tree) → AreKnown p xs ts → Knows p r t → AreKnown p (xs ++ r ∷ []) (ts ++ t ∷ [])
known_push p xs ts r t h known = record {
  each = omega (arith, length_push xs r, length_push ts t);
  known = λ k less. go k less (cases_lt k (length xs));
}
  where
    go : (k : ℕ) → k < length (xs ++ r ∷ []) → (k < length xs) ⊎ (length xs ≤ k) → Knows p (get_or (xs ++ r ∷ []) k 0) (get_or (ts ++ t ∷ []) k (leaf 0))
    go k less (inl l) =
        rw (get_or_append_left xs (r ∷ []) 0 k l, get_or_append_left ts (t ∷ []) (leaf 0) k (rw h.each l)) (h.known k l)
    go k less (inr l) =
        let last : length xs ≡ k = omega (arith, length_push xs r) in
        rw (get_or_push xs r 0 k last, get_or_push ts t (leaf 0) k (h.each ∙ last)) known

pub listing_long : (p : PassView) (listing : Listing) → IsListing p listing → length listing.cells.items ≡ length listing.met.cells.items
listing_long p listing h =
    let all = length_after [] listing.cells.items in omega arith

-- the cell at place i of a list: its parts stand before it, and its tree behind the trees of the cells before it
pub record StandsAt (cells : List ListedCell) (i : ℕ) : Type 0 where
  pub first : IsBefore (length (trees_of (take i cells))) (cell_at cells i).first
  pub second : IsBefore (length (trees_of (take i cells))) (cell_at cells i).second
  pub more : trees_of (take (i + 1) cells) ≡ trees_of (take i cells) ++ listed_tree (trees_of (take i cells)) (cell_at cells i) ∷ []

pub stands_at : (p : PassView) (listing : Listing) (cells : List ListedCell) (i : ℕ) → IsListing p listing → cells ≡ listing.cells.items → i < length cells → StandsAt cells i
stands_at p listing cells i is whole less =
    let before = rw (← whole) at is.before in
    let all = length_after [] (take i cells) in
    let long : length (trees_of (take i cells)) ≡ i = omega (arith, length-take-le i cells (omega arith)) in
    record {
      first = rw long (before i less).0;
      second = rw long (before i less).1;
      more = rw (take_more cells i (record { first = Leaf 0; second = Leaf 0 }) less)
          (trees_append [] (take i cells) (cell_at cells i ∷ []));
    }

-- Where a count is: what is listed is below the references, and those that the loop has passed are met.
pub record IsCounting (p : PassView) (list passed : List ℕ) (listing : Listing) : Type 0 where
  pub is_listing : IsListing p listing
  pub below : (t : Tree) → Has (trees_of listing.cells.items) t → (trees : List Tree) → KnowsAll p list trees → IsPartOfAny t trees
  pub met : (x : ℕ) (t : Tree) → Has passed x → Knows p x t → IsMet (trees_of listing.cells.items) t

pub count_start : (p : PassView) (list : List ℕ) (listing : Listing) → IsListing p listing → listing.cells.items ≡ [] → IsCounting p list [] listing
count_start p list listing h e = record { is_listing = h; below = rw e (λ t k. absurd k); met = λ x t k. absurd k }

root_below : (p : PassView) → IsOneToOne p → (list : List ℕ) (r : ℕ) → Has list r → (t u : Tree) → Knows p r t → IsPartOf u t → (trees : List Tree) → KnowsAll p list trees → IsPartOfAny u trees
root_below p one [] r h t u known part trees all = absurd h
root_below p one (x ∷ list) r h t u known part [] all = absurd all
root_below p one (x ∷ list) r (inl e) t u known part (s ∷ trees) all =
    let same : t ≡ s = one.one_tree x t s (rw e at known) all.0 in inl (rw same at part)
root_below p one (x ∷ list) r (inr h) t u known part (s ∷ trees) all = inr (root_below p one list r h t u known part trees all.1)

pub count_step : (p : PassView) → IsOneToOne p → (list : List ℕ) (i r : ℕ) → i < length list → r ≡ get_or list i r → All (IsKnown p) list → (old new : Listing) (part : Part) → IsCounting p list (take i list) old → IsListing p new → ((t : Tree) → Knows p r t → Denotes (trees_of new.cells.items) part t) → ((t : Tree) → Knows p r t → AddsCells (trees_of old.cells.items) (trees_of new.cells.items) t) → IsCounting p list (take (i + 1) list) new
count_step p one list i r less at all old new part h listing denotes adds = record {
  is_listing = listing;
  below = λ t k. under t ((adds root.tree root.stands).only t k);
  met = λ x t k known is. reached x t known is (has_split (take i list) r x (rw (take_more list i r less, ← at) at k));
}
  where
    root : IsKnown p r
    root = rw at (All-get_or (IsKnown p) list i r less all)

    under : (t : Tree) → Has (trees_of old.cells.items) t ⊎ IsPartOf t root.tree → (trees : List Tree) → KnowsAll p list trees → IsPartOfAny t trees
    under t (inl k) = h.below t k
    under t (inr k) = root_below p one list r (rw at (has_place list i r less)) root.tree t root.stands k

    reached : (x : ℕ) (t : Tree) → Knows p x t → IsCellTree t → Has (take i list) x ⊎ (x ≡ r) → Has (trees_of new.cells.items) t
    reached x t known is (inl k) = (adds root.tree root.stands).kept t (h.met x t k known is)
    reached x t known is (inr e) = denotes_met _ part t (denotes t (rw e at known)) is

-- from a tree that is met, each cell below it is met
below_met : (trees : List Tree) → ((t : Tree) → Has trees t → IsAfterParts trees t) → (u t : Tree) → IsMet trees u → IsCellTree t → IsPartOf t u → Has trees t
below_met trees h (leaf k) t m is e = absurd (rw e at is)
below_met trees h (cell a b) t m is (inl e) = rw e (m tt)
below_met trees h (cell a b) t m is (inr (inl k)) = below_met trees h a t (h (cell a b) (m tt)).0 is k
below_met trees h (cell a b) t m is (inr (inr k)) = below_met trees h b t (h (cell a b) (m tt)).1 is k

any_met : (p : PassView) (all : List Tree) → ((t : Tree) → Has all t → IsAfterParts all t) → (xs : List ℕ) (ts : List Tree) → KnowsAll p xs ts → ((x : ℕ) (t : Tree) → Has xs x → Knows p x t → IsMet all t) → (t : Tree) → IsCellTree t → IsPartOfAny t ts → Has all t
any_met p all h xs [] known met t is part = absurd part
any_met p all h [] (u ∷ ts) known met t is part = absurd known
any_met p all h (x ∷ xs) (u ∷ ts) known met t is (inl part) = below_met all h u t (met x u (inl refl) known.0) is part
any_met p all h (x ∷ xs) (u ∷ ts) known met t is (inr part) =
    any_met p all h xs ts known.1 (λ y v k. met y v (inr k)) t is part

pub after_cell : (trees : List Tree) (t : Tree) → IsAfterParts trees t → IsCellTree t
after_cell trees (leaf k) h = h
after_cell trees (cell a b) h = tt

pub counted : (p : PassView) → IsOneToOne p → (list : List ℕ) (listing : Listing) (n : ℕ) → IsCounting p list list listing → n ≡ length listing.cells.items → (trees : List Tree) → KnowsAll p list trees → CountsCells trees n
counted p one list listing n h is trees known = record {
  cells = all;
  apart = apart_from_distinct (leaf 0) all distinct;
  sound = λ t k. (after_cell all t (l.after t k), h.below t k trees known);
  complete = any_met p all l.after list trees known h.met;
  count = sym (is ∙ listing_long p listing l ∙ sym l.known.each);
}
  where
    l : IsListing p listing
    l = h.is_listing

    all : List Tree
    all = trees_of listing.cells.items

    distinct : (i j : ℕ) → i < length all → j < length all → get_or all i (leaf 0) ≡ get_or all j (leaf 0) → i ≡ j
    distinct i j a b e =
        let first = rw l.known.each at a in
        let second = rw l.known.each at b in
        cells_distinct listing.met l.numbering i j first second
        (one.one_reference _ _ (get_or all j (leaf 0)) (rw e at (l.known.known i first)) (l.known.known j second))
