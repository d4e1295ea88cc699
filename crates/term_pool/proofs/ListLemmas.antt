-- Lists of references that are read off a tree, item by item.
use Rattle.std.proofs.Common.{◌≡◌, ℕ, ◌+◌, ◌<◌, ◌≤◌, ◌^◌, refl, sym, ◌∙◌, ap, arith, List, [], ◌∷◌, ◌++◌, length, append_assoc, length-append}
use Rattle.pair_pool.specs.Trees.{Tree, leaf, cell}
use Rattle.pair_pool.specs.Views.{PassView, Knows, IsKnown, IsOneToOne, HasPartsOfTrees, HasListsInOrder}
use Rattle.term_model.proofs.Zips.{zip_length, zip_push}
use Rattle.term_pool.specs.Trees.{pair_leaves}
use Rattle.term_pool.specs.TreeLists.{list_length, tree_items, AreLeafPairs, pair_trees, AddsItems, IsPairList, AddsPairs}
use Rattle.term_pool.specs.Views.{KnowsAll, IsKnownCell}
use Rattle.term_pool.proofs.Depth.{depth-bound, list_length-depth, is_cell}

-- one more behind
behind : {X : Type 0} → (old new next : List X) (xs : List X) (x : X) → new ≡ old ++ xs → next ≡ new ++ x ∷ [] → next ≡ old ++ (xs ++ x ∷ [])
behind old new next xs x e f = f ∙ ap (λ ys. ys ++ x ∷ []) e ∙ append_assoc old xs (x ∷ [])

items-length : (t : Tree) → length (tree_items t) ≡ list_length t
items-length (leaf k) = refl
items-length (cell a b) = let e = items-length b in omega arith

-- from the list these items have been added, and `rest` is left
pub record IsCollected (p : PassView) (list rest : ℕ) (old new : List ℕ) : Type 0 where
  items : List ℕ
  added : new ≡ old ++ items
  tree : Tree
  known : Knows p list tree
  front : List Tree
  left : Tree
  left_known : Knows p rest left
  split : tree_items tree ≡ front ++ tree_items left
  front_known : KnowsAll p items front

pub collect_start : (p : PassView) (list : ℕ) (old : List ℕ) → IsKnown p list → IsCollected p list list old old
collect_start p list old h = record {
  items = [];
  added = sym (append_nil old);
  tree = h.tree;
  known = h.stands;
  front = [];
  left = h.tree;
  left_known = h.stands;
  split = refl;
  front_known = tt;
}
  where
    append_nil : (xs : List ℕ) → xs ++ [] ≡ xs
    append_nil [] = refl
    append_nil (x ∷ xs) = ap (λ ys. x ∷ ys) (append_nil xs)

pub collected_cell : (p : PassView) (list rest : ℕ) (old new : List ℕ) → HasPartsOfTrees p → 2 ^ 30 ≤ rest → IsCollected p list rest old new → IsKnownCell p rest
collected_cell p list rest old new parts above h = is_cell p parts rest h.left h.left_known above

pub collected_below : (p : PassView) (list rest : ℕ) (old new : List ℕ) → IsOneToOne p → HasPartsOfTrees p → HasListsInOrder p → IsCollected p list rest old new → length new < length old + 2 ^ 31
collected_below p list rest old new one parts order h =
    let d = depth-bound p one parts list h.tree h.known in
    let l = list_length-depth h.tree in
    let s = order.size in
    let e = zip_length (Knows p) h.items h.front h.front_known in
    let i = items-length h.tree in
    let f = ap length h.split ∙ length-append h.front (tree_items h.left) in
    let g = ap length h.added ∙ length-append old h.items in
    omega arith

pub collected_next : (p : PassView) (list rest first next : ℕ) (old new more : List ℕ) → HasPartsOfTrees p → 2 ^ 30 ≤ rest → IsCollected p list rest old new → ((s t : Tree) → Knows p rest (cell s t) → Knows p first s) → ((s t : Tree) → Knows p rest (cell s t) → Knows p next t) → more ≡ new ++ first ∷ [] → IsCollected p list next old more
collected_next p list rest first next old new more parts above h is_first is_next pushed = go h.left h.left_known h.split
  where
    go : (left : Tree) → Knows p rest left → tree_items h.tree ≡ h.front ++ tree_items left → IsCollected p list next old more
    go (leaf k) known e = let n = parts.leaf_number rest k known in absurd (omega (arith, n.0, n.1))
    go (cell a b) known e = record {
      items = h.items ++ first ∷ [];
      added = behind old new more h.items first h.added pushed;
      tree = h.tree;
      known = h.known;
      front = h.front ++ a ∷ [];
      left = b;
      left_known = is_next a b known;
      split = e ∙ sym (append_assoc h.front (a ∷ []) (tree_items b));
      front_known = zip_push (Knows p) h.items h.front first a h.front_known (is_first a b known);
    }

no_more : (ts : List Tree) → ts ++ [] ≡ ts
no_more [] = refl
no_more (t ∷ ts) = ap (λ ys. t ∷ ys) (no_more ts)

pub collected_all : (p : PassView) (list rest : ℕ) (old new : List ℕ) → IsOneToOne p → rest < 2 ^ 30 → IsCollected p list rest old new → AddsItems p list old new
collected_all p list rest old new one low h = record {
  items = h.items;
  added = h.added;
  known = λ t known.
      let same : t ≡ h.tree = one.one_tree list t h.tree known h.known in
      rw (same, whole h.left h.left_known h.split) h.front_known;
}
  where
    whole : (left : Tree) → Knows p rest left → tree_items h.tree ≡ h.front ++ tree_items left → tree_items h.tree ≡ h.front
    whole (leaf k) known e = e ∙ no_more h.front
    whole (cell a b) known e = let high = one.high rest a b known in absurd (omega arith)

-- the same of a list of pairs
pub record ArePairsCollected (p : PassView) (list rest : ℕ) (old_leaves new_leaves old new : List ℕ) : Type 0 where
  leaves : List ℕ
  leaves_added : new_leaves ≡ old_leaves ++ leaves
  items : List ℕ
  added : new ≡ old ++ items
  tree : Tree
  known : Knows p list tree
  front : List Tree
  left : Tree
  left_known : Knows p rest left
  left_pairs : AreLeafPairs left
  leaves_split : pair_leaves tree ≡ leaves ++ pair_leaves left
  split : pair_trees tree ≡ front ++ pair_trees left
  front_known : KnowsAll p items front

pub pairs_start : (p : PassView) (list : ℕ) (old_leaves old : List ℕ) → IsPairList p list → ArePairsCollected p list list old_leaves old_leaves old old
pairs_start p list old_leaves old h = record {
  leaves = [];
  leaves_added = sym (append_nil old_leaves);
  items = [];
  added = sym (append_nil old);
  tree = h.tree;
  known = h.stands;
  front = [];
  left = h.tree;
  left_known = h.stands;
  left_pairs = h.pairs;
  leaves_split = refl;
  split = refl;
  front_known = tt;
}
  where
    append_nil : (xs : List ℕ) → xs ++ [] ≡ xs
    append_nil [] = refl
    append_nil (x ∷ xs) = ap (λ ys. x ∷ ys) (append_nil xs)

pub pairs_cell : (p : PassView) (list rest : ℕ) (old_leaves new_leaves old new : List ℕ) → HasPartsOfTrees p → 2 ^ 30 ≤ rest → ArePairsCollected p list rest old_leaves new_leaves old new → IsKnownCell p rest
pairs_cell p list rest old_leaves new_leaves old new parts above h = is_cell p parts rest h.left h.left_known above

pub pair_cell : (p : PassView) (list rest first : ℕ) (old_leaves new_leaves old new : List ℕ) → HasPartsOfTrees p → 2 ^ 30 ≤ rest → ArePairsCollected p list rest old_leaves new_leaves old new → ((s t : Tree) → Knows p rest (cell s t) → Knows p first s) → IsKnownCell p first
pair_cell p list rest first old_leaves new_leaves old new parts above h is_first = go h.left h.left_known h.left_pairs
  where
    go : (left : Tree) → Knows p rest left → AreLeafPairs left → IsKnownCell p first
    go (leaf k) known e = let n = parts.leaf_number rest k known in absurd (omega (arith, n.0, n.1))
    go (cell (leaf j) b) known e = absurd e
    go (cell (cell (leaf k) t) b) known e = record { first = leaf k; second = t; stands = is_first (cell (leaf k) t) b known }
    go (cell (cell (cell c d) t) b) known e = absurd e

pairs-length : (t : Tree) → length (pair_trees t) ≤ list_length t
pairs-length (leaf k) = omega arith
pairs-length (cell (leaf j) b) = omega arith
pairs-length (cell (cell c t) b) = let e = pairs-length b in omega arith

pub pairs_below : (p : PassView) (list rest : ℕ) (old_leaves new_leaves old new : List ℕ) → IsOneToOne p → HasPartsOfTrees p → HasListsInOrder p → ArePairsCollected p list rest old_leaves new_leaves old new → length new < length old + 2 ^ 31
pairs_below p list rest old_leaves new_leaves old new one parts order h =
    let d = depth-bound p one parts list h.tree h.known in
    let l = list_length-depth h.tree in
    let s = order.size in
    let e = zip_length (Knows p) h.items h.front h.front_known in
    let i = pairs-length h.tree in
    let f = ap length h.split ∙ length-append h.front (pair_trees h.left) in
    let g = ap length h.added ∙ length-append old h.items in
    omega arith

pub pairs_next : (p : PassView) (list rest first next name number second : ℕ) (old_leaves new_leaves more_leaves old new more : List ℕ) → HasPartsOfTrees p → 2 ^ 30 ≤ rest → ArePairsCollected p list rest old_leaves new_leaves old new → ((s t : Tree) → Knows p rest (cell s t) → Knows p first s) → ((s t : Tree) → Knows p rest (cell s t) → Knows p next t) → ((s t : Tree) → Knows p first (cell s t) → Knows p name s) → ((s t : Tree) → Knows p first (cell s t) → Knows p second t) → number ≡ name → more_leaves ≡ new_leaves ++ number ∷ [] → more ≡ new ++ second ∷ [] → ArePairsCollected p list next old_leaves more_leaves old more
pairs_next p list rest first next name number second old_leaves new_leaves more_leaves old new more parts above h is_first is_next is_name is_second is_number leaves_pushed pushed =
    go h.left h.left_known h.left_pairs h.leaves_split h.split
  where
    go : (left : Tree) → Knows p rest left → AreLeafPairs left → pair_leaves h.tree ≡ h.leaves ++ pair_leaves left → pair_trees h.tree ≡ h.front ++ pair_trees left → ArePairsCollected p list next old_leaves more_leaves old more
    go (leaf k) known e f g = let n = parts.leaf_number rest k known in absurd (omega (arith, n.0, n.1))
    go (cell (leaf j) b) known e f g = absurd e
    go (cell (cell (cell c d) t) b) known e f g = absurd e
    go (cell (cell (leaf k) t) b) known e f g =
        let pair = is_first (cell (leaf k) t) b known in
        let n = parts.leaf_number name k (is_name (leaf k) t pair) in
        let same : k ≡ number = sym (is_number ∙ n.0) in
        record {
          leaves = h.leaves ++ number ∷ [];
          leaves_added = behind old_leaves new_leaves more_leaves h.leaves number h.leaves_added leaves_pushed;
          items = h.items ++ second ∷ [];
          added = behind old new more h.items second h.added pushed;
          tree = h.tree;
          known = h.known;
          front = h.front ++ t ∷ [];
          left = b;
          left_known = is_next (cell (leaf k) t) b known;
          left_pairs = e;
          leaves_split = f ∙ ap (λ (m : ℕ). h.leaves ++ (m ∷ pair_leaves b)) same ∙ sym (append_assoc h.leaves (number ∷ []) (pair_leaves b));
          split = g ∙ sym (append_assoc h.front (t ∷ []) (pair_trees b));
          front_known = zip_push (Knows p) h.items h.front second t h.front_known (is_second (leaf k) t pair);
        }

pub pairs_all : (p : PassView) (list rest : ℕ) (old_leaves new_leaves old new : List ℕ) → IsOneToOne p → rest < 2 ^ 30 → ArePairsCollected p list rest old_leaves new_leaves old new → AddsPairs p list old_leaves new_leaves old new
pairs_all p list rest old_leaves new_leaves old new one low h = record {
  leaves = h.leaves;
  leaves_added = h.leaves_added;
  items = h.items;
  added = h.added;
  leaves_are = λ t known.
      let same : t ≡ h.tree = one.one_tree list t h.tree known h.known in
      rw same (sym (whole_leaves h.left h.left_known h.leaves_split));
  known = λ t known.
      let same : t ≡ h.tree = one.one_tree list t h.tree known h.known in
      rw (same, whole h.left h.left_known h.split) h.front_known;
}
  where
    no_more_leaves : (xs : List ℕ) → xs ++ [] ≡ xs
    no_more_leaves [] = refl
    no_more_leaves (x ∷ xs) = ap (λ ys. x ∷ ys) (no_more_leaves xs)

    whole : (left : Tree) → Knows p rest left → pair_trees h.tree ≡ h.front ++ pair_trees left → pair_trees h.tree ≡ h.front
    whole (leaf k) known e = e ∙ no_more h.front
    whole (cell a b) known e = let high = one.high rest a b known in absurd (omega arith)

    whole_leaves : (left : Tree) → Knows p rest left → pair_leaves h.tree ≡ h.leaves ++ pair_leaves left → pair_leaves h.tree ≡ h.leaves
    whole_leaves (leaf k) known e = e ∙ no_more_leaves h.leaves
    whole_leaves (cell a b) known e = let high = one.high rest a b known in absurd (omega arith)
