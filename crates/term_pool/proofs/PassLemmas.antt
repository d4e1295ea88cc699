-- A pass that is unchanged is the same.
use Rattle.std.proofs.Common.{◌≡◌, ℕ, ◌+◌, ◌<◌, ◌≤◌, ◌^◌, ◌∙◌, ap, arith, suc}
use Rattle.pair_pool.specs.Trees.{Tree, leaf, cell}
use Rattle.pair_pool.specs.Views.{PassView, Knows, IsOneToOne, HasPartsOfTrees, HasListsInOrder}
use Rattle.term_pool.specs.TreeLists.{list_length, list_item, HasItem}
use Rattle.term_pool.specs.Views.{IsKnownCell}
use Rattle.term_pool.proofs.Depth.{depth-bound, list_length-depth, is_cell}

-- the items of a list that are left to count, where so many are counted
pub record IsCounted (p : PassView) (list rest count : ℕ) : Type 0 where
  pub tree : Tree
  pub known : Knows p list tree
  pub left : Tree
  pub left_known : Knows p rest left
  pub sum : count + list_length left ≡ list_length tree

pub counted_below : (p : PassView) (list rest count : ℕ) → IsOneToOne p → HasPartsOfTrees p → HasListsInOrder p → IsCounted p list rest count → count < 2 ^ 31
counted_below p list rest count one parts order h =
    let d = depth-bound p one parts list h.tree h.known in
    let l = list_length-depth h.tree in
    let s = order.size in
    let e = h.sum in
    omega arith

pub count_more : (p : PassView) (list rest count next : ℕ) → HasPartsOfTrees p → 2 ^ 30 ≤ rest → IsCounted p list rest count → ((s t : Tree) → Knows p rest (cell s t) → Knows p next t) → IsCounted p list next (count + 1)
count_more p list rest count next parts above h second = go h.left h.left_known h.sum
  where
    go : (left : Tree) → Knows p rest left → count + list_length left ≡ list_length h.tree → IsCounted p list next (count + 1)
    go (leaf k) known e = let n = parts.leaf_number rest k known in absurd (omega (arith, n.0, n.1))
    go (cell a b) known e = record { tree = h.tree; known = h.known; left = b; left_known = second a b known; sum = omega arith }

pub counted_cell : (p : PassView) (list rest count : ℕ) → HasPartsOfTrees p → 2 ^ 30 ≤ rest → IsCounted p list rest count → IsKnownCell p rest
counted_cell p list rest count parts above h = is_cell p parts rest h.left h.left_known above

pub counted_all : (p : PassView) (list rest count : ℕ) → IsOneToOne p → rest < 2 ^ 30 → IsCounted p list rest count → (t : Tree) → Knows p list t → count ≡ list_length t
counted_all p list rest count one low h t known =
    let same : t ≡ h.tree = one.one_tree list t h.tree known h.known in go h.left h.left_known h.sum (ap list_length same)
  where
    go : (left : Tree) → Knows p rest left → count + list_length left ≡ list_length h.tree → list_length t ≡ list_length h.tree → count ≡ list_length t
    go (leaf k) k2 e f = omega arith
    go (cell a b) k2 e f = let high = one.high rest a b k2 in absurd (omega arith)

-- the part of a list from place i on, of which place n is wanted
pub record IsAfter (p : PassView) (list rest i n : ℕ) : Type 0 where
  pub tree : Tree
  pub known : Knows p list tree
  pub left : Tree
  pub left_known : Knows p rest left
  pub there : i ≤ n
  pub inside : n < i + list_length left
  pub same : (k : ℕ) → list_item tree (i + k) ≡ list_item left k

pub after_start : (p : PassView) (list n : ℕ) → HasItem p list n → IsAfter p list list 0 n
after_start p list n h = record {
  tree = h.tree;
  known = h.stands;
  left = h.tree;
  left_known = h.stands;
  there = omega arith;
  inside = let t = h.there in omega arith;
  same = λ k. let e : 0 + k ≡ k = omega arith in ap (list_item h.tree) e;
}

pub after_cell : (p : PassView) (list rest i n : ℕ) → IsAfter p list rest i n → i ≤ n → IsKnownCell p rest
after_cell p list rest i n h le = go h.left h.left_known h.inside
  where
    go : (left : Tree) → Knows p rest left → n < i + list_length left → IsKnownCell p rest
    go (leaf k) known e = absurd (omega arith)
    go (cell a b) known e = record { first = a; second = b; stands = known }

pub after_next : (p : PassView) (list rest i n next : ℕ) → IsAfter p list rest i n → i < n → ((s t : Tree) → Knows p rest (cell s t) → Knows p next t) → IsAfter p list next (i + 1) n
after_next p list rest i n next h less second = go h.left h.left_known h.inside h.same
  where
    go : (left : Tree) → Knows p rest left → n < i + list_length left → ((k : ℕ) → list_item h.tree (i + k) ≡ list_item left k) → IsAfter p list next (i + 1) n
    go (leaf k) known e same = absurd (omega arith)
    go (cell a b) known e same = record {
      tree = h.tree;
      known = h.known;
      left = b;
      left_known = second a b known;
      there = omega arith;
      inside = omega arith;
      same = λ k. let f : i + 1 + k ≡ i + suc k = omega arith in ap (list_item h.tree) f ∙ same (suc k);
    }

pub after_item : (p : PassView) (list rest i n found : ℕ) → IsOneToOne p → n ≤ i → IsAfter p list rest i n → ((s t : Tree) → Knows p rest (cell s t) → Knows p found s) → (t : Tree) → Knows p list t → Knows p found (list_item t n)
after_item p list rest i n found one past h first t known =
    let same : t ≡ h.tree = one.one_tree list t h.tree known h.known in
    rw same (go h.left h.left_known h.inside h.same)
  where
    go : (left : Tree) → Knows p rest left → n < i + list_length left → ((k : ℕ) → list_item h.tree (i + k) ≡ list_item left k) → Knows p found (list_item h.tree n)
    go (leaf k) known2 e same = let le = h.there in absurd (omega arith)
    go (cell a b) known2 e same =
        let le = h.there in
        let f : n ≡ i + 0 = omega arith in
        let g : list_item h.tree n ≡ a = ap (list_item h.tree) f ∙ same 0 in
        rw g (first a b known2)
