-- Cited by crates above. A known tree is no deeper than there are references: on a way down no cell comes twice.
use Rattle.std.proofs.Common.{◌≡◌, ℕ, suc, ◌+◌, ◌^◌, ◌<◌, ◌≤◌, ◌⊎◌, inl, inr, max, refl, ◌∙◌, ap, arith, List, [], ◌∷◌, length, Bool, true, false, eqb}
use Rattle.std.specs.List.{IsDistinct, AllByRecursion, list_any}
use Rattle.std.proofs.lemmas.Map.Steps.{length-le_from_distinct_below}
use Rattle.std.proofs.lemmas.Bool.{eqb-true}
use Rattle.pair_pool.specs.Trees.{Tree, leaf, cell}
use Rattle.pair_pool.specs.Views.{PassView, Knows, IsOneToOne, HasPartsOfTrees}
use Rattle.term_pool.specs.Trees.{depth}
use Rattle.term_pool.specs.TreeLists.{list_length}
use Rattle.term_pool.specs.Views.{IsKnownCell}

-- a reference that is known to be above the leaves is that of a cell
pub is_cell : (p : PassView) → HasPartsOfTrees p → (r : ℕ) (t : Tree) → Knows p r t → 2 ^ 30 ≤ r → IsKnownCell p r
is_cell p h r (leaf k) known above = let e = h.leaf_number r k known in absurd (omega (arith, e.0, e.1))
is_cell p h r (cell a b) known above = record { first = a; second = b; stands = known }

-- the reference of a cell no deeper than n
record IsWithin (p : PassView) (n r : ℕ) : Type 0 where
  tree : Tree
  known : Knows p r tree
  within : depth tree ≤ n

record IsWay (p : PassView) (t : Tree) (way : List ℕ) : Type 0 where
  long : length way ≡ depth t
  distinct : IsDistinct eqb way
  within : AllByRecursion (IsWithin p (depth t)) way

all_within : (p : PassView) (m n : ℕ) (xs : List ℕ) → m ≤ n → AllByRecursion (IsWithin p m) xs → AllByRecursion (IsWithin p n) xs
all_within p m n [] le h = tt
all_within p m n (x ∷ xs) le h =
    (record { tree = h.0.tree; known = h.0.known; within = let w = h.0.within in omega arith }, all_within p m n xs le h.1)

differs : (p : PassView) → IsOneToOne p → (r : ℕ) (t : Tree) → Knows p r t → (n : ℕ) → n < depth t → (xs : List ℕ) → AllByRecursion (IsWithin p n) xs → AllByRecursion (λ y. eqb r y ≡ false) xs
differs p one r t known n less [] h = tt
differs p one r t known n less (x ∷ xs) h = (go (eqb r x) refl, differs p one r t known n less xs h.1)
  where
    same : r ≡ x → ⊥
    same e =
        let e2 : t ≡ h.0.tree = one.one_tree x t h.0.tree (rw e at known) h.0.known in
        let w = h.0.within in
        omega (arith, ap depth e2)

    go : (b : Bool) → eqb r x ≡ b → eqb r x ≡ false
    go false e = e
    go true e = absurd (same (eqb-true r x e))

front : (p : PassView) → IsOneToOne p → (r : ℕ) (t : Tree) → Knows p r t → (s : Tree) (xs : List ℕ) → suc (depth s) ≡ depth t → IsWay p s xs → IsWay p t (r ∷ xs)
unfolding IsDistinct
front p one r t known s xs e h = record {
  long = ap suc h.long ∙ e;
  distinct = (differs p one r t known (depth s) (omega arith) xs h.within, h.distinct);
  within = (record { tree = t; known = known; within = omega arith }, all_within p (depth s) (depth t) xs (omega arith) h.within);
}

-- the longer of the ways below the two parts, with the cell in front
longer : (p : PassView) → IsOneToOne p → (r : ℕ) (a b : Tree) → Knows p r (cell a b) → ((xs : List ℕ) × IsWay p a xs) → ((ys : List ℕ) × IsWay p b ys) → (suc (depth a) ≡ depth (cell a b)) ⊎ (suc (depth b) ≡ depth (cell a b)) → (zs : List ℕ) × IsWay p (cell a b) zs
longer p one r a b known (xs, h) (ys, k) (inl e) = (r ∷ xs, front p one r (cell a b) known a xs e h)
longer p one r a b known (xs, h) (ys, k) (inr e) = (r ∷ ys, front p one r (cell a b) known b ys e k)

deeper : (m n : ℕ) → (suc m ≡ suc (max m n)) ⊎ (suc n ≡ suc (max m n))
deeper m n = grind arith

way : (p : PassView) → IsOneToOne p → HasPartsOfTrees p → (t : Tree) (r : ℕ) → Knows p r t → (xs : List ℕ) × IsWay p t xs
unfolding IsDistinct
way p one parts (leaf k) r known = ([], record { long = refl; distinct = tt; within = tt })
way p one parts (cell a b) r known =
    let found = parts.parts r a b known in
    longer p one r a b known
    (way p one parts a found.0 found.3)
    (way p one parts b found.1 found.4) (deeper (depth a) (depth b))

below_any : (p : PassView) (n m : ℕ) → ((r : ℕ) (t : Tree) → Knows p r t → r < n) → (xs : List ℕ) → AllByRecursion (IsWithin p m) xs → (q : ℕ) → list_any (eqb q) xs ≡ true → q < n
below_any p n m bound [] h q e = absurd (cc)
below_any p n m bound (x ∷ xs) h q e = go (eqb q x) refl (below_any p n m bound xs h.1 q)
  where
    go : (b : Bool) → eqb q x ≡ b → (list_any (eqb q) xs ≡ true → q < n) → q < n
    go true d rest = let less : x < n = bound x h.0.tree h.0.known in let same : q ≡ x = eqb-true q x d in omega arith
    go false d rest = rest (rw d at e)

pub depth-bound : (p : PassView) → IsOneToOne p → HasPartsOfTrees p → (r : ℕ) (t : Tree) → Knows p r t → depth t ≤ 2 ^ 30 + p.places
depth-bound p one parts r t known =
    let w = way p one parts t r known in
    let n : ℕ = 2 ^ 30 + p.places in
    let le = length-le_from_distinct_below w.0 n w.1.distinct (below_any p n (depth t) one.bound w.0 w.1.within) in
    let long = w.1.long in
    omega arith

pub list_length-depth : (t : Tree) → list_length t ≤ depth t
list_length-depth (leaf k) = omega arith
list_length-depth (cell a b) = let ih = list_length-depth b in omega arith
