-- Private. Trees of two tables that are alike: at each place both have a cell, or leaves of one symbol.
use Rattle.std.proofs.Common.{◌≡◌, inl, inr, refl, ap, List, [], ◌∷◌}
use Rattle.pair_pool.specs.Trees.{Tree, leaf, cell}
use Rattle.sym_table.specs.Leaf.{Leaf, operator, nil, let_head, kind_of, name_of}
use Rattle.sym_table.specs.Table.{Table, IsLeaf, IsTable}
use Rattle.std.specs.Prelude.{ℕ, pos}
use Rattle.term_model.specs.Terms.{Term, Terms, Bindings, numeral, variable, operation, call, let_in, no_terms, term, no_bindings, binding}
use Rattle.term_pool.specs.StandsFor.{nil_tree, let_tree, variable_leaf, function_leaf, IsLeafOf, IsCellOf, StandForAll}
use Rattle.term_pool.specs.StandsFor.{StandsFor, StandsForApplication, StandsForList, StandsForBindings}
use Rattle.term_pool.specs.Trees.{IsPartOf, IsCellTree}
use Rattle.term_pool.specs.CellCounts.{IsPartOfAny}

-- two leaves of one symbol
pub record HaveOneSymbol (s z : Table) (j k : ℕ) : Type 0 where
  pub symbol : Leaf
  pub left : IsLeaf s j symbol
  pub right : IsLeaf z k symbol

abbrev pub IsLike : Table → Table → Tree → Tree → Type 0
IsLike s z (leaf j) (leaf k) = HaveOneSymbol s z j k
IsLike s z (leaf j) (cell c d) = ⊥
IsLike s z (cell a b) (leaf k) = ⊥
IsLike s z (cell a b) (cell c d) = IsLike s z a c × IsLike s z b d

-- a leaf of the second table is like those of one number alone
one_number : (s z : Table) → IsTable s → (i j k : ℕ) → HaveOneSymbol s z i k → HaveOneSymbol s z j k → i ≡ j
one_number s z table i j k p q =
    let same : p.symbol ≡ q.symbol = cc (p.right, q.right) in
    table.apart i j p.symbol q.symbol p.left q.left (ap (kind_of 0) same) (ap name_of same)

pub one_like : (s z : Table) → IsTable s → (x y t : Tree) → IsLike s z x t → IsLike s z y t → x ≡ y
one_like s z table (leaf i) (leaf j) (leaf k) p q = ap (λ (n : ℕ). leaf n) (one_number s z table i j k p q)
one_like s z table (leaf i) (leaf j) (cell c d) p q = absurd p
one_like s z table (leaf i) (cell e f) (leaf k) p q = absurd q
one_like s z table (leaf i) (cell e f) (cell c d) p q = absurd p
one_like s z table (cell a b) (leaf j) (leaf k) p q = absurd p
one_like s z table (cell a b) (leaf j) (cell c d) p q = absurd q
one_like s z table (cell a b) (cell e f) (leaf k) p q = absurd p
one_like s z table (cell a b) (cell e f) (cell c d) p q =
    let first = one_like s z table a e c p.0 q.0 in let second = one_like s z table b f d p.1 q.1 in cc

like_leaves : (s z : Table) (l : Leaf) (a b : Tree) → IsLeafOf s a l → IsLeafOf z b l → IsLike s z a b
like_leaves s z l (leaf j) (leaf k) p q = record { symbol = l; left = p; right = q }
like_leaves s z l (leaf j) (cell c d) p q = absurd q
like_leaves s z l (cell a b) (leaf k) p q = absurd p
like_leaves s z l (cell a b) (cell c d) p q = absurd p

-- the first leaves of all tables are alike
like_first : (s z : Table) → IsTable s → IsTable z → (a b : Tree) → a ≡ nil_tree → b ≡ nil_tree → IsLike s z a b
like_first s z left right a b p q =
    let it : IsLike s z nil_tree nil_tree = record { symbol = nil; left = left.begins 0 nil refl; right = right.begins 0 nil refl } in
    rw (p, q) it

like_heads : (s z : Table) → IsTable s → IsTable z → (a b : Tree) → a ≡ let_tree → b ≡ let_tree → IsLike s z a b
like_heads s z left right a b p q =
    let it : IsLike s z let_tree let_tree = record { symbol = let_head; left = left.begins 1 let_head refl; right = right.begins 1 let_head refl } in
    rw (p, q) it

like_cells : (s z : Table) (a b : Tree) (P Q R S : Tree → Type 0) → ((x y : Tree) → P x → R y → IsLike s z x y) → ((x y : Tree) → Q x → S y → IsLike s z x y) → IsCellOf a P Q → IsCellOf b R S → IsLike s z a b
like_cells s z (leaf j) b P Q R S first second p q = absurd p
like_cells s z (cell a b) (leaf k) P Q R S first second p q = absurd q
like_cells s z (cell a b) (cell c d) P Q R S first second p q = (first a c p.0 q.0, second b d p.1 q.1)

module _ (s z : Table) (left : IsTable s) (right : IsTable z) where
  mutual
    pub like_terms : (t : Term) (a b : Tree) → StandsFor s a t → StandsFor z b t → IsLike s z a b
    like_terms (numeral n) a b p q = like_leaves s z (Leaf.numeral (pos n)) a b p q
    like_terms (variable x) a b p q = like_leaves s z (variable_leaf x) a b p q
    like_terms (operation op ts) a b p q = like_applications (operator op) ts a b p q
    like_terms (call f ts) a b p q = like_applications (function_leaf f) ts a b p q
    like_terms (let_in bs u) a b p q =
        like_cells s z a b _ _ _ _ (like_heads s z left right)
        (λ x y v w. like_cells s z x y _ _ _ _ (like_bindings bs) (like_terms u) v w) p q

    like_applications : (l : Leaf) (ts : Terms) (a b : Tree) → StandsForApplication s a l ts → StandsForApplication z b l ts → IsLike s z a b
    like_applications l no_terms a b p q = like_leaves s z l a b p q
    like_applications l (term t ts) a b p q =
        like_cells s z a b _ _ _ _ (like_leaves s z l)
        (λ x y v w. like_cells s z x y _ _ _ _ (like_terms t) (like_lists ts) v w) p q

    like_lists : (ts : Terms) (a b : Tree) → StandsForList s a ts → StandsForList z b ts → IsLike s z a b
    like_lists no_terms a b p q = like_first s z left right a b p q
    like_lists (term t ts) a b p q = like_cells s z a b _ _ _ _ (like_terms t) (like_lists ts) p q

    like_bindings : (bs : Bindings) (a b : Tree) → StandsForBindings s a bs → StandsForBindings z b bs → IsLike s z a b
    like_bindings no_bindings a b p q = like_first s z left right a b p q
    like_bindings (binding x t bs) a b p q =
        like_cells s z a b _ _ _ _
        (λ c d v w. like_cells s z c d _ _ _ _ (like_leaves s z (variable_leaf x)) (like_terms t) v w)
        (like_bindings bs) p q

-- a part of one of two trees that are alike is like a part of the other
pub record HasLikePart (s z : Table) (part whole : Tree) : Type 0 where
  pub tree : Tree
  pub is_part : IsPartOf tree whole
  pub like : IsLike s z part tree

pub like_part : (s z : Table) (x y p : Tree) → IsLike s z x y → IsPartOf p x → HasLikePart s z p y
like_part s z (leaf j) (leaf k) p like is = record { tree = leaf k; is_part = refl; like = rw is like }
like_part s z (leaf j) (cell c d) p like is = absurd like
like_part s z (cell a b) (leaf k) p like is = absurd like
like_part s z (cell a b) (cell c d) p like (inl is) = record { tree = cell c d; is_part = inl refl; like = rw is like }
like_part s z (cell a b) (cell c d) p like (inr (inl is)) =
    let found = like_part s z a c p like.0 is in
    record { tree = found.tree; is_part = inr (inl found.is_part); like = found.like }
like_part s z (cell a b) (cell c d) p like (inr (inr is)) =
    let found = like_part s z b d p like.1 is in
    record { tree = found.tree; is_part = inr (inr found.is_part); like = found.like }

pub like_cell : (s z : Table) (x y : Tree) → IsLike s z x y → IsCellTree x → IsCellTree y
like_cell s z (leaf j) y like is = absurd is
like_cell s z (cell a b) (leaf k) like is = absurd like
like_cell s z (cell a b) (cell c d) like is = tt

pub record HasLikePartOfAny (s z : Table) (part : Tree) (trees : List Tree) : Type 0 where
  pub tree : Tree
  pub is_part : IsPartOfAny tree trees
  pub like : IsLike s z part tree

pub like_part_of_any : (s z : Table) → IsTable s → IsTable z → (ts : List Term) (xs ys : List Tree) → StandForAll s xs ts → StandForAll z ys ts →
    (p : Tree) → IsPartOfAny p xs → HasLikePartOfAny s z p ys
like_part_of_any s z left right ts [] ys v w p is = absurd is
like_part_of_any s z left right [] (x ∷ xs) ys v w p is = absurd v
like_part_of_any s z left right (t ∷ ts) (x ∷ xs) [] v w p is = absurd w
like_part_of_any s z left right (t ∷ ts) (x ∷ xs) (y ∷ ys) v w p (inl is) =
    let found = like_part s z x y p (like_terms s z left right t x y v.0 w.0) is in
    record { tree = found.tree; is_part = inl found.is_part; like = found.like }
like_part_of_any s z left right (t ∷ ts) (x ∷ xs) (y ∷ ys) v w p (inr is) =
    let found = like_part_of_any s z left right ts xs ys v.1 w.1 p is in
    record { tree = found.tree; is_part = inr found.is_part; like = found.like }
