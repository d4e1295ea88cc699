-- Private. The cells of what is made for a pair of terms, beside those of the two: sixteen.
use Rattle.std.proofs.Common.{◌≡◌, ◌⊎◌, inl, inr, List, [], ◌∷◌, ◌++◌, refl, subst}
use Rattle.pair_pool.specs.Trees.{Tree, leaf, cell}
use Rattle.sym_table.specs.Leaf.{operator}
use Rattle.sym_table.specs.Table.{Table}
use Rattle.term_model.specs.declared.symbols.Op.{Op}
use Rattle.term_model.specs.Flips.{equality}
use Rattle.term_model.specs.Terms.{Term, not_of}
use Rattle.term_pool.specs.CellCounts.{Has}
use Rattle.term_pool.specs.StandsFor.{StandsFor, nil_tree}
use Rattle.term_pool.specs.Trees.{IsCellTree, IsPartOf}
use Rattle.placing_laws.proofs.OneTrees.{IsTreeTable, one_tree}
use Rattle.equality_blocks.specs.Made.{IsMadeForPair, left, right, equated, turned, exchanged}
use Rattle.placing_laws.proofs.AtMost.{has_either, has_left, has_right}

-- an equality and a negation: `=` and `not` are leaves 9 and 4 in every table
abbrev pub equal_tree : Tree → Tree → Tree
equal_tree a b = cell (leaf 9) (cell a (cell b nil_tree))

abbrev pub not_tree : Tree → Tree
not_tree a = cell (leaf 4) (cell a nil_tree)

-- the cells that these add
abbrev pub equal_cells : Tree → Tree → List Tree
equal_cells a b = equal_tree a b ∷ cell a (cell b nil_tree) ∷ cell b nil_tree ∷ []

abbrev pub not_cells : Tree → List Tree
not_cells a = not_tree a ∷ cell a nil_tree ∷ []

-- those of a pair that both of it are in, and all
abbrev pub joint_cells : Tree → Tree → List Tree
joint_cells a b =
    equal_tree a b ∷ cell a (cell b nil_tree) ∷ equal_tree b a ∷ cell b (cell a nil_tree) ∷ not_tree (equal_tree a b) ∷ not_tree (equal_tree b a)
    ∷ (equal_cells (equal_tree a b) (equal_tree b a) ++ equal_cells (equal_tree b a) (equal_tree a b))

abbrev pub pair_cells : Tree → Tree → List Tree
pair_cells a b = joint_cells a b ++ (not_cells a ++ not_cells b)

-- a cell of an equality is one of these or stands in a side
pub equal_parts : (a b x : Tree) → IsCellTree x → IsPartOf x (equal_tree a b) → (IsPartOf x a ⊎ IsPartOf x b) ⊎ Has (equal_cells a b) x
equal_parts a b x is (inl e) = inr (inl e)
equal_parts a b x is (inr (inl e)) = absurd (subst IsCellTree e is)
equal_parts a b x is (inr (inr (inl e))) = inr (inr (inl e))
equal_parts a b x is (inr (inr (inr (inl h)))) = inl (inl h)
equal_parts a b x is (inr (inr (inr (inr (inl e))))) = inr (inr (inr (inl e)))
equal_parts a b x is (inr (inr (inr (inr (inr (inl h)))))) = inl (inr h)
equal_parts a b x is (inr (inr (inr (inr (inr (inr e)))))) = absurd (subst IsCellTree e is)

not_parts : (a x : Tree) → IsCellTree x → IsPartOf x (not_tree a) → IsPartOf x a ⊎ Has (not_cells a) x
not_parts a x is (inl e) = inr (inl e)
not_parts a x is (inr (inl e)) = absurd (subst IsCellTree e is)
not_parts a x is (inr (inr (inl e))) = inr (inr (inl e))
not_parts a x is (inr (inr (inr (inl h)))) = inl h
not_parts a x is (inr (inr (inr (inr e)))) = absurd (subst IsCellTree e is)

-- which of the sixteen they are
left_not : (a b x : Tree) → Has (not_cells a) x → Has (pair_cells a b) x
left_not a b x h = has_right (joint_cells a b) (not_cells a ++ not_cells b) x (has_left (not_cells a) (not_cells b) x h)

pub right_not : (a b x : Tree) → Has (not_cells b) x → Has (pair_cells a b) x
right_not a b x h = has_right (joint_cells a b) (not_cells a ++ not_cells b) x (has_right (not_cells a) (not_cells b) x h)

pub equal_among : (a b x : Tree) → Has (equal_cells a b) x → Has (pair_cells a b) x
equal_among a b x (inl e) = inl e
equal_among a b x (inr (inl e)) = inr (inl e)
equal_among a b x (inr (inr (inl e))) = right_not a b x (inr (inl e))
equal_among a b x (inr (inr (inr h))) = absurd h

turned_among : (a b x : Tree) → Has (equal_cells b a) x → Has (pair_cells a b) x
turned_among a b x (inl e) = inr (inr (inl e))
turned_among a b x (inr (inl e)) = inr (inr (inr (inl e)))
turned_among a b x (inr (inr (inl e))) = left_not a b x (inr (inl e))
turned_among a b x (inr (inr (inr h))) = absurd h

abbrev both_ways : Tree → Tree → List Tree
both_ways e f = equal_cells e f ++ equal_cells f e

joined : (a b x : Tree) → Has (both_ways (equal_tree a b) (equal_tree b a)) x → Has (pair_cells a b) x
joined a b x h = has_left (joint_cells a b) (not_cells a ++ not_cells b) x (inr (inr (inr (inr (inr (inr h))))))

not_among : (a b x : Tree) → Has (not_cells (equal_tree a b)) x → Has (pair_cells a b) x
not_among a b x (inl e) = inr (inr (inr (inr (inl e))))
not_among a b x (inr (inl e)) =
    joined a b x (has_right (equal_cells (equal_tree a b) (equal_tree b a)) (equal_cells (equal_tree b a) (equal_tree a b)) x (inr (inr (inl e))))
not_among a b x (inr (inr h)) = absurd h

turned_not_among : (a b x : Tree) → Has (not_cells (equal_tree b a)) x → Has (pair_cells a b) x
turned_not_among a b x (inl e) = inr (inr (inr (inr (inr (inl e)))))
turned_not_among a b x (inr (inl e)) =
    joined a b x (has_left (equal_cells (equal_tree a b) (equal_tree b a)) (equal_cells (equal_tree b a) (equal_tree a b)) x (inr (inr (inl e))))
turned_not_among a b x (inr (inr h)) = absurd h

-- the sixteen are twelve of both, two of the one and two of the other
pub pair_cases : (a b x : Tree) → Has (pair_cells a b) x → Has (joint_cells a b) x ⊎ (Has (not_cells a) x ⊎ Has (not_cells b) x)
pair_cases a b x h = elim (has_either (joint_cells a b) (not_cells a ++ not_cells b) x h) [
  | inl both ↦ inl both
  | inr other ↦ inr (has_either (not_cells a) (not_cells b) x other)
]

-- a cell of one of the two, or one of the sixteen
abbrev pub IsPairCell : Tree → Tree → Tree → Type 0
IsPairCell a b x = (IsPartOf x a ⊎ IsPartOf x b) ⊎ Has (pair_cells a b) x

-- what is made for a pair in either order, and denials of one of it or of its equality
pub data IsOfPair (t u : Term) : Term → Type 0 where
  in_order : (x : Term) → IsMadeForPair t u x → IsOfPair t u x
  in_turn : (x : Term) → IsMadeForPair u t x → IsOfPair t u x
  left_denied : IsOfPair t u (not_of t)
  right_denied : IsOfPair t u (not_of u)
  equality_denied : IsOfPair t u (not_of (equality t u))
  turned_denied : IsOfPair t u (not_of (equality u t))

module _ (s : Table) (table : IsTreeTable s) where
  pub equal_stands : (t u : Term) (a b : Tree) → StandsFor s a t → StandsFor s b u → StandsFor s (equal_tree a b) (equality t u)
  equal_stands t u a b h k = (table.table.begins 9 (operator Op.Equal) refl, (h, (k, refl)))

  not_stands : (t : Term) (a : Tree) → StandsFor s a t → StandsFor s (not_tree a) (not_of t)
  not_stands t a h = (table.table.begins 4 (operator Op.Not) refl, (h, refl))

  -- a tree of the term with cells of the pair alone
  record HasPairTree (a b : Tree) (x : Term) : Type 0 where
    tree : Tree
    stands : StandsFor s tree x
    cells : (part : Tree) → IsCellTree part → IsPartOf part tree → IsPairCell a b part

  module _ (t u : Term) (a b : Tree) (h : StandsFor s a t) (k : StandsFor s b u) where
    equal_of : (part : Tree) → IsCellTree part → IsPartOf part (equal_tree a b) → IsPairCell a b part
    equal_of part is inside = elim (equal_parts a b part is inside) [ inl below ↦ inl below | inr new ↦ inr (equal_among a b part new) ]

    turned_of : (part : Tree) → IsCellTree part → IsPartOf part (equal_tree b a) → IsPairCell a b part
    turned_of part is inside = elim (equal_parts b a part is inside) [
      | inl below ↦ elim below [ inl one ↦ inl (inr one) | inr other ↦ inl (inl other) ]
      | inr new ↦ inr (turned_among a b part new)
    ]

    of_joined : (e f part : Tree) → IsCellTree part → ((x : Tree) → IsCellTree x → IsPartOf x e → IsPairCell a b x)
        → ((x : Tree) → IsCellTree x → IsPartOf x f → IsPairCell a b x) → (Has (equal_cells e f) part → Has (pair_cells a b) part)
        → IsPartOf part (equal_tree e f) → IsPairCell a b part
    of_joined e f part is left_of right_of among inside = elim (equal_parts e f part is inside) [
      | inl below ↦ elim below [ inl one ↦ left_of part is one | inr other ↦ right_of part is other ]
      | inr new ↦ inr (among new)
    ]

    of_denied : (e part : Tree) → IsCellTree part → ((x : Tree) → IsCellTree x → IsPartOf x e → IsPairCell a b x)
        → (Has (not_cells e) part → Has (pair_cells a b) part) → IsPartOf part (not_tree e) → IsPairCell a b part
    of_denied e part is below among inside = elim (not_parts e part is inside) [ inl one ↦ below part is one | inr new ↦ inr (among new) ]

    -- the two, and their equalities
    e_stands : StandsFor s (equal_tree a b) (equality t u)
    e_stands = equal_stands t u a b h k

    f_stands : StandsFor s (equal_tree b a) (equality u t)
    f_stands = equal_stands u t b a k h

    abbrev e_tree : Tree
    e_tree = equal_tree a b

    abbrev f_tree : Tree
    f_tree = equal_tree b a

    left_tree : HasPairTree a b t
    left_tree = record { tree = a; stands = h; cells = λ part is inside. inl (inl inside) }

    right_tree : HasPairTree a b u
    right_tree = record { tree = b; stands = k; cells = λ part is inside. inl (inr inside) }

    equated_tree : HasPairTree a b (equality t u)
    equated_tree = record { tree = e_tree; stands = e_stands; cells = equal_of }

    turned_tree : HasPairTree a b (equality u t)
    turned_tree = record { tree = f_tree; stands = f_stands; cells = turned_of }

    pair_tree : (x : Term) → IsOfPair t u x → HasPairTree a b x
    pair_tree _ (in_order _ left) = left_tree
    pair_tree _ (in_order _ right) = right_tree
    pair_tree _ (in_order _ equated) = equated_tree
    pair_tree _ (in_order _ turned) = turned_tree
    pair_tree _ (in_order _ exchanged) = record {
      tree = equal_tree e_tree f_tree;
      stands = equal_stands (equality t u) (equality u t) e_tree f_tree e_stands f_stands;
      cells = λ part is inside. of_joined e_tree f_tree part is equal_of turned_of
          (λ new. joined a b part (has_left (equal_cells e_tree f_tree) (equal_cells f_tree e_tree) part new)) inside;
    }
    pair_tree _ (in_turn _ left) = right_tree
    pair_tree _ (in_turn _ right) = left_tree
    pair_tree _ (in_turn _ equated) = turned_tree
    pair_tree _ (in_turn _ turned) = equated_tree
    pair_tree _ (in_turn _ exchanged) = record {
      tree = equal_tree f_tree e_tree;
      stands = equal_stands (equality u t) (equality t u) f_tree e_tree f_stands e_stands;
      cells = λ part is inside. of_joined f_tree e_tree part is turned_of equal_of
          (λ new. joined a b part (has_right (equal_cells e_tree f_tree) (equal_cells f_tree e_tree) part new)) inside;
    }
    pair_tree _ left_denied = record {
      tree = not_tree a;
      stands = not_stands t a h;
      cells = λ part is inside. of_denied a part is (λ x i below. inl (inl below)) (left_not a b part) inside;
    }
    pair_tree _ right_denied = record {
      tree = not_tree b;
      stands = not_stands u b k;
      cells = λ part is inside. of_denied b part is (λ x i below. inl (inr below)) (right_not a b part) inside;
    }
    pair_tree _ equality_denied = record {
      tree = not_tree e_tree;
      stands = not_stands (equality t u) e_tree e_stands;
      cells = λ part is inside. of_denied e_tree part is equal_of (not_among a b part) inside;
    }
    pair_tree _ turned_denied = record {
      tree = not_tree f_tree;
      stands = not_stands (equality u t) f_tree f_stands;
      cells = λ part is inside. of_denied f_tree part is turned_of (turned_not_among a b part) inside;
    }

    -- each cell of what is made for a pair is one of the pair's
    pub cells_of_pair : (x : Term) (tree part : Tree) → IsOfPair t u x → StandsFor s tree x → IsCellTree part → IsPartOf part tree → IsPairCell a b part
    cells_of_pair x tree part made stands is inside =
        let own = pair_tree x made in
        own.cells part is (subst (IsPartOf part) (one_tree s table x tree own.tree stands own.stands) inside)

  -- an equality's tree
  pub record IsEqualTree (tree : Tree) (t u : Term) : Type 0 where
    pub first : Tree
    pub second : Tree
    pub first_stands : StandsFor s first t
    pub second_stands : StandsFor s second u
    pub is : tree ≡ equal_tree first second

  pub equal_tree_of : (tree : Tree) (t u : Term) → StandsFor s tree (equality t u) → IsEqualTree tree t u
  equal_tree_of (leaf k) t u stands = absurd stands
  equal_tree_of (cell a (leaf k)) t u stands = absurd stands.1
  equal_tree_of (cell a (cell b (leaf k))) t u stands = absurd stands.1.1
  equal_tree_of (cell a (cell b (cell c d))) t u stands = record {
    first = b;
    second = c;
    first_stands = stands.1.0;
    second_stands = stands.1.1.0;
    is = one_tree s table (equality t u) (cell a (cell b (cell c d))) (equal_tree b c) stands (equal_stands t u b c stands.1.0 stands.1.1.0);
  }

  -- a negation's
  pub record IsNotTree (tree : Tree) (t : Term) : Type 0 where
    pub inner : Tree
    pub stands : StandsFor s inner t
    pub is : tree ≡ not_tree inner

  pub not_tree_of : (tree : Tree) (t : Term) → StandsFor s tree (not_of t) → IsNotTree tree t
  not_tree_of (leaf k) t stands = absurd stands
  not_tree_of (cell a (leaf k)) t stands = absurd stands.1
  not_tree_of (cell a (cell b c)) t stands = record {
    inner = b;
    stands = stands.1.0;
    is = one_tree s table (not_of t) (cell a (cell b c)) (not_tree b) stands (not_stands t b stands.1.0);
  }
