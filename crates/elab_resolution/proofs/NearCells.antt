-- Private. The cells of terms that differ from known ones by leading `not`s, of which they have three more at most.
use Rattle.std.proofs.Common.{◌≡◌, ◌⊎◌, ◌≤◌, ◌*◌, inl, inr, ℕ, zero, suc, List, [], ◌∷◌, ◌++◌, length, refl, sym, ◌∙◌, ap, subst, arith, Contains}
use Rattle.std.proofs.lemmas.List.{length-append}
use Rattle.pair_pool.specs.Trees.{Tree, leaf, cell}
use Rattle.sym_table.specs.Leaf.{operator}
use Rattle.sym_table.specs.Table.{Table, IsTable}
use Rattle.term_model.specs.declared.symbols.Op.{Op}
use Rattle.term_model.specs.Terms.{Term, not_of}
use Rattle.term_model.proofs.Lists.{contains_cases, contains_head, contains_later, contains_none}
use Rattle.term_pool.specs.CellCounts.{Has}
use Rattle.term_pool.specs.Nots.{negated}
use Rattle.term_pool.specs.StandsFor.{StandsFor, nil_tree}
use Rattle.term_pool.specs.Trees.{IsCellTree, IsPartOf}
use Rattle.term_pool.specs.Views.{TermsView, RefersTo}
use Rattle.term_pool.proofs.Keeping.{part-refl, part-trans}
use Rattle.elab_resolution.specs.Spellings.{IsNearTo}
use Rattle.elab_resolution.proofs.PlacedLemmas.{AreKnownOrAmong, HasReference, part_known}

-- the tree of a negation, and of so many: `not` is leaf 4 in every table
abbrev pub not_tree : Tree → Tree
not_tree t = cell (leaf 4) (cell t nil_tree)

abbrev pub nots_tree : ℕ → Tree → Tree
nots_tree zero t = t
nots_tree (suc n) t = not_tree (nots_tree n t)

-- the cells that so many negations add to a tree: two each
abbrev pub levels : ℕ → Tree → List Tree
levels zero t = []
levels (suc n) t = cell (nots_tree n t) nil_tree ∷ not_tree (nots_tree n t) ∷ levels n t

-- a cell of the whole is one of these, or a cell of what is below
level_parts : (n : ℕ) (t part : Tree) → IsCellTree part → IsPartOf part (nots_tree n t) → IsPartOf part t ⊎ Has (levels n t) part
level_parts zero t part is_cell is = inl is
level_parts (suc n) t part is_cell (inl whole) = inr (inr (inl whole))
level_parts (suc n) t part is_cell (inr (inl head)) = absurd (subst IsCellTree head is_cell)
level_parts (suc n) t part is_cell (inr (inr (inl list))) = inr (inl list)
level_parts (suc n) t part is_cell (inr (inr (inr (inr nil)))) = absurd (subst IsCellTree nil is_cell)
level_parts (suc n) t part is_cell (inr (inr (inr (inl below)))) = elim (level_parts n t part is_cell below) [
  | inl inner ↦ inl inner
  | inr level ↦ inr (inr (inr level))
]

-- up to three levels are among the three
within_three : (n : ℕ) (t part : Tree) → n ≤ 3 → Has (levels n t) part → Has (levels 3 t) part
within_three zero t part few there = absurd there
within_three (suc zero) t part few there = inr (inr (inr (inr there)))
within_three (suc (suc zero)) t part few there = inr (inr there)
within_three (suc (suc (suc zero))) t part few there = there
within_three (suc (suc (suc (suc n)))) t part few there = absurd (omega (arith, few))

-- what is below is a part
below_part : (n : ℕ) (t : Tree) → IsPartOf t (nots_tree n t)
below_part zero t = part-refl t
below_part (suc n) t = inr (inr (inr (inl (below_part n t))))

-- where two terms are one with more `not`s, the one is the other with some
record IsSomeNots (n : ℕ) (t u : Term) : Type 0 where
  nots : ℕ
  within : nots ≤ n
  is : t ≡ negated nots u

cancel : (m n : ℕ) (t u : Term) → negated m t ≡ negated n u → IsSomeNots n t u ⊎ IsSomeNots m u t
cancel zero n t u same = inl (record { nots = n; within = omega arith; is = same })
cancel (suc m) zero t u same = inr (record { nots = suc m; within = omega arith; is = sym same })
cancel (suc m) (suc n) t u same = elim (cancel m n t u (under (negated m t) (negated n u) same)) [
  | inl h ↦ inl (record { nots = h.nots; within = let w = h.within in omega arith; is = h.is })
  | inr h ↦ inr (record { nots = h.nots; within = let w = h.within in omega arith; is = h.is })
]
  where
    under : (a b : Term) → not_of a ≡ not_of b → a ≡ b
    under a b e = cc

module _ (s : Table) (table : IsTable s) (one_tree : (a b : Tree) (t : Term) → StandsFor s a t → StandsFor s b t → a ≡ b) where
  record IsUnder (n : ℕ) (t : Term) (tree : Tree) : Type 0 where
    below : Tree
    stands : StandsFor s below t
    is : tree ≡ nots_tree n below

  -- the tree of a negation
  under_not : (t : Term) (tree : Tree) → StandsFor s tree (not_of t) → IsUnder 1 t tree
  under_not t (leaf k) stands = absurd stands
  under_not t (cell (cell a b) c) stands = absurd stands.0
  under_not t (cell (leaf k) (leaf m)) stands = absurd stands.1
  under_not t (cell (leaf k) (cell a b)) stands = record {
    below = a;
    stands = stands.1.0;
    is =
        ap (λ j. cell (leaf j) (cell a b)) (table.apart k 4 (operator Op.Not) (operator Op.Not) stands.0 (table.begins 4 (operator Op.Not) refl) refl refl)
        ∙ ap (λ r. cell (leaf 4) (cell a r)) stands.1.1;
  }

  under_nots : (n : ℕ) (t : Term) (tree : Tree) → StandsFor s tree (negated n t) → IsUnder n t tree
  under_nots zero t tree stands = record { below = tree; stands = stands; is = refl }
  under_nots (suc n) t tree stands =
      let outer = under_not (negated n t) tree stands in
      let inner = under_nots n t outer.below outer.stands in
      record { below = inner.below; stands = inner.stands; is = outer.is ∙ ap not_tree inner.is }

  -- the trees of known terms, with three levels above each
  module _ (v : TermsView) where
    abbrev pub AreReferred : List Term → Type 0
    AreReferred roots = (t : Term) → Contains roots t → (r : ℕ) × RefersTo s v r t

    pub record HasLevelTrees (roots : List Term) : Type 0 where
      pub trees : List Tree
      pub count : length trees ≡ 6 * length roots
      pub all : (root : Term) (tree part : Tree) → Contains roots root → StandsFor s tree root → Has (levels 3 tree) part → Has trees part

    has_left : (xs ys : List Tree) (x : Tree) → Has xs x → Has (xs ++ ys) x
    has_left [] ys x there = absurd there
    has_left (z ∷ xs) ys x (inl same) = inl same
    has_left (z ∷ xs) ys x (inr there) = inr (has_left xs ys x there)

    has_right : (xs ys : List Tree) (x : Tree) → Has ys x → Has (xs ++ ys) x
    has_right [] ys x there = there
    has_right (z ∷ xs) ys x there = inr (has_right xs ys x there)

    with_levels : (t : Term) (roots : List Term) (r : ℕ) → RefersTo s v r t → HasLevelTrees roots → HasLevelTrees (t ∷ roots)
    with_levels t roots r own rest = record { trees = levels 3 own.tree ++ rest.trees; count = count; all = all }
      where
        count : length (levels 3 own.tree ++ rest.trees) ≡ 6 * length (t ∷ roots)
        count = let e = length-append (levels 3 own.tree) rest.trees in let f = rest.count in omega arith

        all : (root : Term) (tree part : Tree) → Contains (t ∷ roots) root → StandsFor s tree root → Has (levels 3 tree) part
            → Has (levels 3 own.tree ++ rest.trees) part
        all root tree part there stands level = elim (contains_cases t root roots there) [
          | inl same ↦
              has_left (levels 3 own.tree) rest.trees part
              (subst (λ x. Has (levels 3 x) part) (one_tree tree own.tree t (subst (StandsFor s tree) (sym same) stands) own.stands) level)
          | inr later ↦ has_right (levels 3 own.tree) rest.trees part (rest.all root tree part later stands level)
        ]

    pub level_trees : (roots : List Term) → AreReferred roots → HasLevelTrees roots
    level_trees [] known = record { trees = []; count = refl; all = λ root tree part there. absurd (contains_none root there) }
    level_trees (t ∷ roots) known =
        let own = known t (contains_head t roots) in
        with_levels t roots own.0 own.1 (level_trees roots (λ u there. known u (contains_later t u roots there)))

    pub near_among : (roots : List Term) (known : AreReferred roots) → AreKnownOrAmong s v.pass (IsNearTo roots) (level_trees roots known).trees
    near_among roots known t tree part near stands is_cell is = go (cancel near.nots 3 t near.root near.same)
      where
        own : RefersTo s v (known near.root near.is).0 near.root
        own = (known near.root near.is).1

        of_root : IsPartOf part own.tree → HasReference v.pass part
        of_root inner = part_known v.pass own.tree part (known near.root near.is).0 own.known inner

        go : IsSomeNots 3 t near.root ⊎ IsSomeNots near.nots near.root t → HasReference v.pass part ⊎ Has (level_trees roots known).trees part
        go (inl h) = elim (level_parts h.nots u.below part is_cell (subst (IsPartOf part) u.is is)) [
          | inl inner ↦ inl (of_root (subst (IsPartOf part) (one_tree u.below own.tree near.root u.stands own.stands) inner))
          | inr level ↦
              inr ((level_trees roots known).all near.root u.below part near.is u.stands (within_three h.nots u.below part h.within level))
        ]
          where
            u : IsUnder h.nots near.root tree
            u = under_nots h.nots near.root tree (subst (StandsFor s tree) h.is stands)
        go (inr h) =
            inl (of_root (part-trans part tree own.tree is
            (subst (IsPartOf tree) (sym u.is) (subst (λ x. IsPartOf tree (nots_tree h.nots x)) (one_tree tree u.below t stands u.stands)
            (below_part h.nots tree)))))
          where
            u : IsUnder h.nots t own.tree
            u = under_nots h.nots t own.tree (subst (StandsFor s own.tree) h.is own.stands)
