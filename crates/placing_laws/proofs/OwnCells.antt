-- Private. Pairs with trees, of which all cells are counted: of two terms of the command, and what a literal equates.
use Rattle.std.proofs.Common.{◌≡◌, inl, inr, ℕ, List, [], ◌∷◌, Contains, refl, subst}
use Rattle.pair_pool.specs.Trees.{Tree}
use Rattle.pair_pool.specs.Views.{IsOneToOne}
use Rattle.term_model.specs.Flips.{equality}
use Rattle.term_model.specs.Terms.{Term, not_of}
use Rattle.term_pool.specs.CellCounts.{CountsCells, Has, IsPartOfAny}
use Rattle.term_pool.specs.StandsFor.{StandsFor}
use Rattle.term_pool.specs.Trees.{IsCellTree, IsPartOf}
use Rattle.term_pool.specs.Views.{TermsView}
use Rattle.term_pool.proofs.Keeping.{part-refl, part-trans}
use Rattle.placing_laws.proofs.OneTrees.{IsTreeTable, one_tree}
use Rattle.equality_steps.specs.declared.site.Site.{Site}
use Rattle.equality_blocks.specs.Commands.{IsLiteralOfCommand, literals_of_command}
use Rattle.equality_blocks.specs.Pairs.{AreEquated}
use Rattle.placing_laws.specs.Placed.{HaveTermsOf, IsTermOf, literal}
use Rattle.placing_laws.proofs.CommandPairs.{Equates, IsLiteralCell}
use Rattle.placing_laws.proofs.CountedCells.{IsCounted}
use Rattle.placing_laws.proofs.PairCells.{IsOfPair, cells_of_pair}
use Rattle.placing_laws.proofs.PairCells.{equal_tree, equal_tree_of}
use Rattle.placing_laws.proofs.PairCells.{pair_cells, not_tree, not_tree_of}
use Rattle.placing_laws.proofs.Places.{has_of}

part_of_any : (part tree : Tree) (trees : List Tree) → Has trees tree → IsPartOf part tree → IsPartOfAny part trees
part_of_any part tree [] there is = absurd there
part_of_any part tree (other ∷ trees) (inl e) is = inl (subst (IsPartOf part) e is)
part_of_any part tree (other ∷ trees) (inr later) is = inr (part_of_any part tree trees later is)

-- what is counted over: trees of all terms of the command, and their distinct cells
pub record Counting (p : Site) (v : TermsView) : Type 0 where
  pub table : IsTreeTable p.symbols.now
  pub one : IsOneToOne v.pass
  pub trees : List Tree
  pub all : HaveTermsOf p v trees
  pub number : ℕ
  pub counts : CountsCells trees number

module _ (p : Site) (v : TermsView) (counting : Counting p v) where
  abbrev pub IsPlacedCell : Tree → Type 0
  IsPlacedCell = IsCounted p v counting.table counting.one counting.counts.cells

  -- each cell of the tree is one of the command's terms
  abbrev pub AreOwnCells : Tree → Type 0
  AreOwnCells tree = (x : Tree) → IsCellTree x → IsPartOf x tree → Has counting.counts.cells x

  pub own_term : (t : Term) (tree : Tree) → IsTermOf p v t → StandsFor p.symbols.now tree t → AreOwnCells tree
  own_term t tree h stands x is inside =
      let found = counting.all t h in
      let same : tree ≡ found.0 = one_tree p.symbols.now counting.table t tree found.0 stands found.2 in
      counting.counts.complete x is (part_of_any x found.0 counting.trees found.1 (subst (IsPartOf x) same inside))

  pub own_part : (part tree : Tree) → IsPartOf part tree → AreOwnCells tree → AreOwnCells part
  own_part part tree inside own x is within = own x is (part-trans x part tree within inside)

  pub by_own : (x : Tree) → Has counting.counts.cells x → IsPlacedCell x
  by_own x there = inl (x, there, inl (inl refl))

  -- a pair with trees, of which all cells are counted
  pub record HasPairTrees (t u : Term) : Type 0 where
    pub left : Tree
    pub right : Tree
    pub left_stands : StandsFor p.symbols.now left t
    pub right_stands : StandsFor p.symbols.now right u
    pub left_cells : (x : Tree) → IsCellTree x → IsPartOf x left → IsPlacedCell x
    pub right_cells : (x : Tree) → IsCellTree x → IsPartOf x right → IsPlacedCell x
    pub both : (x : Tree) → Has (pair_cells left right) x → IsPlacedCell x

  -- of two terms of the command, or of parts of these
  pub own_pair : (t u : Term) (left right : Tree) → StandsFor p.symbols.now left t → StandsFor p.symbols.now right u → AreOwnCells left → AreOwnCells right
      → ((x : Tree) → Has (pair_cells left right) x → IsPlacedCell x) → HasPairTrees t u
  own_pair t u left right h k own other both = record {
    left = left;
    right = right;
    left_stands = h;
    right_stands = k;
    left_cells = λ x is inside. by_own x (own x is inside);
    right_cells = λ x is inside. by_own x (other x is inside);
    both = both;
  }

  pub of_pair : (t u x : Term) (tree part : Tree) → HasPairTrees t u → IsOfPair t u x → StandsFor p.symbols.now tree x → IsCellTree part
      → IsPartOf part tree → IsPlacedCell part
  of_pair t u x tree part h made stands is inside =
      elim (cells_of_pair p.symbols.now counting.table t u h.left h.right h.left_stands h.right_stands x tree part made stands is inside) [
        | inl below ↦ elim below [ inl one_side ↦ h.left_cells part is one_side | inr other ↦ h.right_cells part is other ]
        | inr new ↦ h.both part new
      ]

  -- a literal that equates two terms
  pub record HasEquatedTrees (t u : Term) : Type 0 where
    pub reference : ℕ
    pub among : Contains (literals_of_command p) reference
    pub equates : Equates p v reference t u
    pub left : Tree
    pub right : Tree
    pub left_stands : StandsFor p.symbols.now left t
    pub right_stands : StandsFor p.symbols.now right u
    pub left_own : AreOwnCells left
    pub right_own : AreOwnCells right

  pub of_equality : (r : ℕ) (t u : Term) (tree : Tree) → Contains (literals_of_command p) r → Equates p v r t u → StandsFor p.symbols.now tree (equality t u)
      → AreOwnCells tree → HasEquatedTrees t u
  of_equality r t u tree among equates stands own =
      let e = equal_tree_of p.symbols.now counting.table tree t u stands in
      let own_of : AreOwnCells (equal_tree e.first e.second) = subst AreOwnCells e.is own in
      record {
        reference = r;
        among = among;
        equates = equates;
        left = e.first;
        right = e.second;
        left_stands = e.first_stands;
        right_stands = e.second_stands;
        left_own = own_part e.first (equal_tree e.first e.second) (inr (inr (inr (inl (part-refl e.first))))) own_of;
        right_own = own_part e.second (equal_tree e.first e.second) (inr (inr (inr (inr (inr (inl (part-refl e.second))))))) own_of;
      }

  pub own_literal : (t : Term) (h : IsLiteralOfCommand p v t) → AreOwnCells h.refers.tree
  own_literal t h = own_term t h.refers.tree (literal h) h.refers.stands

  pub equated_trees : (t u : Term) → AreEquated p v t u → HasEquatedTrees t u
  equated_trees t u (inl h) =
      of_equality h.reference t u h.refers.tree h.among (inl h.refers) h.refers.stands (own_literal (equality t u) h)
  equated_trees t u (inr h) =
      let e = not_tree_of p.symbols.now counting.table h.refers.tree (equality t u) h.refers.stands in
      of_equality h.reference t u e.inner h.among (inr h.refers) e.stands
      (own_part e.inner (not_tree e.inner) (inr (inr (inr (inl (part-refl e.inner))))) (subst AreOwnCells e.is (own_literal (not_of (equality t u)) h)))

  pub by_literal : (r : ℕ) (x : Tree) → Contains (literals_of_command p) r → IsLiteralCell p v r x → IsPlacedCell x
  by_literal r x among h = inr (inl (r, has_of (literals_of_command p) r among, h))

  pub linked_pair : (t u : Term) → AreEquated p v t u → HasPairTrees t u
  linked_pair t u h =
      let e = equated_trees t u h in
      own_pair t u e.left e.right e.left_stands e.right_stands e.left_own e.right_own
      (λ x there. by_literal e.reference x e.among
      (inl ((e.left, e.right), record { left = t; right = u; equates = e.equates; left_stands = e.left_stands; right_stands = e.right_stands }, there)))
