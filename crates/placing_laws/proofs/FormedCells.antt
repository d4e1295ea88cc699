-- Private. The cells of what `flip_steps` makes of what stands in a term, each by a cell of that term; and where it is a leaf, the equality
-- of this and itself.
use Rattle.std.proofs.Common.{◌≡◌, ◌⊎◌, inl, inr, ℕ, refl, sym, subst, Contains}
use Rattle.pair_pool.specs.Trees.{Tree, leaf, cell}
use Rattle.pair_pool.specs.Views.{IsOneToOne}
use Rattle.sym_table.specs.Leaf.{Leaf, operator}
use Rattle.sym_table.specs.Table.{Table}
use Rattle.term_model.specs.Flips.{equality}
use Rattle.term_model.specs.Terms.{Term, numeral, variable, operation, call, let_in, Terms, no_terms, term, list_of}
use Rattle.term_model.proofs.Lists.{contains_cases, contains_none}
use Rattle.term_pool.specs.CellCounts.{Has}
use Rattle.term_pool.specs.Reading.{arguments_of}
use Rattle.term_pool.specs.StandsFor.{StandsFor, StandsForApplication, StandsForList, function_leaf}
use Rattle.term_pool.specs.Trees.{IsCellTree, IsPartOf}
use Rattle.term_pool.specs.Views.{TermsView, RefersTo}
use Rattle.term_pool.proofs.Keeping.{part-refl, part-trans}
use Rattle.placing_laws.proofs.OneTrees.{IsTreeTable, one_tree}
use Rattle.term_pool.proofs.TermLemmas.{equal_where}
use Rattle.flip_steps.specs.Stages.{StandsBefore, IsStage, itself, refilled, formed, IsMadeFor, stage, equated, IsMadeFrom}
use Rattle.flip_steps.specs.Subterms.{IsWithin, whole, argument}
use Rattle.flip_steps.proofs.OrderLemmas.{references_antisymmetric}
use Rattle.placing_laws.proofs.PairCells.{equal_cells, equal_parts, IsEqualTree, equal_tree_of}
use Rattle.placing_laws.proofs.StageCells as Cells
use Rattle.placing_laws.proofs.StageCells.{Stage, first_of, IsStageOf, IsBroughtIn, brought_further, stage_cells_of, equal_stages_of, leaf_stage}

-- the tree is that of a term that stands in another one's: of that itself, or of the first item of a cell
abbrev IsItem : Tree → Tree → Type 0
IsItem tree outer = (key : Tree) × (IsCellTree key × IsPartOf key outer) × (first_of key ≡ tree)

record IsTreeWithin (s : Table) (outer : Tree) (t : Term) : Type 0 where
  tree : Tree
  stands : StandsFor s tree t
  part : IsPartOf tree outer
  place : (tree ≡ outer) ⊎ IsItem tree outer

item_further : (tree inner outer : Tree) → IsPartOf inner outer → IsItem tree inner → IsItem tree outer
item_further tree inner outer part (key, (is, inside), first) = (key, (is, part-trans key inner outer inside part), first)

module _ (s : Table) where
  record IsItemTree (list : Tree) (t : Term) : Type 0 where
    tree : Tree
    stands : StandsFor s tree t
    part : IsPartOf tree list
    item : IsItem tree list

  list_item : (ts : Terms) (list : Tree) (a : Term) → StandsForList s list ts → Contains (list_of ts) a → IsItemTree list a
  list_item no_terms list a stands there = absurd (contains_none a there)
  list_item (term t ts) (leaf k) a stands there = absurd stands
  list_item (term t ts) (cell first rest) a (here, later) there = go (λ k. list_item ts rest a later k) (contains_cases t a (list_of ts) there)
    where
      go : (Contains (list_of ts) a → IsItemTree rest a) → (t ≡ a) ⊎ Contains (list_of ts) a → IsItemTree (cell first rest) a
      go behind (inl e) = record {
        tree = first;
        stands = subst (StandsFor s first) e here;
        part = inr (inl (part-refl first));
        item = (cell first rest, (tt, inl refl), refl);
      }
      go behind (inr k) =
          let found = behind k in
          record {
            tree = found.tree;
            stands = found.stands;
            part = inr (inr found.part);
            item = item_further found.tree rest (cell first rest) (inr (inr (part-refl rest))) found.item;
          }

  application_item : (l : Leaf) (ts : Terms) (tree : Tree) (a : Term) → StandsForApplication s tree l ts → Contains (list_of ts) a → IsItemTree tree a
  application_item l no_terms tree a stands there = absurd (contains_none a there)
  application_item l (term t ts) (leaf k) a stands there = absurd stands
  application_item l (term t ts) (cell head list) a (here, later) there =
      let found = list_item (term t ts) list a later there in
      record {
        tree = found.tree;
        stands = found.stands;
        part = inr (inr found.part);
        item = item_further found.tree list (cell head list) (inr (inr (part-refl list))) found.item;
      }

  argument_item : (t a : Term) (tree : Tree) → StandsFor s tree t → Contains (arguments_of t) a → IsItemTree tree a
  argument_item (numeral n) a tree stands there = absurd (contains_none a there)
  argument_item (variable x) a tree stands there = absurd (contains_none a there)
  argument_item (operation op ts) a tree stands there = application_item (operator op) ts tree a stands there
  argument_item (call f ts) a tree stands there = application_item (function_leaf f) ts tree a stands there
  argument_item (let_in bs u) a tree stands there = absurd (contains_none a there)

  tree_within : (t u : Term) (tree : Tree) → IsWithin t u → StandsFor s tree t → IsTreeWithin s tree u
  tree_within t _ tree whole stands = record { tree = tree; stands = stands; part = part-refl tree; place = inl refl }
  tree_within t _ tree (argument u a h there) stands =
      let outer = tree_within t u tree h stands in
      let inner = argument_item u a outer.tree outer.stands there in
      record {
        tree = inner.tree;
        stands = inner.stands;
        part = part-trans inner.tree outer.tree tree inner.part outer.part;
        place = inr (item_further inner.tree outer.tree tree outer.part inner.item);
      }

-- the tree is a leaf, and x one of the three cells of the equality of it and itself
pub record IsLeafCell (tree x : Tree) : Type 0 where
  pub number : ℕ
  pub is : tree ≡ leaf number
  pub there : Has (equal_cells tree tree) x

module _ (s : Table) (v : TermsView) (table : IsTreeTable s) (one : IsOneToOne v.pass) where
  abbrev pub IsBroughtAt : Tree → Tree → Type 0
  IsBroughtAt = IsBroughtIn s table (StandsBefore s v) (references_antisymmetric s v table.table one)

  abbrev IsStageAt : Stage → Term → Term → Type 0
  IsStageAt = IsStageOf s table (StandsBefore s v) (references_antisymmetric s v table.table one)

  record IsSomeStage (t x : Term) : Type 0 where
    way : Stage
    is : IsStageAt way t x

  some_stage : (t x : Term) → IsStage s v t x → IsSomeStage t x
  some_stage t _ itself = record { way = Cells.itself; is = refl }
  some_stage t _ (refilled us h) = record { way = Cells.refilled; is = (us, h, refl) }
  some_stage t _ (formed f h) = record { way = Cells.formed; is = h }

  -- the equality of a leaf and itself
  leaf_equated : (way other : Stage) (k : ℕ) (t f g : Term) (made x : Tree) → IsStageAt way t f → IsStageAt other t g → StandsFor s (leaf k) t
      → StandsFor s made (equality f g) → IsCellTree x → IsPartOf x made → Has (equal_cells (leaf k) (leaf k)) x
  leaf_equated way other k t f g made x h h2 st so is inside = go (equal_parts e.first e.second x is (subst (IsPartOf x) e.is inside))
    where
      before : Term → Term → Type 0
      before = StandsBefore s v

      e : IsEqualTree s table made f g
      e = equal_tree_of s table made f g so

      left : e.first ≡ leaf k
      left =
          let same : f ≡ t = leaf_stage s table (StandsBefore s v) (references_antisymmetric s v table.table one) way k t f st h in
          one_tree s table t e.first (leaf k) (subst (StandsFor s e.first) same e.first_stands) st

      right : e.second ≡ leaf k
      right =
          let same : g ≡ t = leaf_stage s table (StandsBefore s v) (references_antisymmetric s v table.table one) other k t g st h2 in
          one_tree s table t e.second (leaf k) (subst (StandsFor s e.second) same e.second_stands) st

      no_part : (tree : Tree) → tree ≡ leaf k → IsPartOf x tree → Has (equal_cells (leaf k) (leaf k)) x
      no_part tree same part = absurd (subst IsCellTree (subst (IsPartOf x) same part) is)

      go : (IsPartOf x e.first ⊎ IsPartOf x e.second) ⊎ Has (equal_cells e.first e.second) x → Has (equal_cells (leaf k) (leaf k)) x
      go (inl (inl part)) = no_part e.first left part
      go (inl (inr part)) = no_part e.second right part
      go (inr there) = subst (λ a. Has (equal_cells a (leaf k)) x) left (subst (λ b. Has (equal_cells e.first b) x) right there)

  -- what is made for a term with this tree
  made_for : (t f : Term) (tree made x : Tree) → IsMadeFor s v t f → StandsFor s tree t → StandsFor s made f → IsCellTree x → IsPartOf x made
      → IsBroughtAt tree x ⊎ IsLeafCell tree x
  made_for t _ tree made x (stage f h) st so is inside =
      let k = some_stage t f h in
      inl (stage_cells_of s table (StandsBefore s v) (references_antisymmetric s v table.table one) k.way t f tree made x k.is st so is inside)
  made_for t _ (leaf j) made x (equated f g h h2) st so is inside =
      let k = some_stage t f h in
      let k2 = some_stage t g h2 in
      inr (record { number = j; is = refl; there = leaf_equated k.way k2.way j t f g made x k.is k2.is st so is inside })
  made_for t _ (cell a b) made x (equated f g h h2) st so is inside =
      let k = some_stage t f h in
      let k2 = some_stage t g h2 in
      inl (equal_stages_of s table (StandsBefore s v) (references_antisymmetric s v table.table one) k.way k2.way t f g (cell a b) made x k.is k2.is st tt so is
      inside)

  -- what is made from a root, by the tree of that
  pub made_from : (root : ℕ) (t f : Term) (tree made x : Tree) → IsMadeFrom s v root f → RefersTo s v root t → StandsFor s tree t → StandsFor s made f
      → IsCellTree x
      → IsPartOf x made → IsBroughtAt tree x ⊎ IsLeafCell tree x
  made_from root t f tree made x h refers st so is inside = go (made_for h.stands.term f w.tree made x for_term w.stands so is inside)
    where
      of_whole : h.stands.whole ≡ t
      of_whole = (equal_where s v table.table one root root h.stands.whole t h.stands.whole_refers refers).0 refl

      w : IsTreeWithin s tree h.stands.term
      w = tree_within s t h.stands.term tree (subst (λ z. IsWithin z h.stands.term) of_whole h.stands.within) st

      for_term : IsMadeFor s v h.stands.term f
      for_term =
          subst (λ z. IsMadeFor s v z f)
          ((equal_where s v table.table one h.from h.from h.made.term h.stands.term h.made.refers h.stands.refers).0 refl) h.made.made

      at_place : IsLeafCell w.tree x → (w.tree ≡ tree) ⊎ IsItem w.tree tree → IsBroughtAt tree x ⊎ IsLeafCell tree x
      at_place k (inl same) = inr (subst (λ z. IsLeafCell z x) same k)
      at_place k (inr (key, there, first)) =
          inl (key, there, inr (inr (inr (key, refl, subst (λ z. Has (equal_cells z z) x) (sym first) k.there))))

      go : IsBroughtAt w.tree x ⊎ IsLeafCell w.tree x → IsBroughtAt tree x ⊎ IsLeafCell tree x
      go (inl k) =
          inl (brought_further s table (StandsBefore s v) (references_antisymmetric s v table.table one) w.tree tree x w.part k)
      go (inr k) = at_place k w.place
