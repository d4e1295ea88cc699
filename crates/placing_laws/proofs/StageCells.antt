-- Private. The cells on the way from a term to its form, each by a cell of the term: 30 for each, with that one.
use Rattle.std.proofs.Common.{◌≡◌, ◌⊎◌, inl, inr, ℕ, List, [], ◌∷◌, refl, sym, ◌∙◌, ap, subst, arith}
use Rattle.pair_pool.specs.Trees.{Tree, leaf, cell}
use Rattle.sym_table.specs.Leaf.{Leaf, operator}
use Rattle.sym_table.specs.Table.{Table}
use Rattle.term_model.specs.declared.symbols.Op.{Op}
use Rattle.term_model.specs.Flips.{equality}
use Rattle.term_model.specs.Terms.{Fun, Term, numeral, variable, operation, call, let_in, Terms, no_terms, term, list_of, terms_of}
use Rattle.term_pool.specs.CellCounts.{Has}
use Rattle.term_pool.specs.Reading.{arguments_of}
use Rattle.term_pool.specs.StandsFor.{StandsFor, StandsForApplication, StandsForList, function_leaf, nil_tree}
use Rattle.term_pool.specs.Trees.{IsCellTree, IsPartOf}
use Rattle.term_pool.proofs.Keeping.{part-refl, part-trans}
use Rattle.term_pool.proofs.OneTerm.{one_term}
use Rattle.placing_laws.proofs.OneTrees.{IsTreeTable, one_tree}
use Rattle.flip_steps.specs.Forms.{IsAntisymmetric, IsFormOf, AreFormsOf, HasSidesInOrder}
use Rattle.flip_steps.specs.Subterms.{with_arguments}
use Rattle.flip_steps.proofs.FormLemmas.{IsTurned, order_cases, unique_form, unique_forms}
use Rattle.placing_laws.specs.Counts.{AtMost}
use Rattle.placing_laws.proofs.AtMost.{of_each, of_either, of_one}
use Rattle.placing_laws.proofs.PairCells.{equal_tree, equal_cells, equal_parts, IsEqualTree, equal_tree_of}

-- the parts of a cell, and of a leaf the leaf
abbrev pub first_of : Tree → Tree
first_of (leaf k) = leaf k
first_of (cell a b) = a

abbrev pub rest_of : Tree → Tree
rest_of (leaf k) = leaf k
rest_of (cell a b) = b

-- the three stages of a term: itself, over the forms of its arguments, and its form
pub data Stage : Type 0 where
  itself : Stage
  refilled : Stage
  formed : Stage

abbrev pub stages : List Stage
stages = itself ∷ refilled ∷ formed ∷ []

pub is_stage : (stage : Stage) → Has stages stage
is_stage itself = inl refl
is_stage refilled = inr (inl refl)
is_stage formed = inr (inr (inl refl))

arguments_back : (ts : Terms) → terms_of (list_of ts) ≡ ts
arguments_back no_terms = refl
arguments_back (term t ts) = ap (λ us. term t us) (arguments_back ts)

module _ (s : Table) (table : IsTreeTable s) (before : Term → Term → Type 0) (alone : IsAntisymmetric before) where
  abbrev pub IsStageOf : Stage → Term → Term → Type 0
  IsStageOf itself t x = x ≡ t
  IsStageOf refilled t x = (us : Terms) × AreFormsOf before (terms_of (arguments_of t)) us × (x ≡ with_arguments t us)
  IsStageOf formed t x = IsFormOf before t x

  one_stage : (stage : Stage) (t x y : Term) → IsStageOf stage t x → IsStageOf stage t y → x ≡ y
  one_stage itself t x y h k = h ∙ sym k
  one_stage refilled t x y (us, h, e) (ws, k, d) =
      e ∙ ap (with_arguments t) (unique_forms before alone (terms_of (arguments_of t)) us ws h k) ∙ sym d
  one_stage formed t x y h k = unique_form before alone t x y h k

  -- the tree of a stage of the term that a tree stands for
  pub record IsStageTree (stage : Stage) (key tree : Tree) : Type 0 where
    pub whole : Term
    pub stands : StandsFor s key whole
    pub made : Term
    pub is : IsStageOf stage whole made
    pub made_stands : StandsFor s tree made

  one_stage_tree : (stage : Stage) (key x y : Tree) → IsStageTree stage key x → IsStageTree stage key y → x ≡ y
  one_stage_tree stage key x y h k =
      let whole : k.whole ≡ h.whole = one_term s table.table key k.whole h.whole k.stands h.stands in
      let same : k.made ≡ h.made = one_stage stage h.whole k.made h.made (subst (λ t. IsStageOf stage t k.made) whole k.is) h.is in
      one_tree s table h.made x y h.made_stands (subst (StandsFor s y) same k.made_stands)

  -- lists of terms and of their forms
  one_list : (ts us : Terms) (list : Tree) → StandsForList s list ts → StandsForList s list us → ts ≡ us
  one_list no_terms no_terms list h k = refl
  one_list no_terms (term u us) (leaf j) h k = absurd k
  one_list no_terms (term u us) (cell a b) h k = absurd (cc)
  one_list (term t ts) no_terms (leaf j) h k = absurd h
  one_list (term t ts) no_terms (cell a b) h k = absurd (cc)
  one_list (term t ts) (term u us) (leaf j) h k = absurd h
  one_list (term t ts) (term u us) (cell a b) h k =
      ap (λ x. term x ts) (one_term s table.table a t u h.0 k.0) ∙ ap (term u) (one_list ts us b h.1 k.1)

  one_list_tree : (ts : Terms) (x y : Tree) → StandsForList s x ts → StandsForList s y ts → x ≡ y
  one_list_tree no_terms x y h k = h ∙ sym k
  one_list_tree (term t ts) (leaf j) y h k = absurd h
  one_list_tree (term t ts) (cell a b) (leaf j) h k = absurd k
  one_list_tree (term t ts) (cell a b) (cell c d) h k =
      ap (λ x. cell x b) (one_tree s table t a c h.0 k.0) ∙ ap (cell c) (one_list_tree ts b d h.1 k.1)

  pub record IsFormsTree (key tree : Tree) : Type 0 where
    pub terms : Terms
    pub stand : StandsForList s key terms
    pub forms : Terms
    pub are : AreFormsOf before terms forms
    pub forms_stand : StandsForList s tree forms

  one_forms_tree : (key x y : Tree) → IsFormsTree key x → IsFormsTree key y → x ≡ y
  one_forms_tree key x y h k =
      let terms : k.terms ≡ h.terms = one_list k.terms h.terms key k.stand h.stand in
      let forms : k.forms ≡ h.forms =
      unique_forms before alone h.terms k.forms h.forms (subst (λ ts. AreFormsOf before ts k.forms) terms k.are) h.are
      in
      one_list_tree h.forms x y h.forms_stand (subst (StandsForList s y) forms k.forms_stand)

  -- the cells that a cell at the head of an application brings: the head over forms; three of the form with its sides exchanged; and of
  -- the equalities of two stages the lists of one side, and nine of two
  abbrev form_cells : Tree → List Tree
  form_cells tree = tree ∷ rest_of tree ∷ rest_of (rest_of tree) ∷ []

  abbrev AreStageTrees : Stage → Stage → Tree → Tree × Tree → Type 0
  AreStageTrees one other key pair = IsStageTree one key pair.0 × IsStageTree other key pair.1

  abbrev two_cells : Tree × Tree → List Tree
  two_cells pair = equal_tree pair.0 pair.1 ∷ cell pair.0 (cell pair.1 nil_tree) ∷ []

  abbrev IsSideCell : Tree → Stage → Tree → Type 0
  IsSideCell key stage x = (tree : Tree) × IsStageTree stage key tree × Has (cell tree nil_tree ∷ []) x

  abbrev IsSidesCell : Tree → Stage → Stage → Tree → Type 0
  IsSidesCell key one other x = (pair : Tree × Tree) × AreStageTrees one other key pair × Has (two_cells pair) x

  abbrev IsStageCell : Tree → Tree → Type 0
  IsStageCell key x =
      ((tree : Tree) × IsStageTree refilled key tree × Has (tree ∷ []) x) ⊎ ((tree : Tree) × IsStageTree formed key tree × Has (form_cells tree) x)

  abbrev AreEqualStages : Tree → Tree → Type 0
  AreEqualStages key x =
      ((stage : Stage) × Has stages stage × IsSideCell key stage x)
      ⊎ ((one : Stage) × Has stages one × ((other : Stage) × Has stages other × IsSidesCell key one other x))

  abbrev pub IsHeadCell : Tree → Tree → Type 0
  IsHeadCell key x = IsStageCell key x ⊎ AreEqualStages key x

  few_stage_cells : (key : Tree) → AtMost 4 (IsStageCell key)
  few_stage_cells key =
      of_either (λ x. (tree : Tree) × IsStageTree refilled key tree × Has (tree ∷ []) x)
      (λ x. (tree : Tree) × IsStageTree formed key tree × Has (form_cells tree) x) 1 3
      (of_one (IsStageTree refilled key) (λ tree. tree ∷ []) 1 (one_stage_tree refilled key) (λ tree. omega arith))
      (of_one (IsStageTree formed key) form_cells 3 (one_stage_tree formed key) (λ tree. omega arith))

  one_pair : (one other : Stage) (key : Tree) (x y : Tree × Tree) → AreStageTrees one other key x → AreStageTrees one other key y → x ≡ y
  one_pair one other key (a, b) (c, d) h k =
      ap (λ z. (z, b)) (one_stage_tree one key a c h.0 k.0) ∙ ap (λ z. (c, z)) (one_stage_tree other key b d h.1 k.1)

  few_equal_stages : (key : Tree) → AtMost 21 (AreEqualStages key)
  few_equal_stages key =
      of_either (λ x. (stage : Stage) × Has stages stage × IsSideCell key stage x)
      (λ x. (one : Stage) × Has stages one × ((other : Stage) × Has stages other × IsSidesCell key one other x)) 3 18
      (of_each (IsSideCell key) 1 stages
      (λ stage there. of_one (IsStageTree stage key) (λ tree. cell tree nil_tree ∷ []) 1 (one_stage_tree stage key) (λ tree. omega arith)))
      (of_each (λ one x. (other : Stage) × Has stages other × IsSidesCell key one other x) 6 stages
      (λ one there. of_each (IsSidesCell key one) 2 stages
      (λ other there2. of_one (AreStageTrees one other key) two_cells 2 (one_pair one other key) (λ pair. omega arith))))

  pub few_head_cells : (key : Tree) → AtMost 25 (IsHeadCell key)
  few_head_cells key = of_either (IsStageCell key) (AreEqualStages key) 4 21 (few_stage_cells key) (few_equal_stages key)

  -- those that a cell of a list of arguments brings: the list of their forms, and the equality of the first one and itself
  abbrev item_cells : Tree → List Tree
  item_cells key = equal_cells (first_of key) (first_of key)

  abbrev pub IsListCell : Tree → Tree → Type 0
  IsListCell key x = ((tree : Tree) × IsFormsTree key tree × Has (tree ∷ []) x) ⊎ ((tree : Tree) × (tree ≡ key) × Has (item_cells tree) x)

  pub few_list_cells : (key : Tree) → AtMost 4 (IsListCell key)
  few_list_cells key =
      of_either (λ x. (tree : Tree) × IsFormsTree key tree × Has (tree ∷ []) x) (λ x. (tree : Tree) × (tree ≡ key) × Has (item_cells tree) x) 1 3
      (of_one (IsFormsTree key) (λ tree. tree ∷ []) 1 (one_forms_tree key) (λ tree. omega arith))
      (of_one (λ tree. tree ≡ key) item_cells 3 (λ x y e f. e ∙ sym f) (λ tree. omega arith))

  -- the cell itself, or one that it brings
  abbrev pub IsBroughtBy : Tree → Tree → Type 0
  IsBroughtBy key x = (x ≡ key) ⊎ (IsHeadCell key x ⊎ IsListCell key x)

  pub few_brought : (key : Tree) → AtMost 30 (IsBroughtBy key)
  few_brought key =
      of_either (λ x. x ≡ key) (λ x. IsHeadCell key x ⊎ IsListCell key x) 1 29 one
      (of_either (IsHeadCell key) (IsListCell key) 25 4 (few_head_cells key) (few_list_cells key))
    where
      one : AtMost 1 (λ x. x ≡ key)
      one xs apart each =
          of_one (λ (y : Tree). y ≡ key) (λ y. y ∷ []) 1 (λ x y e f. e ∙ sym f) (λ y. omega arith) xs apart (λ x there. (key, refl, inl (each x there)))

  -- some cell of the tree brings it
  abbrev pub IsBroughtIn : Tree → Tree → Type 0
  IsBroughtIn tree x = (key : Tree) × (IsCellTree key × IsPartOf key tree) × IsBroughtBy key x

  pub own_cell : (tree x : Tree) → IsCellTree x → IsPartOf x tree → IsBroughtIn tree x
  own_cell tree x is inside = (x, (is, inside), inl refl)

  pub brought_further : (tree whole x : Tree) → IsPartOf tree whole → IsBroughtIn tree x → IsBroughtIn whole x
  brought_further tree whole x inside (key, (is, part), by) = (key, (is, part-trans key tree whole part inside), by)

  -- where the trees stand for one term, a cell of the one is a cell of the other
  same_term : (t : Term) (tree other x : Tree) → StandsFor s tree t → StandsFor s other t → IsCellTree x → IsPartOf x other → IsBroughtIn tree x
  same_term t tree other x h k is inside = own_cell tree x is (subst (IsPartOf x) (one_tree s table t other tree k h) inside)

  abbrev BringsForms : Terms → Terms → Type 0
  BringsForms ts us =
      (list other x : Tree) → StandsForList s list ts → StandsForList s other us → IsCellTree x → IsPartOf x other → IsBroughtIn list x

  -- an application over forms
  apply_cells : (l : Leaf) (ts us : Terms) (tree other x : Tree) → AreFormsOf before ts us → BringsForms ts us → StandsForApplication s tree l ts
      → StandsForApplication s other l us → IsStageTree refilled tree other → IsCellTree x → IsPartOf x other → IsBroughtIn tree x
  apply_cells l no_terms no_terms tree (leaf k) x h inner st so whole is inside = absurd (subst IsCellTree inside is)
  apply_cells l no_terms no_terms tree (cell a b) x h inner st so whole is inside = absurd so
  apply_cells l no_terms (term u us) tree other x h inner st so whole is inside = absurd (cc)
  apply_cells l (term t ts) no_terms tree other x h inner st so whole is inside = absurd h
  apply_cells l (term t ts) (term u us) (leaf k) other x h inner st so whole is inside = absurd st
  apply_cells l (term t ts) (term u us) (cell c d) (leaf k) x h inner st so whole is inside = absurd so
  apply_cells l (term t ts) (term u us) (cell c d) (cell (cell a a2) b) x h inner st so whole is inside = absurd so.0
  apply_cells l (term t ts) (term u us) (cell c d) (cell (leaf k) b) x h inner st so whole is (inl e) =
      (cell c d, (tt, inl refl), inr (inl (inl (inl (cell (leaf k) b, whole, inl e)))))
  apply_cells l (term t ts) (term u us) (cell c d) (cell (leaf k) b) x h inner st so whole is (inr (inl e)) = absurd (subst IsCellTree e is)
  apply_cells l (term t ts) (term u us) (cell c d) (cell (leaf k) b) x h inner st so whole is (inr (inr below)) =
      brought_further d (cell c d) x (inr (inr (part-refl d))) (inner d b x st.1 so.1 is below)

  -- an equality of forms with its sides exchanged
  exchanged_cells : (t a b : Term) (ts : Terms) (l : Leaf) (tree other x : Tree) → BringsForms ts (term a (term b no_terms))
      → (AreFormsOf before ts (term a (term b no_terms)))
      → StandsForApplication s tree l ts → StandsFor s other (equality b a) → IsStageTree formed tree other → IsCellTree x → IsPartOf x other
      → IsBroughtIn tree x
  exchanged_cells t a b no_terms l tree other x inner h st so whole is inside = absurd (cc)
  exchanged_cells t a b (term u us) l (leaf k) other x inner h st so whole is inside = absurd st
  exchanged_cells t a b (term u us) l (cell c d) other x inner h st so whole is inside =
      go (equal_parts e.first e.second x is (subst (IsPartOf x) e.is inside))
    where
      e : IsEqualTree s table other b a
      e = equal_tree_of s table other b a so

      below : IsPartOf x (cell e.second (cell e.first nil_tree)) → IsBroughtIn (cell c d) x
      below part =
          brought_further d (cell c d) x (inr (inr (part-refl d)))
          (inner d (cell e.second (cell e.first nil_tree)) x st.1 (e.second_stands, (e.first_stands, refl)) is part)

      of_form : Has (form_cells other) x → IsBroughtIn (cell c d) x
      of_form there = (cell c d, (tt, inl refl), inr (inl (inl (inr (other, whole, there)))))

      go : (IsPartOf x e.first ⊎ IsPartOf x e.second) ⊎ Has (equal_cells e.first e.second) x → IsBroughtIn (cell c d) x
      go (inl (inl part)) = below (inr (inr (inr (inl part))))
      go (inl (inr part)) = below (inr (inl part))
      go (inr there) = of_form (subst (λ y. Has (form_cells y) x) (sym e.is) there)

  leaf_applied : (op : Op) (ts : Terms) (f : Term) → ts ≡ no_terms → IsTurned before (operation op ts) f → ⊥
  leaf_applied op ts f e h = let same = h.is in absurd (cc)

  formed_tree : (t f : Term) (tree other : Tree) → IsFormOf before t f → StandsFor s tree t → StandsFor s other f → IsStageTree formed tree other
  formed_tree t f tree other h st so = record { whole = t; stands = st; made = f; is = h; made_stands = so }

  refilled_tree : (t f : Term) (ts us : Terms) (tree other : Tree) → terms_of (arguments_of t) ≡ ts → AreFormsOf before ts us → f ≡ with_arguments t us
      → StandsFor s tree t → StandsFor s other f → IsStageTree refilled tree other
  refilled_tree t f ts us tree other back h e st so =
      record { whole = t; stands = st; made = f; is = (us, subst (λ xs. AreFormsOf before xs us) (sym back) h, e); made_stands = so }

  call_cells : (c : Fun) (ts us : Terms) (f : Term) (tree other x : Tree) → AreFormsOf before ts us → BringsForms ts us → f ≡ call c us
      → StandsFor s tree (call c ts)
      → StandsFor s other f → IsCellTree x → IsPartOf x other → IsBroughtIn tree x
  call_cells c ts us f tree other x h inner e st so is inside =
      apply_cells (function_leaf c) ts us tree other x h inner st (subst (StandsFor s other) e so)
      (refilled_tree (call c ts) f ts us tree other (arguments_back ts) h e st so) is inside

  operation_cells : (op : Op) (ts us : Terms) (f : Term) (tree other x : Tree) → AreFormsOf before ts us → BringsForms ts us → f ≡ operation op us
      → StandsFor s tree (operation op ts) → StandsFor s other f → IsCellTree x → IsPartOf x other → IsBroughtIn tree x
  operation_cells op ts us f tree other x h inner e st so is inside =
      apply_cells (operator op) ts us tree other x h inner st (subst (StandsFor s other) e so)
      (refilled_tree (operation op ts) f ts us tree other (arguments_back ts) h e st so) is inside

  ordered_cells : (op : Op) (ts us : Terms) (f : Term) (tree other x : Tree) → AreFormsOf before ts us → BringsForms ts us
      → HasSidesInOrder before (operation op us) f
      → StandsFor s tree (operation op ts) → StandsFor s other f → IsCellTree x → IsPartOf x other → IsBroughtIn tree x
  ordered_cells op ts us f tree other x h inner e st so is inside = go (order_cases before (operation op us) f e)
    where
      go : (f ≡ operation op us) ⊎ IsTurned before (operation op us) f → IsBroughtIn tree x
      go (inl same) = operation_cells op ts us f tree other x h inner same st so is inside
      go (inr turned) =
          let sides : us ≡ term turned.left (term turned.right no_terms) = let same = turned.is in cc in
          exchanged_cells (operation op ts) turned.left turned.right ts (operator op) tree other x (subst (BringsForms ts) sides inner)
          (subst (AreFormsOf before ts) sides h) st (subst (StandsFor s other) turned.turned so)
          (formed_tree (operation op ts) f tree other (us, h, e) st so) is inside

  mutual
    -- the cells of a form
    form_cells_of : (t f : Term) (tree other x : Tree) → IsFormOf before t f → StandsFor s tree t → StandsFor s other f → IsCellTree x → IsPartOf x other
        → IsBroughtIn tree x
    form_cells_of (numeral n) f tree other x h st so is inside = same_term (numeral n) tree other x st (subst (StandsFor s other) h so) is inside
    form_cells_of (variable y) f tree other x h st so is inside = same_term (variable y) tree other x st (subst (StandsFor s other) h so) is inside
    form_cells_of (let_in bs t) f tree other x h st so is inside = same_term (let_in bs t) tree other x st (subst (StandsFor s other) h so) is inside
    form_cells_of (call c ts) f tree other x (us, h, e) st so is inside =
        call_cells c ts us f tree other x h (λ list forms y sl sf. forms_cells_of ts us list forms y h sl sf) e st so is inside
    form_cells_of (operation op ts) f tree other x (us, h, e) st so is inside =
        ordered_cells op ts us f tree other x h (λ list forms y sl sf. forms_cells_of ts us list forms y h sl sf) e st so is inside

    forms_cells_of : (ts us : Terms) (list other x : Tree) → AreFormsOf before ts us → StandsForList s list ts → StandsForList s other us → IsCellTree x
        → IsPartOf x other → IsBroughtIn list x
    forms_cells_of no_terms us list other x h sl so is inside =
        let nil : other ≡ nil_tree = subst (StandsForList s other) h so in
        absurd (subst IsCellTree (subst (IsPartOf x) nil inside) is)
    forms_cells_of (term t ts) no_terms list other x h sl so is inside = absurd h
    forms_cells_of (term t ts) (term u us) (leaf k) other x h sl so is inside = absurd sl
    forms_cells_of (term t ts) (term u us) (cell a b) (leaf k) x h sl so is inside = absurd so
    forms_cells_of (term t ts) (term u us) (cell a b) (cell c d) x h sl so is (inl e) = (
      cell a b,
      (tt, inl refl),
      inr (inr (inl (cell c d, record { terms = term t ts; stand = sl; forms = term u us; are = h; forms_stand = so }, inl e))),
    )
    forms_cells_of (term t ts) (term u us) (cell a b) (cell c d) x h sl so is (inr (inl part)) =
        brought_further a (cell a b) x (inr (inl (part-refl a))) (form_cells_of t u a c x h.0 sl.0 so.0 is part)
    forms_cells_of (term t ts) (term u us) (cell a b) (cell c d) x h sl so is (inr (inr part)) =
        brought_further b (cell a b) x (inr (inr (part-refl b))) (forms_cells_of ts us b d x h.1 sl.1 so.1 is part)

  -- the cells of a stage
  pub stage_cells_of : (stage : Stage) (t f : Term) (tree other x : Tree) → IsStageOf stage t f → StandsFor s tree t → StandsFor s other f → IsCellTree x
      → IsPartOf x other → IsBroughtIn tree x
  stage_cells_of itself t f tree other x e st so is inside = same_term t tree other x st (subst (StandsFor s other) e so) is inside
  stage_cells_of formed t f tree other x h st so is inside = form_cells_of t f tree other x h st so is inside
  stage_cells_of refilled (numeral n) f tree other x (us, h, e) st so is inside =
      same_term (numeral n) tree other x st (subst (StandsFor s other) e so) is inside
  stage_cells_of refilled (variable y) f tree other x (us, h, e) st so is inside =
      same_term (variable y) tree other x st (subst (StandsFor s other) e so) is inside
  stage_cells_of refilled (let_in bs t) f tree other x (us, h, e) st so is inside =
      same_term (let_in bs t) tree other x st (subst (StandsFor s other) e so) is inside
  stage_cells_of refilled (call c ts) f tree other x (us, h, e) st so is inside =
      let forms = subst (λ xs. AreFormsOf before xs us) (arguments_back ts) h in
      call_cells c ts us f tree other x forms (λ list others y sl sf. forms_cells_of ts us list others y forms sl sf) e st so is inside
  stage_cells_of refilled (operation op ts) f tree other x (us, h, e) st so is inside =
      let forms = subst (λ xs. AreFormsOf before xs us) (arguments_back ts) h in
      operation_cells op ts us f tree other x forms (λ list others y sl sf. forms_cells_of ts us list others y forms sl sf) e st so is inside

  -- the cells of the equality of two stages of a term that is no leaf
  pub equal_stages_of : (one other : Stage) (t f g : Term) (tree whole x : Tree) → IsStageOf one t f → IsStageOf other t g → StandsFor s tree t
      → IsCellTree tree
      → StandsFor s whole (equality f g) → IsCellTree x → IsPartOf x whole → IsBroughtIn tree x
  equal_stages_of one other t f g tree whole x h k st cell_tree so is inside = go (equal_parts e.first e.second x is (subst (IsPartOf x) e.is inside))
    where
      e : IsEqualTree s table whole f g
      e = equal_tree_of s table whole f g so

      left : IsStageTree one tree e.first
      left = record { whole = t; stands = st; made = f; is = h; made_stands = e.first_stands }

      right : IsStageTree other tree e.second
      right = record { whole = t; stands = st; made = g; is = k; made_stands = e.second_stands }

      sides : Has (two_cells (e.first, e.second)) x → IsBroughtIn tree x
      sides there =
          (tree, (cell_tree, part-refl tree), inr (inl (inr (inr (one, is_stage one, (other, is_stage other, ((e.first, e.second), (left, right), there)))))))

      go : (IsPartOf x e.first ⊎ IsPartOf x e.second) ⊎ Has (equal_cells e.first e.second) x → IsBroughtIn tree x
      go (inl (inl part)) = stage_cells_of one t f tree e.first x h st e.first_stands is part
      go (inl (inr part)) = stage_cells_of other t g tree e.second x k st e.second_stands is part
      go (inr (inl same)) = sides (inl same)
      go (inr (inr (inl same))) = sides (inr (inl same))
      go (inr (inr (inr (inl same)))) =
          (tree, (cell_tree, part-refl tree), inr (inl (inr (inl (other, is_stage other, (e.second, right, inl same))))))
      go (inr (inr (inr (inr none)))) = absurd none

  -- a leaf has no other stages
  pub leaf_stage : (stage : Stage) (k : ℕ) (t f : Term) → StandsFor s (leaf k) t → IsStageOf stage t f → f ≡ t
  leaf_stage itself k t f st h = h
  leaf_stage refilled k (numeral n) f st (us, h, e) = e
  leaf_stage refilled k (variable y) f st (us, h, e) = e
  leaf_stage refilled k (let_in bs t) f st (us, h, e) = e
  leaf_stage refilled k (call c no_terms) f st (us, h, e) = e ∙ ap (call c) h
  leaf_stage refilled k (call c (term t ts)) f st (us, h, e) = absurd st
  leaf_stage refilled k (operation op no_terms) f st (us, h, e) = e ∙ ap (operation op) h
  leaf_stage refilled k (operation op (term t ts)) f st (us, h, e) = absurd st
  leaf_stage formed k (numeral n) f st h = h
  leaf_stage formed k (variable y) f st h = h
  leaf_stage formed k (let_in bs t) f st h = h
  leaf_stage formed k (call c no_terms) f st (us, h, e) = e ∙ ap (call c) h
  leaf_stage formed k (call c (term t ts)) f st (us, h, e) = absurd st
  leaf_stage formed k (operation op no_terms) f st (us, h, e) = elim (order_cases before (operation op us) f e) [
    | inl same ↦ same ∙ ap (operation op) h
    | inr turned ↦ absurd (leaf_applied op us f h turned)
  ]
  leaf_stage formed k (operation op (term t ts)) f st (us, h, e) = absurd st
