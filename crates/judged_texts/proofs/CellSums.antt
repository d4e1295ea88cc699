-- The distinct cells of terms are no more than their cells in sum.
use Rattle.std.proofs.Common.{◌≡◌, ◌⊎◌, ℕ, zero, suc, ◌+◌, ◌<◌, ◌≤◌, List, [], ◌∷◌, length, get_or, refl, sym, ap, ◌∙◌, subst, inl, inr, arith}
use Rattle.std.proofs.lemmas.Bool.{cases_lt}
use Rattle.std.specs.List.{Contains}
use Rattle.indexmap.proofs.IndexTableLemmas.Probe.{pigeonhole}
use Rattle.pair_pool.specs.Trees.{Tree, leaf, cell}
use Rattle.sym_table.specs.Leaf.{Leaf, operator}
use Rattle.sym_table.specs.Table.{Table, IsTable}
use Rattle.term_model.specs.Terms.{Term, Terms, Bindings, numeral, variable, operation, call, let_in, no_terms, term, no_bindings, binding}
use Rattle.term_pool.specs.StandsFor.{function_leaf, StandsFor, StandsForApplication, StandsForList, StandsForBindings}
use Rattle.term_pool.specs.Trees.{IsPartOf, IsCellTree}
use Rattle.judged_texts.specs.Cells.{IsCellOfRead, HasMoreCells}
use Rattle.judged_texts.specs.CellSums.{cells_in, cells_in_application, cells_in_list, cells_in_bindings, cells_in_all}

-- the cells of a tree, each counted as often as it stands there
abbrev tree_cells : Tree → ℕ
tree_cells (leaf k) = 0
tree_cells (cell a b) = suc (tree_cells a + tree_cells b)

mutual
  tree_counts : (s : Table) (tree : Tree) (t : Term) → StandsFor s tree t → tree_cells tree ≡ cells_in t
  tree_counts s (leaf k) (numeral n) h = refl
  tree_counts s (cell a b) (numeral n) h = absurd h
  tree_counts s (leaf k) (variable x) h = refl
  tree_counts s (cell a b) (variable x) h = absurd h
  tree_counts s tree (operation op ts) h = application_counts s tree (operator op) ts h
  tree_counts s tree (call f ts) h = application_counts s tree (function_leaf f) ts h
  tree_counts s (leaf k) (let_in bs u) h = absurd h
  tree_counts s (cell a (leaf k)) (let_in bs u) h = absurd h.1
  tree_counts s (cell a (cell list body)) (let_in bs u) h =
      let head : tree_cells a ≡ 0 = ap tree_cells h.0 in
      let bindings : tree_cells list ≡ cells_in_bindings bs = bindings_count s list bs h.1.0 in
      let inner : tree_cells body ≡ cells_in u = tree_counts s body u h.1.1 in
      omega (arith, head, bindings, inner)

  application_counts : (s : Table) (tree : Tree) (l : Leaf) (ts : Terms) → StandsForApplication s tree l ts → tree_cells tree ≡ cells_in_application ts
  application_counts s (leaf k) l no_terms h = refl
  application_counts s (cell a b) l no_terms h = absurd h
  application_counts s (leaf k) l (term t ts) h = absurd h
  application_counts s (cell (cell c d) b) l (term t ts) h = absurd h.0
  application_counts s (cell (leaf k) (leaf j)) l (term t ts) h = absurd h.1
  application_counts s (cell (leaf k) (cell first rest)) l (term t ts) h =
      let one : tree_cells first ≡ cells_in t = tree_counts s first t h.1.0 in
      let others : tree_cells rest ≡ cells_in_list ts = list_counts s rest ts h.1.1 in
      omega (arith, one, others)

  list_counts : (s : Table) (tree : Tree) (ts : Terms) → StandsForList s tree ts → tree_cells tree ≡ cells_in_list ts
  list_counts s tree no_terms h = ap tree_cells h
  list_counts s (leaf k) (term t ts) h = absurd h
  list_counts s (cell first rest) (term t ts) h =
      let one : tree_cells first ≡ cells_in t = tree_counts s first t h.0 in
      let others : tree_cells rest ≡ cells_in_list ts = list_counts s rest ts h.1 in
      omega (arith, one, others)

  bindings_count : (s : Table) (tree : Tree) (bs : Bindings) → StandsForBindings s tree bs → tree_cells tree ≡ cells_in_bindings bs
  bindings_count s tree no_bindings h = ap tree_cells h
  bindings_count s (leaf k) (binding x t bs) h = absurd h
  bindings_count s (cell (leaf k) rest) (binding x t bs) h = absurd h.0
  bindings_count s (cell (cell (cell c d) v) rest) (binding x t bs) h = absurd h.0.0
  bindings_count s (cell (cell (leaf k) v) rest) (binding x t bs) h =
      let one : tree_cells v ≡ cells_in t = tree_counts s v t h.0.1 in
      let others : tree_cells rest ≡ cells_in_bindings bs = bindings_count s rest bs h.1 in
      omega (arith, one, others)

-- the place of a part among the cells of a tree, from 0, each cell before its parts
abbrev place_in : (part t : Tree) → IsPartOf part t → ℕ
place_in part (leaf k) is = 0
place_in part (cell a b) (inl is) = 0
place_in part (cell a b) (inr (inl first)) = suc (place_in part a first)
place_in part (cell a b) (inr (inr second)) = suc (tree_cells a + place_in part b second)

place_within : (part t : Tree) (is : IsPartOf part t) → IsCellTree part → place_in part t is < tree_cells t
place_within part (leaf k) is c = absurd (let none : IsCellTree (leaf k) = rw is at c in none)
place_within part (cell a b) (inl is) c = omega arith
place_within part (cell a b) (inr (inl first)) c = let h = place_within part a first c in omega (arith, h)
place_within part (cell a b) (inr (inr second)) c = let h = place_within part b second c in omega (arith, h)

one_part : (p q t : Tree) (is : IsPartOf p t) (is' : IsPartOf q t) → IsCellTree p → IsCellTree q → place_in p t is ≡ place_in q t is' → p ≡ q
one_part p q (leaf k) is is' c d e = is ∙ sym is'
one_part p q (cell a b) (inl is) (inl is') c d e = is ∙ sym is'
one_part p q (cell a b) (inl is) (inr (inl first)) c d e = absurd (omega (arith, e))
one_part p q (cell a b) (inl is) (inr (inr second)) c d e = absurd (omega (arith, e))
one_part p q (cell a b) (inr (inl first)) (inl is') c d e = absurd (omega (arith, e))
one_part p q (cell a b) (inr (inl first)) (inr (inl first')) c d e = one_part p q a first first' c d (omega (arith, e))
one_part p q (cell a b) (inr (inl first)) (inr (inr second)) c d e = let h = place_within p a first c in absurd (omega (arith, e, h))
one_part p q (cell a b) (inr (inr second)) (inl is') c d e = absurd (omega (arith, e))
one_part p q (cell a b) (inr (inr second)) (inr (inl first)) c d e = let h = place_within q a first d in absurd (omega (arith, e, h))
one_part p q (cell a b) (inr (inr second)) (inr (inr second')) c d e = one_part p q b second second' c d (omega (arith, e))

-- the cells of the terms before a place
abbrev cells_before : List Term → ℕ → ℕ
cells_before [] k = 0
cells_before (t ∷ ts) zero = 0
cells_before (t ∷ ts) (suc k) = cells_in t + cells_before ts k

spot_within : (ts : List Term) (k place : ℕ) (t : Term) → k < length ts → get_or ts k t ≡ t → place < cells_in t → cells_before ts k + place < cells_in_all ts
spot_within [] k place t inside is within = absurd (omega (arith, inside))
spot_within (u ∷ ts) zero place t inside is within = let h : place < cells_in u = rw (sym is) at within in omega (arith, h)
spot_within (u ∷ ts) (suc k) place t inside is within =
    let h = spot_within ts k place t (omega (arith, inside)) is within in omega (arith, h)

one_spot : (ts : List Term) (j k p q : ℕ) (t u : Term) → j < length ts → get_or ts j t ≡ t → k < length ts → get_or ts k u ≡ u
    → p < cells_in t → q < cells_in u → cells_before ts j + p ≡ cells_before ts k + q → (t ≡ u) × (p ≡ q)
one_spot [] j k p q t u inside is inside' is' within within' e = absurd (omega (arith, inside))
one_spot (x ∷ ts) zero zero p q t u inside is inside' is' within within' e = (sym is ∙ is', omega (arith, e))
one_spot (x ∷ ts) zero (suc k) p q t u inside is inside' is' within within' e =
    let h : p < cells_in x = rw (sym is) at within in absurd (omega (arith, e, h))
one_spot (x ∷ ts) (suc j) zero p q t u inside is inside' is' within within' e =
    let h : q < cells_in x = rw (sym is') at within' in absurd (omega (arith, e, h))
one_spot (x ∷ ts) (suc j) (suc k) p q t u inside is inside' is' within within' e =
    one_spot ts j k p q t u (omega (arith, inside)) is (omega (arith, inside')) is' within within' (omega (arith, e))

module _ (one_tree : (s : Table) (a b : Tree) (t : Term) → IsTable s → StandsFor s a t → StandsFor s b t → a ≡ b)
    (IsRead : Term → Type 0) (n : ℕ) (more : HasMoreCells IsRead n)
    (terms : List Term) (among : (t : Term) → IsRead t → Contains terms t) where
  abbrev IsOfText : Tree → Type 0
  IsOfText t = IsCellOfRead more.table IsRead t

  there : (t : Tree) (is : IsOfText t) → Contains terms is.whole
  there t is = among is.whole is.read

  abbrev place : (t : Tree) → IsOfText t → ℕ
  place t is = place_in t is.tree is.part

  within : (t : Tree) (is : IsOfText t) → place t is < cells_in is.whole
  within t is = rw (tree_counts more.table is.tree is.whole is.stands) at (place_within t is.tree is.part is.is_cell)

  abbrev spot : (t : Tree) → IsOfText t → ℕ
  spot t is = cells_before terms (there t is).0 + place t is

  same_tree : (t u : Tree) (is : IsOfText t) (is' : IsOfText u) → spot t is ≡ spot u is' → t ≡ u
  same_tree t u is is' e =
      let both = one_spot terms (there t is).0 (there u is').0 (place t is) (place u is') is.whole is'.whole
      (there t is).1 (there t is).2 (there u is').1 (there u is').2 (within t is) (within u is') e in
      let stands : StandsFor more.table is.tree is'.whole = rw both.0 at is.stands in
      let tree : is'.tree ≡ is.tree = one_tree more.table is'.tree is.tree is'.whole more.is_table is'.stands stands in
      let moved : (part : IsPartOf u is.tree) × (place_in u is.tree part ≡ place u is') =
      subst (λ x. (part : IsPartOf u x) × (place_in u x part ≡ place u is')) tree (is'.part, refl) in
      one_part t u is.tree is.part moved.0 is.is_cell is'.is_cell (both.1 ∙ sym moved.1)

  -- the spot of the cell with a number, and 0 where there is none
  abbrev Number : ℕ → Type 0
  Number i = (i < suc n) ⊎ (suc n ≤ i)

  below : (i : ℕ) → i < suc n → i ≤ n
  below i h = omega (arith, h)

  abbrev spot_at : (i : ℕ) → Number i → ℕ
  spot_at i (inl h) = spot (more.cells i) (more.are i (below i h))
  spot_at i (inr h) = 0

  spot_inside : (i : ℕ) (d : Number i) → i < suc n → spot_at i d < cells_in_all terms
  spot_inside i (inl h) inside =
      let is = more.are i (below i h) in
      let at = there (more.cells i) is in
      spot_within terms at.0 (place (more.cells i) is) is.whole at.1 at.2 (within (more.cells i) is)
  spot_inside i (inr h) inside = absurd (omega (arith, h, inside))

  spot_apart : (i j : ℕ) (d : Number i) (e : Number j) → i < suc n → j < suc n → spot_at i d ≡ spot_at j e → i ≡ j
  spot_apart i j (inl h) (inl h') inside inside' same =
      more.apart i j (below i h) (below j h') (same_tree (more.cells i) (more.cells j) (more.are i (below i h)) (more.are j (below j h')) same)
  spot_apart i j (inr h) e inside inside' same = absurd (omega (arith, h, inside))
  spot_apart i j (inl h) (inr h') inside inside' same = absurd (omega (arith, h', inside'))

  pub more_in_sum : n < cells_in_all terms
  more_in_sum =
      pigeonhole (suc n) (cells_in_all terms) (λ i. spot_at i (cases_lt i (suc n)))
      (λ i inside. spot_inside i (cases_lt i (suc n)) inside)
      (λ i j inside inside' same. spot_apart i j (cases_lt i (suc n)) (cases_lt j (suc n)) inside inside' same)
