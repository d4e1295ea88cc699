-- What references stand for: lists, leaves and cells.
use Rattle.std.proofs.Common.{◌≡◌, ◌≢◌, ◌⊎◌, inl, inr, ℕ, ◌<◌, ◌≤◌, ◌^◌, ℤ, pos, negsuc, ◌*ℤ◌, unsigned_abs, FitsSigned, Option, Some, None, length, slice_get, IsSomeAnd, refl, sym, ap, ◌∙◌, subst, arith}
use Rattle.std.proofs.lemmas.Int.{ints}
use Rattle.std.proofs.lemmas.Option.{slice_get_within}
use Rattle.pair_pool.specs.Trees.{Tree, leaf, cell}
use Rattle.pair_pool.specs.Views.{Knows, IsOneToOne, HasPartsOfTrees}
use Rattle.sym_table.specs.Leaf.{Leaf, operator, let_head}
use Rattle.sym_table.specs.Table.{Table, IsLeaf, IsTable, LeafMeets}
use Rattle.term_model.specs.declared.symbols.Op.{Op}
use Rattle.term_model.specs.Terms.{Term, numeral, variable, operation, call, let_in, Terms, no_terms, term, Bindings, Fun, Var}
use Rattle.term_pool.specs.StandsFor.{variable_leaf, function_leaf, IsLeafOf, StandsFor, StandsForList}
use Rattle.term_pool.specs.Views.{TermsView, RefersTo, IsKnownCell}
use Rattle.term_pool.proofs.OneTerm.{one_term}
use Rattle.term_pool.proofs.ReadingLemmas.{leaf_of}
use Rattle.linear_forms.specs.declared.entries.Entry.{Entry}
use Rattle.linear_forms.specs.declared.entries.Head.{Head}
use Rattle.linear_forms.specs.declared.memory.Item.{Item}
use Rattle.linear_forms.specs.declared.memory.Item.TheVariants.{Term as TermItem, List as ListItem}
use Rattle.linear_forms.specs.Entries.{leaf_entry, leaf_numeral, head_of}
use Rattle.linear_forms.specs.Graphs.{AreSome, IsTermList, IsItemMeant, IsEntry}
use Rattle.linear_forms.specs.Readings.{FormReading, for_constants, for_parts, unit_of, opaque_in, read}
use Rattle.linear_forms.specs.Visits.{HasCellParts, IsNumeralLeaf}
use Rattle.linear_forms.proofs.Entering.{IsOpaqueTerm, IsNumberTerm, numeral_constant, constant_right, number_right, opaque_right}

-- what a leaf meets
pub meets_leaf : (s : Table) (k : ℕ) (P : Leaf → Type 0) (l : Leaf) → LeafMeets s k P → IsLeaf s k l → P l
meets_leaf s k P l h e = subst (λ o. IsSomeAnd o P) e h

opaque_call : (f : Fun) (ts : Terms) → IsOpaqueTerm (call f ts)
opaque_call f ts = record { weight_is = refl; counts = go; none = refl }
  where
    go : (reading : FormReading) → read reading (call f ts) ≡ opaque_in reading (call f ts)
    go for_constants = refl
    go (for_parts w) = refl

opaque_let : (bs : Bindings) (u : Term) → IsOpaqueTerm (let_in bs u)
opaque_let bs u = record { weight_is = refl; counts = go; none = refl }
  where
    go : (reading : FormReading) → read reading (let_in bs u) ≡ opaque_in reading (let_in bs u)
    go for_constants = refl
    go (for_parts w) = refl

opaque_variable : (x : Var) → IsOpaqueTerm (variable x)
opaque_variable x = record { weight_is = refl; counts = go; none = refl }
  where
    go : (reading : FormReading) → read reading (variable x) ≡ opaque_in reading (variable x)
    go for_constants = refl
    go (for_parts w) = refl

-- an operation that is no sum, difference or product
same_read : (t : Term) → ((w : Term → ℤ) → read (for_parts w) t ≡ w t) → read for_constants t ≡ pos 0 → (reading : FormReading) → read reading t ≡ opaque_in reading t
same_read t p c for_constants = c
same_read t p c (for_parts w) = p w

opaque_operation : (op : Op) (ts : Terms) → Head.Other ≡ head_of (operator op) → IsOpaqueTerm (operation op ts)
opaque_operation Op.Plus ts e = absurd (cc)
opaque_operation Op.Minus ts e = absurd (cc)
opaque_operation Op.Times ts e = absurd (cc)
opaque_operation op ts e = record { weight_is = refl; counts = same_read (operation op ts) (λ w. refl) refl; none = refl }

plus_head : (op : Op) → Head.Plus ≡ head_of (operator op) → op ≡ Op.Plus
plus_head Op.Plus e = refl
plus_head op e = absurd (cc)

minus_head : (op : Op) → Head.Minus ≡ head_of (operator op) → op ≡ Op.Minus
minus_head Op.Minus e = refl
minus_head op e = absurd (cc)

times_head : (op : Op) → Head.Times ≡ head_of (operator op) → op ≡ Op.Times
times_head Op.Times e = refl
times_head op e = absurd (cc)

-- operators without arguments
plus_none : IsNumberTerm (operation Op.Plus no_terms) (pos 0)
plus_none = record { weight_is = refl; counts = go; size = omega arith; none = refl }
  where
    go : (reading : FormReading) → read reading (operation Op.Plus no_terms) ≡ pos 0 *ℤ unit_of reading
    go for_constants = refl
    go (for_parts w) = refl

minus_none : IsNumberTerm (operation Op.Minus no_terms) (pos 0)
minus_none = record { weight_is = refl; counts = go; size = omega arith; none = refl }
  where
    go : (reading : FormReading) → read reading (operation Op.Minus no_terms) ≡ pos 0 *ℤ unit_of reading
    go for_constants = refl
    go (for_parts w) = refl

times_none : IsNumberTerm (operation Op.Times no_terms) (pos 1)
times_none = record { weight_is = refl; counts = go; size = omega arith; none = refl }
  where
    go : (reading : FormReading) → read reading (operation Op.Times no_terms) ≡ pos 1 *ℤ unit_of reading
    go for_constants = refl
    go (for_parts w) = refl

-- an operation with the list of its arguments
pub record IsOperation (s : Table) (v : TermsView) (op : Op) (b : ℕ) (t : Term) : Type 0 where
  pub arguments : Terms
  pub is : t ≡ operation op arguments
  pub list : IsTermList s v b arguments

record IsSomeOperation (s : Table) (v : TermsView) (a b : ℕ) (t : Term) : Type 0 where
  op : Op
  head : IsLeaf s a (operator op)
  operation_is : IsOperation s v op b t

record IsOtherCell (s : Table) (a : ℕ) (t : Term) : Type 0 where
  symbol : Leaf
  head : IsLeaf s a symbol
  other : head_of symbol ≡ Head.Other
  is_opaque : IsOpaqueTerm t

-- the parts of a list
pub record ListParts (s : Table) (v : TermsView) (a b : ℕ) (ts : Terms) : Type 0 where
  pub first : Term
  pub rest : Terms
  pub whole : ts ≡ term first rest
  pub one : RefersTo s v a first
  pub last : b < 2 ^ 30 → rest ≡ no_terms
  pub more : 2 ^ 30 ≤ b → IsTermList s v b rest

module _ (s : Table) (v : TermsView) (table : IsTable s) (one : IsOneToOne v.pass) (parts : HasPartsOfTrees v.pass) where
  list_one : (tree : Tree) (ts us : Terms) → StandsForList s tree ts → StandsForList s tree us → ts ≡ us
  list_one tree no_terms no_terms h k = refl
  list_one (leaf n) no_terms (term u us) h k = absurd k
  list_one (cell a b) no_terms (term u us) h k = absurd (cc)
  list_one (leaf n) (term t ts) us h k = absurd h
  list_one (cell a b) (term t ts) no_terms h k = absurd (cc)
  list_one (cell a b) (term t ts) (term u us) h k =
      let first : t ≡ u = one_term s table a t u h.0 k.0 in
      let rest : ts ≡ us = list_one b ts us h.1 k.1 in
      rw (first, rest) refl

  pub term_one : (r : ℕ) (t u : Term) → RefersTo s v r t → RefersTo s v r u → t ≡ u
  term_one r t u h k =
      let same = one.one_tree r h.tree k.tree h.known k.known in
      one_term s table k.tree t u (subst (λ a. StandsFor s a t) same h.stands) k.stands

  pub meant_one : (x : Item) (ts us : Terms) → IsItemMeant s v x ts → IsItemMeant s v x us → ts ≡ us
  meant_one (TermItem r) ts us h k =
      h.alone ∙ ap (λ t. term t no_terms) (term_one r h.means k.means h.refers k.refers) ∙ sym k.alone
  meant_one (ListItem r) ts us h k =
      let same = one.one_tree r h.tree k.tree h.known k.known in
      list_one k.tree ts us (subst (λ a. StandsForList s a ts) same h.stands) k.stands

  leaf_head : (a : ℕ) (head : Tree) (l : Leaf) → Knows v.pass a head → IsLeafOf s head l → IsLeaf s a l
  leaf_head a (leaf k) l known h =
      let e : a ≡ k = (parts.leaf_number a k known).0 in subst (λ n. IsLeaf s n l) (sym e) h
  leaf_head a (cell x y) l known h = absurd h

  cell_cases : (a b : ℕ) (x y : Tree) (t : Term) → Knows v.pass a x → Knows v.pass b y → StandsFor s (cell x y) t → IsSomeOperation s v a b t ⊎ IsOtherCell s a t
  cell_cases a b x y (numeral n) known list h = absurd h
  cell_cases a b x y (variable z) known list h = absurd h
  cell_cases a b x y (operation op no_terms) known list h = absurd h
  cell_cases a b x y (operation op (term u us)) known list h =
      inl (record {
        op = op;
        head = leaf_head a x (operator op) known h.0;
        operation_is = record { arguments = term u us; is = refl; list = record { tree = y; known = list; stands = h.1; filled = tt } };
      })
  cell_cases a b x y (call f no_terms) known list h = absurd h
  cell_cases a b x y (call f (term u us)) known list h =
      inr (record { symbol = function_leaf f; head = leaf_head a x (function_leaf f) known h.0; other = refl; is_opaque = opaque_call f (term u us) })
  cell_cases a b x y (let_in bs u) known list h =
      let e : a ≡ 1 = (parts.leaf_number a 1 (subst (Knows v.pass a) h.0 known)).0 in
      inr (record {
        symbol = let_head;
        head = subst (λ n. IsLeaf s n let_head) (sym e) (table.begins 1 let_head refl);
        other = refl;
        is_opaque = opaque_let bs u;
      })

  cell_term : (r a b : ℕ) (t : Term) → RefersTo s v r t → HasCellParts v.pass r a b → IsSomeOperation s v a b t ⊎ IsOtherCell s a t
  cell_term r a b t h p =
      let same = one.one_tree r h.tree (cell p.first p.second) h.known p.whole in
      cell_cases a b p.first p.second t p.first_known p.second_known (subst (λ x. StandsFor s x t) same h.stands)

  pub head_there : (r a b : ℕ) (t : Term) → RefersTo s v r t → HasCellParts v.pass r a b → a < length s.leaves
  head_there r a b t h p =
      elim (cell_term r a b t h p) [
        | inl x ↦ slice_get_within s.leaves a (operator x.op) x.head
        | inr x ↦ slice_get_within s.leaves a x.symbol x.head
      ]

  applied : (r a b : ℕ) (t : Term) (head : Head) (op : Op) → head ≢ Head.Other → ((p : Op) → head ≡ head_of (operator p) → p ≡ op) → RefersTo s v r t → HasCellParts v.pass r a b → LeafMeets s a (λ (l : Leaf). head ≡ head_of l) → IsOperation s v op b t
  applied r a b t head op other only h p meets =
      elim (cell_term r a b t h p) [
        | inl x ↦ (let e = only x.op (meets_leaf s a (λ (l : Leaf). head ≡ head_of l) (operator x.op) meets x.head) in subst (λ q. IsOperation s v q b t) e x.operation_is)
        | inr x ↦ absurd (other (meets_leaf s a (λ (l : Leaf). head ≡ head_of l) x.symbol meets x.head ∙ x.other))
      ]

  pub plus_cell : (r a b : ℕ) (t : Term) → RefersTo s v r t → HasCellParts v.pass r a b → LeafMeets s a (λ (l : Leaf). Head.Plus ≡ head_of l) → IsOperation s v Op.Plus b t
  plus_cell r a b t h p meets = applied r a b t Head.Plus Op.Plus (λ e. cc) plus_head h p meets

  pub minus_cell : (r a b : ℕ) (t : Term) → RefersTo s v r t → HasCellParts v.pass r a b → LeafMeets s a (λ (l : Leaf). Head.Minus ≡ head_of l) → IsOperation s v Op.Minus b t
  minus_cell r a b t h p meets = applied r a b t Head.Minus Op.Minus (λ e. cc) minus_head h p meets

  pub times_cell : (r a b : ℕ) (t : Term) → RefersTo s v r t → HasCellParts v.pass r a b → LeafMeets s a (λ (l : Leaf). Head.Times ≡ head_of l) → IsOperation s v Op.Times b t
  times_cell r a b t h p meets = applied r a b t Head.Times Op.Times (λ e. cc) times_head h p meets

  pub other_cell : (r a b : ℕ) (t : Term) → RefersTo s v r t → HasCellParts v.pass r a b → LeafMeets s a (λ (l : Leaf). Head.Other ≡ head_of l) → IsOpaqueTerm t
  other_cell r a b t h p meets =
      elim (cell_term r a b t h p) [
        | inl x ↦ (let o = x.operation_is in subst IsOpaqueTerm (sym o.is) (opaque_operation x.op o.arguments (meets_leaf s a (λ (l : Leaf). Head.Other ≡ head_of l) (operator x.op) meets x.head)))
        | inr x ↦ x.is_opaque
      ]

  -- lists
  list_cell : (a b : ℕ) (x y : Tree) (ts : Terms) → Knows v.pass a x → Knows v.pass b y → AreSome ts → StandsForList s (cell x y) ts → ListParts s v a b ts
  list_cell a b x y no_terms known list filled h = absurd filled
  list_cell a b x y (term t ts) known list filled h = record {
    first = t;
    rest = ts;
    whole = refl;
    one = record { tree = x; known = known; stands = h.0 };
    last = λ low. last ts (leaf_of v.pass one parts b y list low) h.1;
    more = λ high. record { tree = y; known = list; stands = h.1; filled = more y ts high list h.1 };
  }
    where
      last : (us : Terms) → y ≡ leaf b → StandsForList s y us → us ≡ no_terms
      last no_terms e k = refl
      last (term u us) e k = absurd (subst (λ z. StandsForList s z (term u us)) e k)

      more : (z : Tree) (us : Terms) → 2 ^ 30 ≤ b → Knows v.pass b z → StandsForList s z us → AreSome us
      more z (term u us) high k stands = tt
      more (leaf n) no_terms high k stands = absurd (let e = parts.leaf_number b n k in omega (arith, e.0, e.1, high))
      more (cell p q) no_terms high k stands = absurd (cc)

  pub list_parts : (list a b : ℕ) (ts : Terms) → IsTermList s v list ts → HasCellParts v.pass list a b → ListParts s v a b ts
  list_parts list a b ts h p =
      let same = one.one_tree list h.tree (cell p.first p.second) h.known p.whole in
      list_cell a b p.first p.second ts p.first_known p.second_known h.filled (subst (λ x. StandsForList s x ts) same h.stands)

  -- a list of one term or more is a cell
  list_tree_cell : (tree : Tree) (ts : Terms) → AreSome ts → StandsForList s tree ts → (x : Tree) × (y : Tree) × (tree ≡ cell x y)
  list_tree_cell tree no_terms filled h = absurd filled
  list_tree_cell (leaf k) (term t ts) filled h = absurd h
  list_tree_cell (cell x y) (term t ts) filled h = (x, y, refl)

  pub list_is_cell : (list : ℕ) (ts : Terms) → IsTermList s v list ts → IsKnownCell v.pass list
  list_is_cell list ts h =
      let c = list_tree_cell h.tree ts h.filled h.stands in
      record { first = c.0; second = c.1; stands = subst (Knows v.pass list) c.2 h.known }

  -- leaves
  leaf_tree : (r : ℕ) (t : Term) → RefersTo s v r t → r < 2 ^ 30 → StandsFor s (leaf r) t
  leaf_tree r t h low = subst (λ x. StandsFor s x t) (leaf_of v.pass one parts r h.tree h.known low) h.stands

  symbol_of : (r : ℕ) (t : Term) → StandsFor s (leaf r) t → (l : Leaf) × IsLeaf s r l
  symbol_of r (numeral n) h = (Leaf.numeral (pos n), h)
  symbol_of r (variable x) h = (variable_leaf x, h)
  symbol_of r (operation op no_terms) h = (operator op, h)
  symbol_of r (operation op (term u us)) h = absurd h
  symbol_of r (call f no_terms) h = (function_leaf f, h)
  symbol_of r (call f (term u us)) h = absurd h
  symbol_of r (let_in bs u) h = absurd h

  pub leaf_there : (r : ℕ) (t : Term) → RefersTo s v r t → r < 2 ^ 30 → r < length s.leaves
  leaf_there r t h low = let l = symbol_of r t (leaf_tree r t h low) in slice_get_within s.leaves r l.0 l.1

  -- a numeral's leaf
  numeral_leaf : (r : ℕ) (t : Term) (n : ℤ) → StandsFor s (leaf r) t → LeafMeets s r (λ (l : Leaf). leaf_numeral l ≡ Some n) → (m : ℕ) × (t ≡ numeral m) × (n ≡ pos m)
  numeral_leaf r (numeral m) n h meets =
      let e : Some (pos m) ≡ Some n = meets_leaf s r (λ (l : Leaf). leaf_numeral l ≡ Some n) (Leaf.numeral (pos m)) meets h in (m, refl, cc)
  numeral_leaf r (variable x) n h meets = absurd (let e = meets_leaf s r (λ (l : Leaf). leaf_numeral l ≡ Some n) (variable_leaf x) meets h in cc)
  numeral_leaf r (operation op no_terms) n h meets = absurd (let e = meets_leaf s r (λ (l : Leaf). leaf_numeral l ≡ Some n) (operator op) meets h in cc)
  numeral_leaf r (operation op (term u us)) n h meets = absurd h
  numeral_leaf r (call f no_terms) n h meets = absurd (let e = meets_leaf s r (λ (l : Leaf). leaf_numeral l ≡ Some n) (function_leaf f) meets h in cc)
  numeral_leaf r (call f (term u us)) n h meets = absurd h
  numeral_leaf r (let_in bs u) n h meets = absurd h

  pub is_numeral : (r : ℕ) (t : Term) (n : ℤ) → RefersTo s v r t → IsNumeralLeaf s r (Some n) → (m : ℕ) × (t ≡ numeral m) × (n ≡ pos m)
  is_numeral r t n h meets = numeral_leaf r t n (leaf_tree r t h meets.0) meets.1

  no_numeral_tree : (r : ℕ) (tree : Tree) (m : ℕ) → Knows v.pass r tree → StandsFor s tree (numeral m) → IsNumeralLeaf s r None → ⊥
  no_numeral_tree r (leaf k) m known h none =
      let e = parts.leaf_number r k known in
      let here : IsLeaf s r (Leaf.numeral (pos m)) = subst (λ n. IsLeaf s n (Leaf.numeral (pos m))) (sym e.0) h in
      let f = meets_leaf s r (λ (l : Leaf). leaf_numeral l ≡ None) (Leaf.numeral (pos m)) (none (omega (arith, e.0, e.1))) here in
      absurd (cc)
  no_numeral_tree r (cell x y) m known h none = absurd h

  pub no_numeral : (r : ℕ) (t : Term) → RefersTo s v r t → IsNumeralLeaf s r None → (m : ℕ) → t ≢ numeral m
  no_numeral r t h none m e = no_numeral_tree r h.tree m h.known (subst (StandsFor s h.tree) e h.stands) none

  -- the entry of a leaf
  module _ (at : ℕ → Terms) (own r : ℕ) (entry : Entry) (meets : LeafMeets s r (λ (l : Leaf). entry ≡ leaf_entry l r own)) where
    entry_is : (l : Leaf) → IsLeaf s r l → entry ≡ leaf_entry l r own
    entry_is l here = meets_leaf s r (λ (l : Leaf). entry ≡ leaf_entry l r own) l meets here

    leaf_operation : (op : Op) → at own ≡ term (operation op no_terms) no_terms → RefersTo s v r (operation op no_terms) → IsLeaf s r (operator op) → IsEntry s v at own (TermItem r) entry
    leaf_operation Op.Plus e refers here = rw (entry_is (operator Op.Plus) here) (number_right s v at own (operation Op.Plus no_terms) e (TermItem r) (pos 0) plus_none)
    leaf_operation Op.Minus e refers here = rw (entry_is (operator Op.Minus) here) (number_right s v at own (operation Op.Minus no_terms) e (TermItem r) (pos 0) minus_none)
    leaf_operation Op.Times e refers here = rw (entry_is (operator Op.Times) here) (number_right s v at own (operation Op.Times no_terms) e (TermItem r) (pos 1) times_none)
    leaf_operation op e refers here = rw (entry_is (operator op) here) (opaque_right s v at own (operation op no_terms) e r (opaque_operation op no_terms refl) refers)

    leaf_right_tree : (t : Term) → at own ≡ term t no_terms → RefersTo s v r t → StandsFor s (leaf r) t → IsEntry s v at own (TermItem r) entry
    leaf_right_tree (numeral n) e refers h = rw (entry_is (Leaf.numeral (pos n)) h) (constant_right s v at own (numeral n) e (TermItem r) (pos n) (numeral_constant n))
    leaf_right_tree (variable x) e refers h = rw (entry_is (variable_leaf x) h) (opaque_right s v at own (variable x) e r (opaque_variable x) refers)
    leaf_right_tree (operation op no_terms) e refers h = leaf_operation op e refers h
    leaf_right_tree (operation op (term u us)) e refers h = absurd h
    leaf_right_tree (call f no_terms) e refers h = rw (entry_is (function_leaf f) h) (opaque_right s v at own (call f no_terms) e r (opaque_call f no_terms) refers)
    leaf_right_tree (call f (term u us)) e refers h = absurd h
    leaf_right_tree (let_in bs u) e refers h = absurd h

    pub leaf_right : (t : Term) → at own ≡ term t no_terms → RefersTo s v r t → r < 2 ^ 30 → IsEntry s v at own (TermItem r) entry
    leaf_right t e refers low = leaf_right_tree t e refers (leaf_tree r t refers low)

pub numeral_fits : (s : Table) → IsTable s → (r : ℕ) (n : ℤ) → LeafMeets s r (λ (l : Leaf). leaf_numeral l ≡ Some n) → FitsSigned mir.Syntax.w128 n → unsigned_abs n < 2 ^ 127
numeral_fits s table r (pos m) meets fits = fits.sfits
numeral_fits s table r (negsuc m) meets fits = absurd (go (slice_get s.leaves r) refl meets)
  where
    go : (o : Option Leaf) → slice_get s.leaves r ≡ o → IsSomeAnd o (λ (l : Leaf). leaf_numeral l ≡ Some (negsuc m)) → ⊥
    go None e h = h
    go (Some (Leaf.numeral z)) e h =
        let same : z ≡ negsuc m = cc in
        let low = table.numerals r z e in
        omega (arith, ints, low, same)
    go (Some l) e h = absurd (cc)
