-- The shape of a term, by its tree.
use Rattle.std.proofs.Common.{◌≡◌, ◌≢◌, ℕ, zero, suc, ◌<◌, ◌≤◌, ◌^◌, refl, sym, ◌∙◌, ap, arith, List, [], ◌∷◌, length, slice_get, Some, pos, false, nat_eq}
use Rattle.std.proofs.lemmas.Bool.Decides.{nat_tests}
use Rattle.pair_pool.specs.Trees.{Tree, leaf, cell}
use Rattle.pair_pool.specs.Views.{Knows, IsOneToOne, HasPartsOfTrees}
use Rattle.sym_table.specs.Leaf.{Leaf, operator, let_head}
use Rattle.sym_table.specs.Table.{Table, IsLeaf, IsTable}
use Rattle.term_model.specs.Terms.{Term, Bindings, numeral, variable, operation, call, let_in, no_terms, term, no_bindings, binding}
use Rattle.term_pool.specs.StandsFor.{let_tree, variable_leaf, function_leaf, StandsFor, StandsForBindings}
use Rattle.term_pool.specs.Trees.{IsCellTree}
use Rattle.term_pool.specs.TreeLists.{list_length}
use Rattle.term_pool.specs.Views.{TermsView, RefersTo, IsTerm}
use Rattle.term_pool.specs.Reading.{list_of_bindings, IsShapeOf}
use Rattle.term_pool.specs.CellShapes.{leaf_shape, cell_shape, IsTermCell}
use Rattle.term_pool.specs.declared.shape.Shape.{Shape}
use Rattle.term_pool.proofs.ReadingLemmas.{leaf_of, list_count}

-- the symbol of a term that is a leaf, by which it has its shape
pub record LeafSymbol (s : Table) (t : Term) (k : ℕ) : Type 0 where
  pub symbol : Leaf
  pub there : IsLeaf s k symbol
  pub shape : (shown : Shape) → shown ≡ leaf_shape k symbol → IsShapeOf s t shown

pub leaf_symbol : (s : Table) (t : Term) (k : ℕ) → StandsFor s (leaf k) t → LeafSymbol s t k
leaf_symbol s (numeral n) k h = record { symbol = Leaf.numeral (pos n); there = h; shape = λ shown e. e }
leaf_symbol s (variable x) k h = record { symbol = variable_leaf x; there = h; shape = λ shown e. (k, h, e) }
leaf_symbol s (operation op no_terms) k h = record { symbol = operator op; there = h; shape = λ shown e. (k, h, e) }
leaf_symbol s (operation op (term t ts)) k h = absurd h
leaf_symbol s (call f no_terms) k h = record { symbol = function_leaf f; there = h; shape = λ shown e. (k, h, e) }
leaf_symbol s (call f (term t ts)) k h = absurd h
leaf_symbol s (let_in bs u) k h = absurd h

pub place_below : {X : Type 0} → (xs : List X) (k : ℕ) (x : X) → slice_get xs k ≡ Some x → k < length xs
place_below [] k x e = absurd (cc)
place_below (y ∷ xs) zero x e = omega arith
place_below (y ∷ xs) (suc k) x e = let ih = place_below xs k x e in omega arith

-- the head of a term that is a cell
pub record CellSymbol (s : Table) (t : Term) (head rest : Tree) : Type 0 where
  pub number : ℕ
  pub head_is : head ≡ leaf number
  pub let_rest : number ≡ 1 → IsCellTree rest
  pub shape : (shown : Shape) → shown ≡ cell_shape number rest → IsShapeOf s t shown

pub not_let : (s : Table) (k : ℕ) (l : Leaf) → IsLeaf s 1 let_head → IsLeaf s k l → l ≢ let_head → k ≢ 1
not_let s k l h p other e = other (go (rw e at p))
  where
    go : IsLeaf s 1 l → l ≡ let_head
    go q = cc

app_shape : (k : ℕ) (rest : Tree) (n : ℕ) (shown : Shape) → k ≢ 1 → list_length rest ≡ n → shown ≡ cell_shape k rest → shown ≡ Shape.App k n
app_shape k rest n shown other size e =
    let f : nat_eq k 1 ≡ false = grind (arith, nat_tests) in e ∙ rw (f, size)

bindings_count : (s : Table) (bs : Bindings) (list : Tree) → StandsForBindings s list bs → list_length list ≡ length (list_of_bindings bs)
bindings_count s no_bindings list h = rw h
bindings_count s (binding x t bs) (leaf k) h = absurd h
bindings_count s (binding x t bs) (cell a b) h = ap suc (bindings_count s bs b h.1)

pub cell_symbol : (s : Table) → IsLeaf s 1 let_head → (t : Term) (head rest : Tree) → StandsFor s (cell head rest) t → CellSymbol s t head rest
cell_symbol s h (numeral n) head rest p = absurd p
cell_symbol s h (variable x) head rest p = absurd p
cell_symbol s h (operation op no_terms) head rest p = absurd p
cell_symbol s h (operation op (term u us)) (cell a b) rest p = absurd p.0
cell_symbol s h (operation op (term u us)) (leaf k) rest p =
    let other = not_let s k (operator op) h p.0 (λ e. cc) in
    record {
      number = k;
      head_is = refl;
      let_rest = λ e. absurd (other e);
      shape = λ shown e. (k, p.0, app_shape k rest _ shown other (list_count s (term u us) rest p.1) e);
    }
cell_symbol s h (call f no_terms) head rest p = absurd p
cell_symbol s h (call f (term u us)) (cell a b) rest p = absurd p.0
cell_symbol s h (call f (term u us)) (leaf k) rest p =
    let other = not_let s k (function_leaf f) h p.0 (λ e. cc) in
    record {
      number = k;
      head_is = refl;
      let_rest = λ e. absurd (other e);
      shape = λ shown e. (k, p.0, app_shape k rest _ shown other (list_count s (term u us) rest p.1) e);
    }
cell_symbol s h (let_in bs u) head (leaf k) p = absurd p.1
cell_symbol s h (let_in bs u) head (cell list body) p = record {
  number = 1;
  head_is = p.0;
  let_rest = λ e. tt;
  shape = λ shown e. e ∙ ap Shape.LetTerm (bindings_count s bs list p.1.0);
}

pub term_leaf_below : (s : Table) (v : TermsView) (r : ℕ) → IsOneToOne v.pass → HasPartsOfTrees v.pass → r < 2 ^ 30 → IsTerm s v r → r < length s.leaves
term_leaf_below s v r one parts low h =
    let e = leaf_of v.pass one parts r h.refers.tree h.refers.known low in
    let l = leaf_symbol s h.means r (rw e at h.refers.stands) in
    place_below s.leaves r l.symbol l.there

pub term_leaf_shape : (s : Table) (v : TermsView) (r : ℕ) (shown : Shape) → IsOneToOne v.pass → HasPartsOfTrees v.pass → r < 2 ^ 30 → ((l : Leaf) → IsLeaf s r l → shown ≡ leaf_shape r l) → (t : Term) → RefersTo s v r t → IsShapeOf s t shown
term_leaf_shape s v r shown one parts low shows t h =
    let e = leaf_of v.pass one parts r h.tree h.known low in
    let l = leaf_symbol s t r (rw e at h.stands) in
    l.shape shown (shows l.symbol l.there)

head_let : (s : Table) (t : Term) (head rest : Tree) → CellSymbol s t head rest → head ≡ let_tree → IsCellTree rest
head_let s t head rest h e = let f = h.head_is in let number : leaf h.number ≡ leaf 1 = sym f ∙ e in h.let_rest (leaf_number h.number 1 number)
  where
    leaf_number : (m n : ℕ) → leaf m ≡ leaf n → m ≡ n
    leaf_number m n g = cc

pub term_is_cell : (s : Table) (v : TermsView) (r : ℕ) → IsTable s → HasPartsOfTrees v.pass → 2 ^ 30 ≤ r → IsTerm s v r → IsTermCell v.pass r
term_is_cell s v r table parts above h = go h.refers.tree h.refers.known h.refers.stands
  where
    go : (tree : Tree) → Knows v.pass r tree → StandsFor s tree h.means → IsTermCell v.pass r
    go (leaf k) known stands = let n = parts.leaf_number r k known in absurd (omega (arith, n.0, n.1))
    go (cell a b) known stands = record {
      head = a;
      rest = b;
      stands = known;
      let_rest = head_let s h.means a b (cell_symbol s (table.begins 1 let_head refl) h.means a b stands);
    }

pub term_cell_shape : (s : Table) (v : TermsView) (r : ℕ) (shown : Shape) → IsTable s → HasPartsOfTrees v.pass → 2 ^ 30 ≤ r → ((k : ℕ) (t : Tree) → Knows v.pass r (cell (leaf k) t) → shown ≡ cell_shape k t) → (t : Term) → RefersTo s v r t → IsShapeOf s t shown
term_cell_shape s v r shown table parts above shows t h = go h.tree h.known h.stands
  where
    go : (tree : Tree) → Knows v.pass r tree → StandsFor s tree t → IsShapeOf s t shown
    go (leaf k) known stands = let n = parts.leaf_number r k known in absurd (omega (arith, n.0, n.1))
    go (cell a b) known stands =
        let symbol = cell_symbol s (table.begins 1 let_head refl) t a b stands in
        symbol.shape shown (shows symbol.number b (rw symbol.head_is at known))
