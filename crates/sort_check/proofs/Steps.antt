-- One step on the way down to the sort of a term.
use Rattle.std.proofs.Common.{◌≡◌, ℕ, ◌<◌, ◌≤◌, List, [], ◌∷◌, length, slice_get, Some, IsTrue, refl, sym, ◌∙◌, ap, arith, ℤ}
use Rattle.pair_pool.specs.Views.{Cell, PoolView, PassView}
use Rattle.sym_table.specs.declared.kind.Kind.{Kind}
use Rattle.sym_table.specs.Leaf.{operator, kind_of, is_function, target_of}
use Rattle.sym_table.specs.Table.{Table, IsLeaf, LeafMeets, IsFunctionLeaf}
use Rattle.term_model.specs.declared.symbols.Sort.{Sort}
use Rattle.term_model.specs.declared.symbols.Op.{Op}
use Rattle.term_model.specs.Terms.{Var, Fun, Term, Terms, Bindings, numeral, variable, operation, call, let_in, no_terms, term, list_of}
use Rattle.term_model.specs.Sorts.{IsOf, AreOf, application_sort}
use Rattle.term_model.proofs.Sorting.{operation_application}
use Rattle.term_model.proofs.Arities.{choice_sort_of, call_sort_of}
use Rattle.term_model.specs.Heights.{height, highest}
use Rattle.term_pool.specs.declared.shape.Shape.{Shape}
use Rattle.term_pool.specs.Reading.{arguments_of, IsShapeOf, HasArgument, IsLetTerm}
use Rattle.term_pool.specs.StandsFor.{variable_leaf, function_leaf}
use Rattle.term_pool.specs.Views.{TermsView, RefersTo}
use Rattle.sort_check.specs.declared.descent.Step.{Step}
use Rattle.sort_check.specs.Descent.{IsWellSortedApplication, IsVariable, IsHeadOf, IsLower, IsStep}
use Rattle.sort_check.specs.WellSorted.{IsWellSortedTerm}
use Rattle.sort_check.proofs.Leaves.{meets, there, at_leaf, operator_leaf}

abbrev pass_of : ℕ → ℕ → List Cell → List Cell → List Cell → PassView
pass_of places shares seen known placed =
    record { places = places; shares = shares; seen = seen; known = known; placed = placed }

abbrev terms_of : PoolView → PassView → TermsView
terms_of pool pass = record { pool = pool; pass = pass }

-- by the shape of a term, what it is
pub shape_number : (s : Table) (t : Term) (n : Shape) (sort : Sort) (m : ℤ) → IsShapeOf s t n → n ≡ Shape.Num m → IsOf t sort → Sort.Int ≡ sort
shape_number s (numeral k) n sort m h e i = sym i
shape_number s (variable x) n sort m h e i = let f = h.2 in absurd cc
shape_number s (operation op ts) n sort m h e i = let f = h.2 in absurd cc
shape_number s (call f ts) n sort m h e i = let g = h.2 in absurd cc
shape_number s (let_in bs u) n sort m h e i = absurd cc

pub shape_variable : (s : Table) (t : Term) (n : Shape) (k : ℕ) → IsShapeOf s t n → n ≡ Shape.Var k → (x : Var) × (t ≡ variable x) × IsLeaf s k (variable_leaf x)
shape_variable s (numeral m) n k h e = absurd cc
shape_variable s (variable x) n k h e =
    let same : h.0 ≡ k = number h.0 k (sym h.2 ∙ e) in (x, refl, (rw same at h.1))
  where
    number : (a b : ℕ) → Shape.Var a ≡ Shape.Var b → a ≡ b
    number a b f = cc
shape_variable s (operation op ts) n k h e = let f = h.2 in absurd cc
shape_variable s (call f ts) n k h e = let g = h.2 in absurd cc
shape_variable s (let_in bs u) n k h e = absurd cc

pub shape_let : (s : Table) (t : Term) (n : Shape) (m : ℕ) → IsShapeOf s t n → n ≡ Shape.LetTerm m → (bs : Bindings) × (u : Term) × (t ≡ let_in bs u)
shape_let s (numeral k) n m h e = absurd cc
shape_let s (variable x) n m h e = let f = h.2 in absurd cc
shape_let s (operation op ts) n m h e = let f = h.2 in absurd cc
shape_let s (call f ts) n m h e = let g = h.2 in absurd cc
shape_let s (let_in bs u) n m h e = (bs, u, refl)

pub shape_application : (s : Table) (t : Term) (n : Shape) (k m : ℕ) → IsShapeOf s t n → n ≡ Shape.App k m → IsHeadOf s k t
shape_application s (numeral j) n k m h e = absurd cc
shape_application s (variable x) n k m h e = let f = h.2 in absurd cc
shape_application s (operation op ts) n k m h e =
    let same : h.0 ≡ k = number h.0 k (length (list_of ts)) m (sym h.2 ∙ e) in (rw same at h.1)
  where
    number : (a b c d : ℕ) → Shape.App a c ≡ Shape.App b d → a ≡ b
    number a b c d f = cc
shape_application s (call f ts) n k m h e =
    let same : h.0 ≡ k = number h.0 k (length (list_of ts)) m (sym h.2 ∙ e) in (rw same at h.1)
  where
    number : (a b c d : ℕ) → Shape.App a c ≡ Shape.App b d → a ≡ b
    number a b c d g = cc
shape_application s (let_in bs u) n k m h e = absurd cc

-- the steps
pub number_step : (s : Table) (v : TermsView) (r : ℕ) (n : Shape) (z : ℤ) → ((t : Term) → RefersTo s v r t → IsShapeOf s t n) → n ≡ Shape.Num z → (t : Term) (sort : Sort) → RefersTo s v r t → IsOf t sort → Sort.Int ≡ sort
number_step s v r n z shape e t sort h i = shape_number s t n sort z (shape t h) e i

pub is_variable : (s : Table) (v : TermsView) (r k : ℕ) (n : Shape) → ((t : Term) → RefersTo s v r t → IsShapeOf s t n) → n ≡ Shape.Var k → IsWellSortedTerm s v r → IsVariable s k
is_variable s v r k n shape e w =
    let x = shape_variable s w.means n k (shape w.means w.refers) e in record { name = x.0; leaf = x.2 }

pub variable_step : (s : Table) (v : TermsView) (r k : ℕ) (n : Shape) (u : Sort) → ((t : Term) → RefersTo s v r t → IsShapeOf s t n) → n ≡ Shape.Var k → ((x : Var) → IsLeaf s k (variable_leaf x) → u ≡ x.sort) → (t : Term) (sort : Sort) → RefersTo s v r t → IsOf t sort → u ≡ sort
variable_step s v r k n u shape e found t sort h i =
    let x = shape_variable s t n k (shape t h) e in
    let j : IsOf (variable x.0) sort = rw x.1 at i in
    found x.0 x.2 ∙ sym j

pub is_let : (s : Table) (v : TermsView) (r m : ℕ) (n : Shape) → ((t : Term) → RefersTo s v r t → IsShapeOf s t n) → n ≡ Shape.LetTerm m → IsWellSortedTerm s v r → IsLetTerm v r
is_let s v r m n shape e w =
    let x = shape_let s w.means n m (shape w.means w.refers) e in
    record { symbols = s; bindings = x.0; body = x.1; refers = rw x.2 at w.refers }

pub let_step : (s : Table) (v w : TermsView) (r b m : ℕ) (n : Shape) → w ≡ v → ((t : Term) → RefersTo s v r t → IsShapeOf s t n) → n ≡ Shape.LetTerm m → ((s : Table) (bs : Bindings) (u : Term) → RefersTo s v r (let_in bs u) → RefersTo s w b u) → (t : Term) (sort : Sort) → RefersTo s v r t → IsOf t sort → IsLower s v t sort b
unfolding height
let_step s v w r b m n same shape e body t sort h i =
    let x = shape_let s t n m (shape t h) e in
    let j : IsOf (let_in x.0 x.1) sort = rw x.2 at i in
    let k : RefersTo s v r (let_in x.0 x.1) = rw x.2 at h in
    let d : height t ≡ height (let_in x.0 x.1) = ap height x.2 in
    record { lower = x.1; refers = rw same at (body s x.0 x.1 k); of = j.1; below = rw d (omega arith) }

pub is_application : (s : Table) (v : TermsView) (r k m : ℕ) (n : Shape) → ((t : Term) → RefersTo s v r t → IsShapeOf s t n) → n ≡ Shape.App k m → IsWellSortedTerm s v r → IsWellSortedApplication s v r k
is_application s v r k m n shape e w = record { term = w; head = shape_application s w.means n k m (shape w.means w.refers) e }

-- what the leaf of a head says of the application
head_operation : (s : Table) (k : ℕ) (op : Op) (t : Term) → IsLeaf s k (operator op) → IsHeadOf s k t → (ts : Terms) × (t ≡ operation op ts)
head_operation s k op (numeral n) p h = absurd h
head_operation s k op (variable x) p h = absurd h
head_operation s k op (operation q ts) p h = (ts, ap (λ o. operation o ts) (go q op (sym h ∙ p)))
  where
    go : (a b : Op) → Some (operator a) ≡ Some (operator b) → a ≡ b
    go a b e = cc
head_operation s k op (call f ts) p h = absurd (go (sym h ∙ p))
  where
    go : Some (function_leaf f) ≡ Some (operator op) → ⊥
    go e = cc
head_operation s k op (let_in bs u) p h = absurd h

pub operator_step : (s : Table) (k n : ℕ) (op : Op) (u : Sort) → LeafMeets s k (λ l. Kind.Op op ≡ kind_of n l) → ((ss : List Sort) (sort : Sort) → application_sort op ss ≡ Some sort → sort ≡ u) → (t : Term) (sort : Sort) → IsOf t sort → IsHeadOf s k t → u ≡ sort
operator_step s k n op u h fixed t sort i head =
    let x = there s k (λ l. Kind.Op op ≡ kind_of n l) h in
    let leaf : IsLeaf s k (operator op) = x.1 ∙ ap Some (operator_leaf n op x.0 x.2) in
    let y = head_operation s k op t leaf head in
    let j : IsOf (operation op y.0) sort = rw y.1 at i in
    sym (fixed j.sorts sort (operation_application op y.0 j.sorts sort j.is))

-- the first branch of a well-sorted `ite`
record IsBranch (ts : Terms) (sort : Sort) : Type 0 where
  branch : Term
  there : slice_get (list_of ts) 1 ≡ Some branch
  long : 1 < length (list_of ts)
  of : IsOf branch sort
  below : height branch ≤ highest ts

branch_of : (ts : Terms) (sort : Sort) → AreOf ts (Sort.Bool ∷ sort ∷ sort ∷ []) → IsBranch ts sort
unfolding height
branch_of no_terms sort h = absurd h
branch_of (term a no_terms) sort h = absurd h.1
branch_of (term a (term b ts)) sort h = record {
  branch = b;
  there = refl;
  long = omega arith;
  of = h.1.0;
  below = omega arith;
}

ite_branch : (ts : Terms) (sort : Sort) → IsOf (operation Op.Ite ts) sort → IsBranch ts sort
ite_branch ts sort h =
    let e : h.sorts ≡ Sort.Bool ∷ sort ∷ sort ∷ [] = (choice_sort_of h.sorts sort).0 h.is in
    branch_of ts sort (rw e at h.arguments)

ite_at : (s : Table) (k n : ℕ) (op : Op) (t : Term) → LeafMeets s k (λ l. Kind.Op op ≡ kind_of n l) → op ≡ Op.Ite → IsHeadOf s k t → (ts : Terms) × (t ≡ operation Op.Ite ts)
ite_at s k n op t h is_ite head =
    let x = there s k (λ l. Kind.Op op ≡ kind_of n l) h in
    let leaf : IsLeaf s k (operator op) = x.1 ∙ ap Some (operator_leaf n op x.0 x.2) in
    let leaf_too : IsLeaf s k (operator Op.Ite) = rw is_ite at leaf in
    head_operation s k Op.Ite t leaf_too head

pub ite_argument : (s : Table) (v : TermsView) (r k n : ℕ) (op : Op) → LeafMeets s k (λ l. Kind.Op op ≡ kind_of n l) → op ≡ Op.Ite → IsWellSortedApplication s v r k → HasArgument v r 1
ite_argument s v r k n op h is_ite w =
    let y = ite_at s k n op w.term.means h is_ite w.head in
    let j : IsOf (operation Op.Ite y.0) w.term.sorted.sort = rw y.1 at w.term.sorted.of in
    let b = ite_branch y.0 w.term.sorted.sort j in
    record { symbols = s; means = operation Op.Ite y.0; refers = rw y.1 at w.term.refers; there = b.long }

pub ite_step : (s : Table) (v w : TermsView) (r k n a : ℕ) (op : Op) → w ≡ v → LeafMeets s k (λ l. Kind.Op op ≡ kind_of n l) → op ≡ Op.Ite → ((s : Table) (t u : Term) → RefersTo s v r t → slice_get (arguments_of t) 1 ≡ Some u → RefersTo s w a u) → (t : Term) (sort : Sort) → RefersTo s v r t → IsOf t sort → IsHeadOf s k t → IsLower s v t sort a
unfolding height
ite_step s v w r k n a op same h is_ite argument t sort refers i head =
    let y = ite_at s k n op t h is_ite head in
    let j : IsOf (operation Op.Ite y.0) sort = rw y.1 at i in
    let b = ite_branch y.0 sort j in
    let g : RefersTo s v r (operation Op.Ite y.0) = rw y.1 at refers in
    let d : height t ≡ height (operation Op.Ite y.0) = ap height y.1 in
    let low = b.below in
    record { lower = b.branch; refers = rw same at (argument s (operation Op.Ite y.0) b.branch g b.there); of = b.of; below = rw d (omega arith) }

-- a head that is no operator is that of a function's call
head_call : (s : Table) (k n : ℕ) (kind : Kind) (t : Term) → LeafMeets s k (λ l. kind ≡ kind_of n l) → ((op : Op) → kind ≡ Kind.Op op → ⊥) → IsHeadOf s k t → (f : Fun) × (ts : Terms) × (t ≡ call f ts) × IsLeaf s k (function_leaf f)
head_call s k n kind (numeral m) h other head = absurd head
head_call s k n kind (variable x) h other head = absurd head
head_call s k n kind (operation op ts) h other head =
    absurd (other op (at_leaf s k (operator op) (λ l. kind ≡ kind_of n l) head h))
head_call s k n kind (call f ts) h other head = (f, ts, refl, head)
head_call s k n kind (let_in bs u) h other head = absurd head

pub is_function_leaf : (s : Table) (v : TermsView) (r k n : ℕ) (kind : Kind) → LeafMeets s k (λ l. kind ≡ kind_of n l) → ((op : Op) → kind ≡ Kind.Op op → ⊥) → IsWellSortedApplication s v r k → IsFunctionLeaf s k
is_function_leaf s v r k n kind h other w =
    let x = head_call s k n kind w.term.means h other w.head in
    meets s k (function_leaf x.0) (λ l. IsTrue (is_function l)) x.3 refl

pub function_step : (s : Table) (k n : ℕ) (kind : Kind) (u : Sort) → LeafMeets s k (λ l. kind ≡ kind_of n l) → ((op : Op) → kind ≡ Kind.Op op → ⊥) → LeafMeets s k (λ l. target_of l ≡ Some u) → (t : Term) (sort : Sort) → IsOf t sort → IsHeadOf s k t → u ≡ sort
function_step s k n kind u h other target t sort i head =
    let x = head_call s k n kind t h other head in
    let j : IsOf (call x.0 x.1) sort = rw x.2 at i in
    let e = ((call_sort_of x.0 j.sorts sort).0 j.is).1 in
    let f : Some x.0.target ≡ Some u = at_leaf s k (function_leaf x.0) (λ l. target_of l ≡ Some u) x.3 target in
    cc

pub application_look : (s : Table) (v w : TermsView) (r k m : ℕ) (n : Shape) (x : Step) → w ≡ v → ((t : Term) → RefersTo s v r t → IsShapeOf s t n) → n ≡ Shape.App k m → ((t : Term) (sort : Sort) → RefersTo s w r t → IsOf t sort → IsHeadOf s k t → IsStep s w t sort x) → (t : Term) (sort : Sort) → RefersTo s v r t → IsOf t sort → IsStep s v t sort x
application_look s v w r k m n x same shape e found t sort h i =
    let found_here = rw same at found in found_here t sort h i (shape_application s t n k m (shape t h) e)
