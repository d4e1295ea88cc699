-- Cited by crates above. What the clauses on a leaf come to.
use Rattle.std.proofs.Common.{◌≡◌, ℕ, zero, suc, ◌<◌, ◌≤◌, List, [], ◌∷◌, length, slice_get, get_or, Bool, true, false, Option, Some, None, IsSomeAnd, IsTrue, Decides, refl, sym, ◌∙◌, ap, arith}
use Rattle.std.proofs.lemmas.Option.{slice_get_within, slice_get-get_or}
use Rattle.term_model.specs.declared.symbols.Sort.{Sort}
use Rattle.term_model.specs.declared.symbols.Op.{Op}
use Rattle.term_model.specs.Sorts.{sorts_eq, when}
use Rattle.term_model.specs.Terms.{sort_eq}
use Rattle.term_model.proofs.Tests.{sort_eq_decides, sorts_eq_decides}
use Rattle.sym_table.specs.declared.kind.Kind.{Kind}
use Rattle.sym_table.specs.Leaf.{Leaf, nil, let_head, operator, function, variable, numeral, kind_of, is_function, leaf_arguments, target_of}
use Rattle.sym_table.specs.Table.{Table, IsLeaf, LeafMeets}
use Rattle.term_pool.specs.Views.{TermsView, IsTerm}
use Rattle.sort_check.specs.Applications.{is_head, applied_sort}
use Rattle.sort_check.specs.WellSorted.{IsWellSortedTerm}

pub meets : (s : Table) (k : ℕ) (l : Leaf) (P : Leaf → Type 0) → IsLeaf s k l → P l → LeafMeets s k P
meets s k l P e p = let m : IsSomeAnd (Some l) P = p in rw e m

pub there : (s : Table) (k : ℕ) (P : Leaf → Type 0) → LeafMeets s k P → (l : Leaf) × IsLeaf s k l × P l
there s k P h = go (slice_get s.leaves k) refl h
  where
    go : (o : Option Leaf) → slice_get s.leaves k ≡ o → IsSomeAnd o P → (l : Leaf) × IsLeaf s k l × P l
    go None e m = absurd m
    go (Some l) e m = (l, e, m)

pub at_leaf : (s : Table) (k : ℕ) (l : Leaf) (P : Leaf → Type 0) → IsLeaf s k l → LeafMeets s k P → P l
at_leaf s k l P e h =
    let m : IsSomeAnd (slice_get s.leaves k) P = h in let n : IsSomeAnd (Some l) P = rw e at m in n

pub both : (s : Table) (k : ℕ) (P Q R : Leaf → Type 0) → LeafMeets s k P → LeafMeets s k Q → ((l : Leaf) → IsLeaf s k l → P l → Q l → R l) → LeafMeets s k R
both s k P Q R h i f =
    let x = there s k P h in meets s k x.0 R x.1 (f x.0 x.1 x.2 (at_leaf s k x.0 Q x.1 i))

pub is_below : (s : Table) (k : ℕ) (P : Leaf → Type 0) → LeafMeets s k P → k < length s.leaves
is_below s k P h = let x = there s k P h in slice_get_within s.leaves k x.0 x.1

pub operator_leaf : (n : ℕ) (op : Op) (l : Leaf) → Kind.Op op ≡ kind_of n l → l ≡ operator op
operator_leaf n op nil e = absurd cc
operator_leaf n op let_head e = absurd cc
operator_leaf n op (operator p) e = cc
operator_leaf n op (function name arguments target) e = absurd cc
operator_leaf n op (variable name sort) e = absurd cc
operator_leaf n op (numeral m) e = absurd cc

-- a head that is no operator is a function
pub function_head : (n : ℕ) (kind : Kind) (l : Leaf) → kind ≡ kind_of n l → ((op : Op) → kind ≡ Kind.Op op → ⊥) → IsTrue (is_head l) → IsTrue (is_function l)
function_head n kind nil e other h = absurd cc
function_head n kind let_head e other h = absurd cc
function_head n kind (operator op) e other h = absurd (other op e)
function_head n kind (function name arguments target) e other h = refl
function_head n kind (variable name sort) e other h = absurd cc
function_head n kind (numeral m) e other h = absurd cc

-- the sort of a function's application
pub function_sort : (l : Leaf) (ss : List Sort) (target : Sort) (fits : Bool) (r : Option Sort) → IsTrue (is_function l) → target_of l ≡ Some target → fits ≡ sorts_eq (leaf_arguments l) ss → r ≡ when fits target → r ≡ applied_sort l ss
function_sort nil ss target fits r h e f g = absurd cc
function_sort let_head ss target fits r h e f g = absurd cc
function_sort (operator op) ss target fits r h e f g = absurd cc
function_sort (function name arguments t) ss target fits r h e f g =
    let same : t ≡ target = cc in rw (same, ← f) g
function_sort (variable name sort) ss target fits r h e f g = absurd cc
function_sort (numeral m) ss target fits r h e f g = absurd cc

pub not_true : {P : Type 0} (b : Bool) → Decides b P → (P → ⊥) → false ≡ b
not_true true d none = absurd (none (d.0 refl))
not_true false d none = refl

pub lengths_differ : (ss ts : List Sort) → (length ss ≡ length ts → ⊥) → false ≡ sorts_eq ss ts
lengths_differ ss ts n = not_true (sorts_eq ss ts) (sorts_eq_decides ss ts) (λ e. n (ap length e))

-- the lists are alike at each place below n
abbrev pub AreAlikeBelow : List Sort → List Sort → ℕ → Type 0
AreAlikeBelow ss ts n = (k : ℕ) → k < n → slice_get ss k ≡ slice_get ts k

-- the sorts at a place differ
pub place_differs : (ss ts : List Sort) (k : ℕ) (a d : Sort) → slice_get ss k ≡ Some a → k < length ts → sort_eq a (get_or ts k d) ≡ false → false ≡ sorts_eq ss ts
place_differs ss ts k a d e below differ = not_true (sorts_eq ss ts) (sorts_eq_decides ss ts) no
  where
    no : ss ≡ ts → ⊥
    no same =
        let here : slice_get ts k ≡ Some (get_or ts k d) = slice_get-get_or ts k d below in
        let f : slice_get ss k ≡ slice_get ts k = ap (λ (x : List Sort). slice_get x k) same in
        let g : a ≡ get_or ts k d = cc in
        let h = (sort_eq_decides a (get_or ts k d)).1 g in
        cc

-- the sorts at a place are alike
pub place_alike : (ss ts : List Sort) (k : ℕ) (a d : Sort) → slice_get ss k ≡ Some a → k < length ts → sort_eq a (get_or ts k d) ≡ true → slice_get ss k ≡ slice_get ts k
place_alike ss ts k a d e below same =
    let here : slice_get ts k ≡ Some (get_or ts k d) = slice_get-get_or ts k d below in
    let g = (sort_eq_decides a (get_or ts k d)).0 same in
    cc

same_lists : (ss ts : List Sort) → length ss ≡ length ts → AreAlikeBelow ss ts (length ts) → ss ≡ ts
same_lists [] [] e all = refl
same_lists [] (t ∷ ts) e all = absurd (omega arith)
same_lists (s ∷ ss) [] e all = absurd (omega arith)
same_lists (s ∷ ss) (t ∷ ts) e all =
    let first : Some s ≡ Some t = all zero (omega arith) in
    let rest = same_lists ss ts (omega arith) (λ k h. all (suc k) (omega arith)) in
    cc

pub all_alike : (ss ts : List Sort) → length ss ≡ length ts → AreAlikeBelow ss ts (length ts) → true ≡ sorts_eq ss ts
all_alike ss ts e all = sym ((sorts_eq_decides ss ts).1 (same_lists ss ts e all))

-- the sorts of the arguments of what the leaf stands for
abbrev pub sorts_at : Option Leaf → List Sort
sorts_at None = []
sorts_at (Some l) = leaf_arguments l

pub sorts_of : (s : Table) (k : ℕ) (l : Leaf) → IsLeaf s k l → sorts_at (slice_get s.leaves k) ≡ leaf_arguments l
sorts_of s k l e = ap sorts_at e

pub at_sorts : (s : Table) (k i : ℕ) (a : Sort) → LeafMeets s k (λ l. slice_get (leaf_arguments l) i ≡ Some a) → slice_get (sorts_at (slice_get s.leaves k)) i ≡ Some a
at_sorts s k i a h =
    let x = there s k (λ l. slice_get (leaf_arguments l) i ≡ Some a) h in
    ap (λ (ss : List Sort). slice_get ss i) (sorts_of s k x.0 x.1) ∙ x.2

pub alike_of : (s : Table) (k : ℕ) (l : Leaf) (ts : List Sort) (n : ℕ) → IsLeaf s k l → AreAlikeBelow (sorts_at (slice_get s.leaves k)) ts n → AreAlikeBelow (leaf_arguments l) ts n
alike_of s k l ts n e h = λ i low. ap (λ (ss : List Sort). slice_get ss i) (sym (sorts_of s k l e)) ∙ h i low

pub to_end : (ss ts : List Sort) (n : ℕ) → length ts ≤ n → AreAlikeBelow ss ts n → AreAlikeBelow ss ts (length ts)
to_end ss ts n le h k low = h k (omega arith)

-- what is well sorted is a term
pub sorted_is_term : (s : Table) (v : TermsView) (r : ℕ) → IsWellSortedTerm s v r → IsTerm s v r
sorted_is_term s v r is = record { means = is.means; refers = is.refers }
