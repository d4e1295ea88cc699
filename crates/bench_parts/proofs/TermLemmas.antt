-- Terms over earlier ones.
use Rattle.std.proofs.Common.{◌≡◌, ℕ, refl, List, [], ◌∷◌, ◌++◌, All, length, ◌<◌, ◌^◌, slice_get, Some, pos, suc, arith, Result, Ok, Err, IfOk, ◌≤◌}
use Rattle.pair_pool.specs.Views.{IsKnown}
use Rattle.sym_table.specs.Leaf.{Leaf, function}
use Rattle.sym_table.specs.Table.{Table, Keeps, with_leaf}
use Rattle.term_model.specs.declared.symbols.Sort.{Sort}
use Rattle.term_model.specs.Terms.{Term, numeral, variable, operation, call, let_in, list_of, terms_of}
use Rattle.term_model.proofs.Lists.{list_of-terms_of}
use Rattle.term_pool.specs.declared.shape.Shape.{Shape}
use Rattle.term_pool.specs.Reading.{arguments_of, list_of_bindings, IsShapeOf, HasArgument}
use Rattle.term_pool.specs.StandsFor.{function_leaf}
use Rattle.term_pool.specs.Views.{TermsView, RefersTo, ReferToAll, IsTerm, KeepsTerms}
use Rattle.term_pool.specs.Building.{IsAppliedLeaf}
use Rattle.bench_parts.specs.Applications.{IsDeclaredLeaf, KeepsHeads, KeepsReferences}

pub keeps_references : (old new : TermsView) → KeepsTerms old new → KeepsReferences old new
keeps_references old new h s r t refers = record {
  tree = refers.tree;
  known = h.pass.grows r refers.tree refers.known;
  stands = refers.stands;
}

pub all_stay : (s : Table) (old new : TermsView) (rs : List ℕ) → KeepsReferences old new → All (IsTerm s old) rs → All (IsTerm s new) rs
all_stay s old new rs h all = λ k d low. let a = all k d low in record { means = a.means; refers = h s _ a.means a.refers }

pub record Means (s : Table) (v : TermsView) (rs : List ℕ) : Type 0 where
  pub terms : List Term
  pub refer : ReferToAll s v rs terms

means_of : (s : Table) (v : TermsView) (rs : List ℕ) → All (IsTerm s v) rs → Means s v rs
means_of s v [] all = record { terms = []; refer = tt }
means_of s v (r ∷ rs) all =
    let first : IsTerm s v r = all 0 0 (omega arith) in
    let rest = means_of s v rs (λ k d low. all (suc k) d (omega arith)) in
    record { terms = first.means ∷ rest.terms; refer = (first.refers, rest.refer) }

pub application_is_term : (s : Table) (old new : TermsView) (head r : ℕ) (rs : List ℕ) → IsDeclaredLeaf s head → All (IsTerm s old) rs → ((s : Table) (ts : List Term) (t : Term) → ReferToAll s old rs ts → IsAppliedLeaf s head ts t → RefersTo s new r t) → IsTerm s new r
application_is_term s old new head r rs is_head all term =
    let all_means = means_of s old rs all in
    let t = call is_head.function (terms_of all_means.terms) in
    record { means = t; refers = term s all_means.terms t all_means.refer (is_head.leaf, list_of-terms_of all_means.terms) }

pub ok_is_term : {E : Type 0} → (result : Result ℕ E) (s : Table) (old new : TermsView) (head : ℕ) (rs : List ℕ) → IsDeclaredLeaf s head → All (IsTerm s old) rs → IfOk result (λ r. (s : Table) (ts : List Term) (t : Term) → ReferToAll s old rs ts → IsAppliedLeaf s head ts t → RefersTo s new r t) → IfOk result (IsTerm s new)
ok_is_term (Ok r) s old new head rs is_head all term = application_is_term s old new head r rs is_head all term
ok_is_term (Err e) s old new head rs is_head all term = tt

pub one_more : (rs : List ℕ) (r : ℕ) → 1 ≤ length (rs ++ r ∷ [])
one_more [] r = omega arith
one_more (q ∷ rs) r = omega arith

pub all_known : (s : Table) (v : TermsView) (rs : List ℕ) → All (IsTerm s v) rs → All (IsKnown v.pass) rs
all_known s v rs all = λ k d low. let a = all k d low in record { tree = a.refers.tree; stands = a.refers.known }

last_leaf : (ls : List Leaf) (l : Leaf) → slice_get (ls ++ l ∷ []) (length ls) ≡ Some l
last_leaf [] l = refl
last_leaf (m ∷ ls) l = last_leaf ls l

pub declared_head : (s t : Table) (k : ℕ) (name : List ℕ) (arguments : List Sort) (target : Sort) → length s.leaves < 2 ^ 30 → k ≡ length s.leaves → t ≡ with_leaf s (function name arguments target) → IsDeclaredLeaf t k
declared_head s t k name arguments target low here new = record {
  function = record { name = name; arguments = arguments; target = target };
  leaf = rw new (rw here (last_leaf s.leaves (function name arguments target)));
  small = rw here low;
}

pub keeps_heads : (old new : Table) → Keeps old new → KeepsHeads old new
keeps_heads old new h k head = record {
  function = head.function;
  leaf = h.leaves k (function_leaf head.function) head.leaf;
  small = head.small;
}

-- r stands for a term of so many arguments
pub record HasCount (s : Table) (v : TermsView) (r n : ℕ) : Type 0 where
  pub means : Term
  pub refers : RefersTo s v r means
  pub count : length (arguments_of means) ≡ n

shape_count : (s : Table) (t : Term) (shape : Shape) (k n : ℕ) → shape ≡ Shape.App k n → IsShapeOf s t shape → length (arguments_of t) ≡ n
shape_count s (numeral m) shape k n e h = let f : shape ≡ Shape.Num (pos m) = h in cc
shape_count s (variable x) shape k n e h = let f : shape ≡ Shape.Var h.0 = h.2 in cc
shape_count s (operation op us) shape k n e h = let f : shape ≡ Shape.App h.0 (length (list_of us)) = h.2 in cc
shape_count s (call g us) shape k n e h = let f : shape ≡ Shape.App h.0 (length (list_of us)) = h.2 in cc
shape_count s (let_in bs u) shape k n e h = let f : shape ≡ Shape.LetTerm (length (list_of_bindings bs)) = h in cc

pub counted : (s : Table) (v : TermsView) (r k n : ℕ) (shape : Shape) → IsTerm s v r → ((t : Term) → RefersTo s v r t → IsShapeOf s t shape) → shape ≡ Shape.App k n → HasCount s v r n
counted s v r k n shape h is e = record {
  means = h.means;
  refers = h.refers;
  count = shape_count s h.means shape k n e (is h.means h.refers);
}

pub has_argument : (s : Table) (v : TermsView) (r n i : ℕ) → HasCount s v r n → i < n → HasArgument v r i
has_argument s v r n i h low = record {
  symbols = s;
  means = h.means;
  refers = h.refers;
  there = rw h.count low;
}

pub counts_stay : (s : Table) (old new : TermsView) (r n : ℕ) → KeepsReferences old new → HasCount s old r n → HasCount s new r n
counts_stay s old new r n keeps h = record { means = h.means; refers = keeps s r h.means h.refers; count = h.count }

pub ruleset terms_kept = (keeps_references, counted, has_argument, counts_stay)
