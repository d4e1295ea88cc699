-- The variables of a let come in scope.
use Rattle.std.proofs.Common.{◌≡◌, ℕ, zero, suc, ◌+◌, ◌-◌, ◌<◌, ◌≤◌, List, [], ◌∷◌, ◌++◌, length, length-drop, map, drop, get_or, slice_get, Bool, true, false, if◌then◌else◌, Some, Result, Ok, Err, refl, sym, ◌∙◌, ap, subst, arith}
use Rattle.std.specs.Prelude.{OnOk}
use Rattle.std.specs.List.{AllZip}
use Rattle.std.proofs.lemmas.List.{get_or_default}
use Rattle.std.proofs.lemmas.Slice.Zip.{AllZip-long}
use Rattle.pair_pool.specs.Trees.{leaf}
use Rattle.pair_pool.specs.Views.{Knows}
use Rattle.sym_table.specs.Table.{Table, IsLeaf}
use Rattle.term_model.specs.declared.symbols.Sort.{Sort}
use Rattle.term_model.specs.Terms.{Var, variable}
use Rattle.term_pool.specs.StandsFor.{variable_leaf}
use Rattle.term_pool.specs.Views.{TermsView}
use Rattle.term_model.specs.Heights.{height}
use Rattle.term_names.specs.InScope.{IsScope, AreValuesBound}
use Rattle.problem_text.specs.Names.{Bound, itself}
use Rattle.term_names.specs.Scope.{Scoped, OwnNames}
use Rattle.sym_table.specs.declared.faults.Memory.{Memory}
use Rattle.term_expansion.specs.Values.{IsValue}
use Rattle.term_expansion.specs.declared.values.Value.{Value}
use Rattle.term_expansion.proofs.Images.{drop-at}
use Rattle.term_expansion.specs.SymbolsAndTerms.{both}

pub itself-value : (s : Table) (v : TermsView) (k r : ℕ) (sort : Sort) (x : Var) → Knows v.pass r (leaf k) → IsLeaf s k (variable_leaf x) → sort ≡ x.sort → IsValue (both s v) (record { term = r; sort = sort; height = 1; plain = true }) (record { tree = variable x; sort = x.sort })
unfolding height
itself-value s v k r sort x known e same = record {
  refers = record { tree = leaf k; known = known; stands = e };
  sort = same;
  high = refl;
  plain = λ _. tt;
}

-- what is left behind an item
pub drop-tail : {X : Type 0} (n : ℕ) (xs : List X) (x : X) (ys : List X) → drop n xs ≡ x ∷ ys → drop (suc n) xs ≡ ys
drop-tail zero [] x ys e = absurd cc
drop-tail zero (a ∷ xs) x ys e = cc
drop-tail (suc n) [] x ys e = absurd cc
drop-tail (suc n) (a ∷ xs) x ys e = drop-tail n xs x ys e

-- an item stands before what is left behind it
pub drop-item : {X : Type 0} (xs : List X) (n : ℕ) (x : X) → slice_get xs n ≡ Some x → drop n xs ≡ x ∷ drop (suc n) xs
drop-item [] n x e = absurd cc
drop-item (a ∷ xs) zero x e = let same : a ≡ x = cc in ap (λ y. y ∷ xs) same
drop-item (a ∷ xs) (suc n) x e = drop-item xs n x e

-- there is one value for each variable
pub bound-lengths : (s : Table) (v : TermsView) (ks : List ℕ) (cs : List Value) (bs : List Bound) → AreValuesBound (both s v) ks cs bs → length ks ≡ length cs
bound-lengths s v ks cs bs h = sym (AllZip-long _ ks bs h.leaves) ∙ AllZip-long _ cs bs h.values

pub bound-within : (s : Table) (v : TermsView) (ks : List ℕ) (cs : List Value) (bs : List Bound) (from i : ℕ) → AreValuesBound (both s v) ks (drop from cs) bs → from ≤ length cs → i < length ks → from + i < length cs
bound-within s v ks cs bs from i h within below =
    let e = bound-lengths s v ks (drop from cs) bs h in
    let f = length-drop {A = Value} from cs in
    omega arith

-- each of the leaves is that of a variable
leaf-at : (s : Table) (ks : List ℕ) (bs : List Bound) (i d : ℕ) → AllZip (λ k b. IsLeaf s k (variable_leaf b.variable)) ks bs → i < length ks → (x : Var) × IsLeaf s (get_or ks i d) (variable_leaf x)
leaf-at s [] bs i d h below = absurd (omega arith)
leaf-at s (k ∷ ks) [] i d h below = absurd h
leaf-at s (k ∷ ks) (b ∷ bs) zero d h below = (b.variable, h.0)
leaf-at s (k ∷ ks) (b ∷ bs) (suc i) d h below = leaf-at s ks bs i d h.1 (omega arith)

pub bound-leaf : (s : Table) (v : TermsView) (ks : List ℕ) (cs : List Value) (bs : List Bound) (i d : ℕ) → AreValuesBound (both s v) ks cs bs → i < length ks → (x : Var) × IsLeaf s (get_or ks i d) (variable_leaf x)
bound-leaf s v ks cs bs i d h = leaf-at s ks bs i d h.leaves

-- what the variables of a let stand for
abbrev pub standing : Bool → List Bound → List Bound
standing replaces bs = if replaces then bs else map (λ b. itself b.variable) bs

-- one more variable in scope
next-scope : (s : Table) (v : TermsView) (replaces : Bool) (k : ℕ) (ks : List ℕ) (c : Value) (cs : List Value) (entry old new : List Scoped)
    → ((b : Bound) (bs : List Bound) → IsLeaf s k (variable_leaf b.variable) → IsValue (both s v) c (record { tree = b.stands_for; sort = b.variable.sort }) → IsScope (both s v) old bs → IsScope (both s v) new ((if replaces then b else itself b.variable) ∷ bs))
    → ((bs ps : List Bound) → AreValuesBound (both s v) ks cs bs → IsScope (both s v) entry ps → IsScope (both s v) old (standing replaces bs ++ ps))
    → (bs ps : List Bound) → AreValuesBound (both s v) (k ∷ ks) (c ∷ cs) bs → IsScope (both s v) entry ps → IsScope (both s v) new (standing replaces bs ++ ps)
next-scope s v replaces k ks c cs entry old new more before [] ps h g = absurd h.leaves
next-scope s v true k ks c cs entry old new more before (b ∷ bs) ps h g =
    more b (bs ++ ps) h.leaves.0 h.values.0 (before bs ps (record { leaves = h.leaves.1; values = h.values.1 }) g)
next-scope s v false k ks c cs entry old new more before (b ∷ bs) ps h g =
    more b (map (λ b. itself b.variable) bs ++ ps) h.leaves.0 h.values.0 (before bs ps (record { leaves = h.leaves.1; values = h.values.1 }) g)

-- the lists from a place on, and from the next
pub bind-next : (s : Table) (v : TermsView) (replaces : Bool) (ks : List ℕ) (cs : List Value) (from at : ℕ) (c : Value) (entry old new : List Scoped)
    → 0 < at → at ≤ length ks → slice_get cs (from + (at - 1)) ≡ Some c
    → ((b : Bound) (bs : List Bound) → IsLeaf s (get_or ks (at - 1) 0) (variable_leaf b.variable) → IsValue (both s v) c (record { tree = b.stands_for; sort = b.variable.sort }) → IsScope (both s v) old bs → IsScope (both s v) new ((if replaces then b else itself b.variable) ∷ bs))
    → ((bs ps : List Bound) → AreValuesBound (both s v) (drop at ks) (drop (from + at) cs) bs → IsScope (both s v) entry ps → IsScope (both s v) old (standing replaces bs ++ ps))
    → (bs ps : List Bound) → AreValuesBound (both s v) (drop (at - 1) ks) (drop (from + (at - 1)) cs) bs → IsScope (both s v) entry ps → IsScope (both s v) new (standing replaces bs ++ ps)
bind-next s v replaces ks cs from at c entry old new above within is more before bs ps h g =
    let k = get_or ks (at - 1) 0 in
    let leaves : drop (at - 1) ks ≡ k ∷ drop at ks = drop-at ks at k above within (get_or_default ks (at - 1) 0 k (omega arith)) in
    let next : suc (from + (at - 1)) ≡ from + at = omega arith in
    let values : drop (from + (at - 1)) cs ≡ c ∷ drop (from + at) cs =
    subst (λ n. drop (from + (at - 1)) cs ≡ c ∷ drop n cs) next (drop-item cs (from + (at - 1)) c is) in
    next-scope s v replaces k (drop at ks) c (drop (from + at) cs) entry old new more before bs ps
    (subst (λ zs. AreValuesBound (both s v) (k ∷ drop at ks) zs bs) values (subst (λ js. AreValuesBound (both s v) js (drop (from + (at - 1)) cs) bs) leaves h)) g

-- where a variable was put in scope, the scope has one more
pub one_inner : (result : Result (Unit {0}) Memory) (old new : OwnNames) (e : Scoped) → OnOk result (new ≡ record old { scope = e ∷ old.scope }) → OnOk result ((x : Scoped) × (new.scope ≡ x ∷ old.scope))
one_inner (Ok u) old new e h = (e, ap (λ (n : OwnNames). n.scope) h)
one_inner (Err f) old new e h = tt
