-- How the leaves of free variables are gathered from the parts of a term.
use Rattle.std.proofs.Common.{◌≡◌, ℕ, ◌-◌, ◌≤◌, ◌<◌, ◌⊎◌, ◌↔◌, inl, inr, List, [], ◌∷◌, length, Some, nat_eq, eqb, cond, refl, sym, ◌∙◌, ap, subst, Contains, drop, get_or, Vec, arith, zero, suc}
use Rattle.std.specs.HashMap.{get}
use Rattle.std.specs.declared.alloc.Global.{Global}
use Rattle.std.proofs.lemmas.List.Elements.{Contains-append_right, Contains-append_cases}
use Rattle.sym_table.specs.Table.{Table, IsLeaf, IsTable}
use Rattle.term_model.specs.FreeVariables.{IsFree, IsFreeAmong, IsFreeBound, Binds, variables_of, bound_terms}
use Rattle.term_model.specs.Terms.{Var, Term, numeral, variable, operation, call, let_in, Terms, no_terms, term, list_of, Bindings, no_bindings, binding}
use Rattle.term_model.proofs.Lists.{contains_none}
use Rattle.term_model.proofs.Basics.{same_some}
use Rattle.term_pool.specs.Building.{IsAppliedLeaf, AreBindings}
use Rattle.term_pool.specs.Reading.{arguments_of, IsLet, IsLetTerm}
use Rattle.term_pool.specs.StandsFor.{variable_leaf}
use Rattle.term_pool.specs.Views.{TermsView, RefersTo, ReferToAll}
use Rattle.term_pool.proofs.Leaves.{one_variable, one_leaf}
use Rattle.term_expansion.specs.Free.{HasVariable, IsLeafOfSome, AreFreeLeaves, AddsLeaves, AddsOne, AddsUnbound}
use Rattle.term_expansion.specs.Heights.{IsAtMost}
use Rattle.term_names.specs.FreeParts.{IsFreeInAny, ArePartsOfLet, CoversFree, Bodies, AreBodies}
use Rattle.term_names.specs.Known.{KnownView, named_of}
use Rattle.rule_model.specs.Replacement.{free_variables}
use Rattle.problem_text.specs.Scripts.{Script}
use Rattle.term_names.specs.Standing.{AreLeavesOf, IsNameMeant}
use Rattle.term_names.specs.declared.entries.Named as held
use Rattle.term_names.specs.declared.names.KnownEntry.{KnownEntry}
use Rattle.term_names.specs.declared.names.Which.{Which}
use Rattle.term_expansion.proofs.Images.{drop-at}
use Rattle.rule_model.proofs.Freedom.{free_variables-are}
use Rattle.term_expansion.proofs.LeafLemmas.{added-leaves, adds-both, adds-same, has_more, is_variable, one-adds, one-more, swapped}
use Rattle.term_expansion.proofs.Heights.{is_term}
use Rattle.term_expansion.proofs.NeedLemmas.{contains-here}
use Rattle.term_expansion.proofs.TermParts.{is_let_term}
use Rattle.term_expansion.specs.SymbolsAndTerms.{both}

-- what was gone through
pub covers-kept : (s : Table) (v : TermsView) (seen a b : List ℕ) → ((k : ℕ) → Contains a k → Contains b k) → CoversFree (both s v) seen a → CoversFree (both s v) seen b
covers-kept s v seen a b kept h = record { each = λ r c t refers x free. has_more s a b x kept (h.each r c t refers x free) }

pub covers-more : (s : Table) (v : TermsView) (seen new a found : List ℕ) (r : ℕ) → ((t : Term) → RefersTo s v r t → AddsLeaves s a found (λ x. IsFree x t)) → AddsOne seen new r → CoversFree (both s v) seen found → CoversFree (both s v) new found
covers-more s v seen new a found r adds one h = record { each = each }
  where
    here : (q : ℕ) → q ≡ r → (t : Term) → RefersTo s v q t → (x : Var) → IsFree x t → HasVariable s found x
    here q e t refers x free = (adds t (subst (λ p. RefersTo s v p t) e refers)).all x free

    each : (q : ℕ) → Contains new q → (t : Term) → RefersTo s v q t → (x : Var) → IsFree x t → HasVariable s found x
    each q c t refers x free =
        elim (one.only q c) [ inl old ↦ h.each q old t refers x free | inr same ↦ here q same t refers x free ]

pub covers-adds : (s : Table) (v : TermsView) (seen found : List ℕ) (r : ℕ) → CoversFree (both s v) seen found → Contains seen r → (t : Term) → RefersTo s v r t → AddsLeaves s found found (λ x. IsFree x t)
covers-adds s v seen found r h c t refers = record { kept = λ k i. i; all = λ x free. h.each r c t refers x free; only = λ k i. inl i }

pub variable-adds : (s : Table) (k : ℕ) (x : Var) (ts : List Term) (t : Term) (a b : List ℕ) → IsLeaf s k (variable_leaf x) → AddsOne a b k → IsAppliedLeaf s k ts t → AddsLeaves s a b (λ y. IsFree y t)
variable-adds s k x ts t a b g one h =
    subst (λ (u : Term). AddsLeaves s a b (λ y. IsFree y u)) (sym (is_variable s k x ts t g h)) (one-adds s k x a b g one)

among-any : (ts : Terms) (x : Var) → IsFreeAmong x ts → IsFreeInAny x (list_of ts)
among-any no_terms x h = absurd h
among-any (term t ts) x (inl h) = inl h
among-any (term t ts) x (inr h) = inr (among-any ts x h)

any-among : (ts : Terms) (x : Var) → IsFreeInAny x (list_of ts) → IsFreeAmong x ts
any-among no_terms x h = absurd h
any-among (term t ts) x (inl h) = inl h
any-among (term t ts) x (inr h) = inr (any-among ts x h)

pub application-adds : (s : Table) (k : ℕ) (ts : List Term) (t : Term) (a b : List ℕ) → ((x : Var) → IsLeaf s k (variable_leaf x) → ⊥) → IsAppliedLeaf s k ts t → AddsLeaves s a b (λ x. IsFreeInAny x (arguments_of t)) → AddsLeaves s a b (λ x. IsFree x t)
application-adds s k ts (numeral n) a b never h adds = adds-same s a b _ _ (λ x p. absurd p) (λ x p. absurd p) adds
application-adds s k ts (variable x) a b never h adds = absurd (never x h.0)
application-adds s k ts (operation op us) a b never h adds =
    adds-same s a b _ _ (λ x p. any-among us x p) (λ x p. among-any us x p) adds
application-adds s k ts (call f us) a b never h adds =
    adds-same s a b _ _ (λ x p. any-among us x p) (λ x p. among-any us x p) adds
application-adds s k ts (let_in bs u) a b never h adds = absurd h

-- lets
pub let_there : (s : Table) (v : TermsView) (most r : ℕ) → IsAtMost (both s v) most r → ((t : Term) → RefersTo s v r t → IsLet t) → IsLetTerm v r
let_there s v most r h is = is_let_term s v r is (is_term s v most r h)

values_are : (s : Table) (v : TermsView) (ks rs : List ℕ) (bs : Bindings) → AreBindings s v ks rs bs → ReferToAll s v rs (bound_terms bs)
values_are s v [] [] no_bindings h = tt
values_are s v [] [] (binding x t bs) h = absurd h
values_are s v [] (r ∷ rs) bs h = absurd h
values_are s v (k ∷ ks) [] bs h = absurd h
values_are s v (k ∷ ks) (r ∷ rs) no_bindings h = absurd h
values_are s v (k ∷ ks) (r ∷ rs) (binding x t bs) h = (h.1, values_are s v ks rs bs h.2)

variables_are : (s : Table) (v : TermsView) (ks rs : List ℕ) (bs : Bindings) → AreBindings s v ks rs bs → AreLeavesOf s ks (variables_of bs)
variables_are s v [] [] no_bindings h = tt
variables_are s v [] [] (binding x t bs) h = absurd h
variables_are s v [] (r ∷ rs) bs h = absurd h
variables_are s v (k ∷ ks) [] bs h = absurd h
variables_are s v (k ∷ ks) (r ∷ rs) no_bindings h = absurd h
variables_are s v (k ∷ ks) (r ∷ rs) (binding x t bs) h = (h.0, variables_are s v ks rs bs h.2)

bound-any : (bs : Bindings) (x : Var) → IsFreeBound x bs → IsFreeInAny x (bound_terms bs)
bound-any no_bindings x h = absurd h
bound-any (binding y t bs) x (inl h) = inl h
bound-any (binding y t bs) x (inr h) = inr (bound-any bs x h)

any-bound : (bs : Bindings) (x : Var) → IsFreeInAny x (bound_terms bs) → IsFreeBound x bs
any-bound no_bindings x h = absurd h
any-bound (binding y t bs) x (inl h) = inl h
any-bound (binding y t bs) x (inr h) = inr (any-bound bs x h)

let-adds : (s : Table) (v : TermsView) (r : ℕ) (ks rs : List ℕ) (body : ℕ) (a b c : List ℕ) → ArePartsOfLet (both s v) r ks rs body → ((ts : List Term) → ReferToAll s v rs ts → AddsLeaves s a b (λ x. IsFreeInAny x ts)) → ((bs : Bindings) (u : Term) → AreLeavesOf s ks (variables_of bs) → RefersTo s v body u → AddsLeaves s b c (λ x. (¬ Binds bs x) × IsFree x u)) → (t : Term) → IsLet t → RefersTo s v r t → AddsLeaves s a c (λ x. IsFree x t)
let-adds s v r ks rs body a b c parts first second (numeral n) is refers = absurd is
let-adds s v r ks rs body a b c parts first second (variable x) is refers = absurd is
let-adds s v r ks rs body a b c parts first second (operation op ts) is refers = absurd is
let-adds s v r ks rs body a b c parts first second (call f ts) is refers = absurd is
let-adds s v r ks rs body a b c parts first second (let_in bs u) is refers =
    let p = parts bs u refers in
    let one = first (bound_terms bs) (values_are s v ks rs bs p.0) in
    let two = second bs u (variables_are s v ks rs bs p.0) p.1 in
    adds-same s a c _ _ there back (adds-both s a b c _ _ one two)
  where
    there : (x : Var) → IsFreeInAny x (bound_terms bs) ⊎ ((¬ Binds bs x) × IsFree x u) → IsFreeBound x bs ⊎ ((¬ Binds bs x) × IsFree x u)
    there x (inl h) = inl (any-bound bs x h)
    there x (inr h) = inr h

    back : (x : Var) → IsFreeBound x bs ⊎ ((¬ Binds bs x) × IsFree x u) → IsFreeInAny x (bound_terms bs) ⊎ ((¬ Binds bs x) × IsFree x u)
    back x (inl h) = inl (bound-any bs x h)
    back x (inr h) = inr h

pub kept-adds : (s : Table) (leaves a b : List ℕ) (u : Term) → AddsLeaves s [] leaves (λ x. IsFree x u) → AddsUnbound leaves [] a b → AddsLeaves s a b (λ x. IsFree x u)
kept-adds s leaves a b u free adds = added-leaves s leaves a b (λ x. IsFree x u) free adds

-- the body of a let, but what is bound
bound_leaf : (s : Table) (ks : List ℕ) (bs : Bindings) (x : Var) → AreLeavesOf s ks (variables_of bs) → Binds bs x → HasVariable s ks x
bound_leaf s [] no_bindings x h is = absurd is
bound_leaf s [] (binding y t bs) x h is = absurd h
bound_leaf s (k ∷ ks) no_bindings x h is = absurd h
bound_leaf s (k ∷ ks) (binding y t bs) x h (inl e) = (k, subst (λ (z : Var). IsLeaf s k (variable_leaf z)) e h.0, contains-here k ks)
bound_leaf s (k ∷ ks) (binding y t bs) x h (inr later) =
    let r = bound_leaf s ks bs x h.1 later in (r.0, r.1, Contains-append_right (k ∷ []) ks r.0 r.2)

leaf_bound : (s : Table) (ks : List ℕ) (bs : Bindings) (x : Var) (k : ℕ) → AreLeavesOf s ks (variables_of bs) → IsLeaf s k (variable_leaf x) → Contains ks k → Binds bs x
leaf_bound s [] bs x k h leaf c = absurd (contains_none k c)
leaf_bound s (j ∷ ks) no_bindings x k h leaf c = absurd h
leaf_bound s (j ∷ ks) (binding y t bs) x k h leaf c =
    elim (Contains-append_cases (j ∷ []) ks k c) [ inl first ↦ inl (one_variable s k y x (subst (λ i. IsLeaf s i (variable_leaf y)) (only first) h.0) leaf) | inr later ↦ inr (leaf_bound s ks bs x k h.1 leaf later) ]
  where
    only : Contains (j ∷ []) k → j ≡ k
    only (zero, below, e) = e
    only (suc n, below, e) = absurd (omega arith)

pub unbound-adds : (s : Table) → IsTable s → (ks leaves a b : List ℕ) (bs : Bindings) (u : Term) → AreLeavesOf s ks (variables_of bs) → AddsLeaves s [] leaves (λ x. IsFree x u) → AddsUnbound leaves ks a b → AddsLeaves s a b (λ x. (¬ Binds bs x) × IsFree x u)
unbound-adds s table ks leaves a b bs u are free adds = record { kept = adds.kept; all = all; only = only }
  where
    all : (x : Var) → (¬ Binds bs x) × IsFree x u → HasVariable s b x
    all x h =
        let r = free.all x h.1 in
        (r.0, r.1, adds.all r.0 r.2 (λ c. h.0 (leaf_bound s ks bs x r.0 are r.1 c)))

    apart : (k : ℕ) → ¬ Contains ks k → (x : Var) → IsLeaf s k (variable_leaf x) → ¬ Binds bs x
    apart k never x leaf is =
        let r = bound_leaf s ks bs x are is in
        never (subst (λ i. Contains ks i) (one_leaf s table r.0 k x x r.1 leaf refl) r.2)

    new : (k : ℕ) → Contains leaves k → ¬ Contains ks k → IsLeafOfSome s k (λ x. (¬ Binds bs x) × IsFree x u)
    new k c never =
        elim (free.only k c) [ inl none ↦ absurd (contains_none k none) | inr is ↦ (is.0, is.1, (apart k never is.0 is.1, is.2)) ]

    only : (k : ℕ) → Contains b k → Contains a k ⊎ IsLeafOfSome s k (λ x. (¬ Binds bs x) × IsFree x u)
    only k c = elim (adds.only k c) [ inl old ↦ inl old | inr is ↦ inr (new k is.0 is.1) ]

pub bodies-more : (s : Table) (v : TermsView) (old new : Bodies) (r : ℕ) (leaves : Vec ℕ Global) → ((q : ℕ) → get nat_eq new q ≡ cond (eqb r q) (Some leaves) (get nat_eq old q)) → ((t : Term) → RefersTo s v r t → AddsLeaves s [] leaves.items (λ x. IsFree x t)) → AreBodies (both s v) old → AreBodies (both s v) new
bodies-more s v old new r leaves updates right h = record {
  each = one-more (λ q ls. (t : Term) → RefersTo s v q t → AddsLeaves s [] ls.items (λ x. IsFree x t)) old new r leaves updates right h.each;
}

-- the answer
pub leaves-free : (s : Table) (leaves : List ℕ) (t : Term) → AddsLeaves s [] leaves (λ x. IsFree x t) → AreFreeLeaves s leaves (free_variables t)
leaves-free s leaves t h = record { each = each; all = λ x c. h.all x ((free_variables-are x t).0 c) }
  where
    each : (k : ℕ) → Contains leaves k → (x : Var) × IsLeaf s k (variable_leaf x) × Contains (free_variables t) x
    each k c =
        elim (h.only k c) [ inl none ↦ absurd (contains_none k none) | inr is ↦ (is.0, is.1, (free_variables-are is.0 t).1 is.2) ]

-- leaves of free variables are those of the variables that stand free
pub free-leaves : (s : Table) (leaves : List ℕ) (t : Term) → AreFreeLeaves s leaves (free_variables t) → AddsLeaves s [] leaves (λ x. IsFree x t)
free-leaves s leaves t h = record {
  kept = λ k c. absurd (contains_none k c);
  all = λ x free. h.all x ((free_variables-are x t).1 free);
  only = λ k c. let is = h.each k c in inr (is.0, is.1, (free_variables-are is.0 t).0 is.2);
}

-- what is kept for a name holds of its term, whatever the term is reached by
pub named-adds : (s : Table) (v : TermsView) (k : KnownView) (sc : Script) (name : List ℕ) (w : Which) (n : held.Named) (r : ℕ) (t : Term) → named_of k w ≡ Some n → IsNameMeant (both s v) k sc name (Some (KnownEntry.Named w)) → ((p q : ℕ) (a b : Term) → RefersTo s v p a → RefersTo s v q b → (p ≡ q) ↔ (a ≡ b)) → n.value.term ≡ r → RefersTo s v r t → AddsLeaves s [] n.free.items (λ x. IsFree x t)
named-adds s v k sc name w n r t there h one same refers =
    let held_is : n ≡ h.held = same_some (sym there ∙ h.there) in
    let leaves : AreFreeLeaves s n.free.items (free_variables h.meant.meant.tree) = rw held_is h.is.free in
    let place : h.held.value.term ≡ r = sym (ap (λ (m : held.Named). m.value.term) held_is) ∙ same in
    let term : h.meant.meant.tree ≡ t = (one h.held.value.term r h.meant.meant.tree t h.is.value.refers refers).0 place in
    subst (λ (u : Term). AddsLeaves s [] n.free.items (λ x. IsFree x u)) term (free-leaves s n.free.items h.meant.meant.tree leaves)

-- how far a walk over a list has come, from its end
pub record IsPassed (s : Table) (v now : TermsView) (list : List ℕ) (at : ℕ) (old seen found : List ℕ) (kept : Bodies) : Type 0 where
  pub within : at ≤ length list
  pub same : now ≡ v
  pub bodies : AreBodies (both s v) kept
  pub covers : CoversFree (both s v) seen found
  pub adds : (ts : List Term) → ReferToAll s v (drop at list) ts → AddsLeaves s old found (λ x. IsFreeInAny x ts)

-- one term more
pub passed-more : (s : Table) (v now after : TermsView) (list : List ℕ) (at item : ℕ) (old seen found seen2 found2 : List ℕ) (kept kept2 : Bodies) → IsPassed s v now list at old seen found kept → 0 < at → item ≡ get_or list (at - 1) item → after ≡ now → ((t : Term) → RefersTo s now item t → AddsLeaves s found found2 (λ x. IsFree x t)) → CoversFree (both s now) seen2 found2 → AreBodies (both s now) kept2 → IsPassed s v after list (at - 1) old seen2 found2 kept2
passed-more s v now after list at item old seen found seen2 found2 kept kept2 h above is same adds covers bodies = record {
  within = let within = h.within in omega arith;
  same = same ∙ h.same;
  bodies = subst (λ z. AreBodies (both s z) kept2) h.same bodies;
  covers = subst (λ z. CoversFree (both s z) seen2 found2) h.same covers;
  adds = λ ts refer. more ts (subst (λ rs. ReferToAll s v rs ts) (drop-at list at item above h.within is) refer);
}
  where
    more : (ts : List Term) → ReferToAll s v (item ∷ drop at list) ts → AddsLeaves s old found2 (λ x. IsFreeInAny x ts)
    more [] refer = absurd refer
    more (t ∷ ts) refer =
        adds-same s old found2 _ _ (λ x p. swapped _ _ p) (λ x p. swapped _ _ p)
        (adds-both s old found found2 (λ x. IsFreeInAny x ts) (λ x. IsFree x t) (h.adds ts refer.1) (adds t (subst (λ z. RefersTo s z item t) (sym h.same) refer.0)))

-- a let whose body has these free leaves
pub let-adds-unbound : (s : Table) (v : TermsView) (r : ℕ) (ks rs : List ℕ) (body : ℕ) (leaves a b c : List ℕ) → IsTable s → ArePartsOfLet (both s v) r ks rs body → ((ts : List Term) → ReferToAll s v rs ts → AddsLeaves s a b (λ x. IsFreeInAny x ts)) → ((u : Term) → RefersTo s v body u → AddsLeaves s [] leaves (λ x. IsFree x u)) → AddsUnbound leaves ks b c → (t : Term) → IsLet t → RefersTo s v r t → AddsLeaves s a c (λ x. IsFree x t)
let-adds-unbound s v r ks rs body leaves a b c table parts first kept adds =
    let-adds s v r ks rs body a b c parts first (λ bs u are there. unbound-adds s table ks leaves b c bs u are (kept u there) adds)

pub unbound_at : (leaves leaves2 bound bound2 a b : List ℕ) → leaves ≡ leaves2 → bound ≡ bound2 → AddsUnbound leaves bound a b → AddsUnbound leaves2 bound2 a b
unbound_at leaves leaves2 bound bound2 a b e f h =
    subst (λ zs. AddsUnbound leaves2 zs a b) f (subst (λ zs. AddsUnbound zs bound a b) e h)
