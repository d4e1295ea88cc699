-- The leaves of the variables that a term needs, gathered from those that its parts need.
use Rattle.std.proofs.Common.{◌≡◌, ◌≢◌, ℕ, ◌-◌, ◌<◌, ◌≤◌, ◌⊎◌, ◌↔◌, inl, inr, List, [], ◌∷◌, ◌++◌, length, drop, get_or, Some, None, Bool, true, false, nat_eq, eqb, cond, refl, sym, ◌∙◌, subst, Contains, Vec, arith}
use Rattle.std.specs.HashMap.{get}
use Rattle.std.specs.declared.alloc.Global.{Global}
use Rattle.std.proofs.lemmas.Bool.Decides.{eqb_tells}
use Rattle.std.proofs.lemmas.List.Elements.{Contains-get_or, Contains-append_left, Contains-push, Contains-push_cases}
use Rattle.sym_table.specs.Table.{Table, IsLeaf, IsTable}
use Rattle.term_model.specs.Terms.{Var, Term, numeral, variable, operation, call, let_in, Terms, no_terms, term, list_of, Bindings, no_bindings, binding}
use Rattle.term_model.proofs.Lists.{contains_none}
use Rattle.term_model.proofs.Basics.{same_some}
use Rattle.term_pool.specs.Building.{IsAppliedLeaf, AreBindings}
use Rattle.term_pool.specs.Reading.{arguments_of}
use Rattle.term_pool.specs.StandsFor.{variable_leaf}
use Rattle.term_pool.specs.Views.{TermsView, RefersTo, ReferToAll, IsTerm}
use Rattle.term_pool.proofs.Leaves.{one_variable, one_leaf}
use Rattle.term_pool.proofs.References.{AreOne}
use Rattle.term_expansion.specs.Free.{HasVariable, IsLeafOfSome, AddsLeaves, AddsOne, AddsUnbound}
use Rattle.term_expansion.specs.Needs.{IsNeeded, IsNeededAmong, IsNeededFor, IsNeededInAny, value_of, Values, AreValuesOf, HasNeeds, Needs, AreNeeds}
use Rattle.term_expansion.proofs.LeafLemmas.{adds-same, adds-both, adds-none, added-leaves, swapped, is_variable, one-adds, one-more}
use Rattle.term_expansion.proofs.Images.{drop-at}
use Rattle.term_expansion.specs.SymbolsAndTerms.{both}

-- by the top of a term
pub variable-needs : (s : Table) (k : ℕ) (x : Var) (ts : List Term) (t : Term) (a b : List ℕ) → IsLeaf s k (variable_leaf x) → AddsOne a b k → IsAppliedLeaf s k ts t → AddsLeaves s a b (λ y. IsNeeded y t)
variable-needs s k x ts t a b leaf one h =
    subst (λ (u : Term). AddsLeaves s a b (λ y. IsNeeded y u)) (sym (is_variable s k x ts t leaf h)) (one-adds s k x a b leaf one)

among-any : (ts : Terms) (x : Var) → IsNeededAmong x ts → IsNeededInAny x (list_of ts)
among-any no_terms x h = absurd h
among-any (term t ts) x (inl h) = inl h
among-any (term t ts) x (inr h) = inr (among-any ts x h)

any-among : (ts : Terms) (x : Var) → IsNeededInAny x (list_of ts) → IsNeededAmong x ts
any-among no_terms x h = absurd h
any-among (term t ts) x (inl h) = inl h
any-among (term t ts) x (inr h) = inr (any-among ts x h)

pub application-needs : (s : Table) (k : ℕ) (t : Term) (a b : List ℕ) → ((x : Var) → IsLeaf s k (variable_leaf x) → ⊥) → IsAppliedLeaf s k (arguments_of t) t → AddsLeaves s a b (λ x. IsNeededInAny x (arguments_of t)) → AddsLeaves s a b (λ x. IsNeeded x t)
application-needs s k (numeral n) a b never h adds = adds-same s a b _ _ (λ x p. absurd p) (λ x p. absurd p) adds
application-needs s k (variable x) a b never h adds = absurd (never x h.0)
application-needs s k (operation op us) a b never h adds =
    adds-same s a b _ _ (λ x p. any-among us x p) (λ x p. among-any us x p) adds
application-needs s k (call f us) a b never h adds =
    adds-same s a b _ _ (λ x p. any-among us x p) (λ x p. among-any us x p) adds
application-needs s k (let_in bs u) a b never h adds = absurd h

pub needs-at : (s : Table) (v : TermsView) (r : ℕ) (leaves : List ℕ) (t : Term) → AreOne s v → HasNeeds (both s v) r leaves → RefersTo s v r t → AddsLeaves s [] leaves (λ x. IsNeeded x t)
needs-at s v r leaves t one h refers =
    subst (λ (u : Term). AddsLeaves s [] leaves (λ x. IsNeeded x u)) ((one r r h.means t h.refers refers).0 refl) h.are

pub needs-added : (s : Table) (v : TermsView) (r : ℕ) (leaves a b : List ℕ) (t : Term) → AreOne s v → HasNeeds (both s v) r leaves → AddsUnbound leaves [] a b → RefersTo s v r t → AddsLeaves s a b (λ x. IsNeeded x t)
needs-added s v r leaves a b t one h adds refers = added-leaves s leaves a b _ (needs-at s v r leaves t one h refers) adds

-- what is kept
pub needs-found : (s : Table) (v : TermsView) (r : ℕ) (old found leaves : List ℕ) → old ≡ [] → leaves ≡ found → IsTerm s v r → ((t : Term) → RefersTo s v r t → AddsLeaves s old found (λ x. IsNeeded x t)) → HasNeeds (both s v) r leaves
needs-found s v r old found leaves none same h adds = record {
  means = h.means;
  refers = h.refers;
  are =
      subst (λ (ls : List ℕ). AddsLeaves s [] ls (λ x. IsNeeded x h.means)) (sym same)
      (subst (λ (ls : List ℕ). AddsLeaves s ls found (λ x. IsNeeded x h.means)) none (adds h.means h.refers));
}

pub needs-more : (s : Table) (v : TermsView) (old new : Needs) (r : ℕ) (leaves : Vec ℕ Global) → ((q : ℕ) → get nat_eq new q ≡ cond (eqb r q) (Some leaves) (get nat_eq old q)) → HasNeeds (both s v) r leaves.items → AreNeeds (both s v) old → AreNeeds (both s v) new
needs-more s v old new r leaves updates right h = record {
  each = one-more (λ q ls. HasNeeds (both s v) q ls.items) old new r leaves updates right h.each;
}

-- how far a walk over a list has come, from its end
pub record IsPassed (s : Table) (v now : TermsView) (list : List ℕ) (at : ℕ) (old found : List ℕ) (kept : Needs) : Type 0 where
  pub within : at ≤ length list
  pub same : now ≡ v
  pub needs : AreNeeds (both s v) kept
  pub adds : (ts : List Term) → ReferToAll s v (drop at list) ts → AddsLeaves s old found (λ x. IsNeededInAny x ts)

-- one term more
pub passed-next : (s : Table) (v now after : TermsView) (list : List ℕ) (at item : ℕ) (old found found2 : List ℕ) (kept kept2 : Needs) → IsPassed s v now list at old found kept → 0 < at → item ≡ get_or list (at - 1) item → after ≡ now → ((t : Term) → RefersTo s now item t → AddsLeaves s found found2 (λ x. IsNeeded x t)) → AreNeeds (both s now) kept2 → IsPassed s v after list (at - 1) old found2 kept2
passed-next s v now after list at item old found found2 kept kept2 h above is same adds needs = record {
  within = let within = h.within in omega arith;
  same = same ∙ h.same;
  needs = subst (λ z. AreNeeds (both s z) kept2) h.same needs;
  adds = λ ts refer. more ts (subst (λ rs. ReferToAll s v rs ts) (drop-at list at item above h.within is) refer);
}
  where
    more : (ts : List Term) → ReferToAll s v (item ∷ drop at list) ts → AddsLeaves s old found2 (λ x. IsNeededInAny x ts)
    more [] refer = absurd refer
    more (t ∷ ts) refer =
        adds-same s old found2 _ _ (λ x p. swapped _ _ p) (λ x p. swapped _ _ p)
        (adds-both s old found found2 (λ x. IsNeededInAny x ts) (λ x. IsNeeded x t) (h.adds ts refer.1) (adds t (subst (λ z. RefersTo s z item t) (sym h.same) refer.0)))

-- what a let gives a variable
record IsGivenValue (s : Table) (v : TermsView) (r : ℕ) (bs : Bindings) (y : Var) : Type 0 where
  means : Term
  refers : RefersTo s v r means
  there : (x : Var) → IsNeeded x means → IsNeededFor x bs y
  back : (x : Var) → IsNeededFor x bs y → IsNeeded x means

given : (s : Table) (v : TermsView) → IsTable s → (k r : ℕ) (ks rs : List ℕ) (bs : Bindings) (y : Var) → AreBindings s v ks rs bs → IsLeaf s k (variable_leaf y) → value_of k ks rs ≡ Some r → IsGivenValue s v r bs y
given s v table k r [] rs bs y h leaf e = absurd cc
given s v table k r (j ∷ ks) [] bs y h leaf e = absurd cc
given s v table k r (j ∷ ks) (q ∷ rs) no_bindings y h leaf e = absurd h
given s v table k r (j ∷ ks) (q ∷ rs) (binding z t bs) y h leaf e =
    go (eqb j k) (eqb_tells j k) e (λ later. given s v table k r ks rs bs y h.2 leaf later)
  where
    go : (b : Bool) → ((b ≡ true) × (j ≡ k)) ⊎ ((b ≡ false) × (j ≢ k)) → cond b (Some q) (value_of k ks rs) ≡ Some r → (value_of k ks rs ≡ Some r → IsGivenValue s v r bs y) → IsGivenValue s v r (binding z t bs) y
    go true (inr both) e next = absurd (let w = both.0 in cc)
    go false (inl both) e next = absurd (let w = both.0 in cc)
    go true (inl both) e next =
        let same : z ≡ y = one_variable s k z y (subst (λ i. IsLeaf s i (variable_leaf z)) both.1 h.0) leaf in
        record {
          means = t;
          refers = subst (λ i. RefersTo s v i t) (same_some e) h.1;
          there = λ x p. inl (same, p);
          back = λ x p. elim p [ inl here ↦ here.1 | inr later ↦ absurd (later.0 same) ];
        }
    go false (inr both) e next =
        let g = next e in
        let apart : ¬ (z ≡ y) = λ same. both.1 (one_leaf s table j k z y h.0 leaf same) in
        record {
          means = g.means;
          refers = g.refers;
          there = λ x p. inr (apart, g.there x p);
          back = λ x p. elim p [ inl here ↦ absurd (apart here.0) | inr later ↦ g.back x later.1 ];
        }

pub given-adds : (s : Table) (v : TermsView) → IsTable s → (k r : ℕ) (ks rs a b : List ℕ) (bs : Bindings) (y : Var) → AreBindings s v ks rs bs → IsLeaf s k (variable_leaf y) → value_of k ks rs ≡ Some r → ((t : Term) → RefersTo s v r t → AddsLeaves s a b (λ x. IsNeeded x t)) → AddsLeaves s a b (λ x. IsNeededFor x bs y)
given-adds s v table k r ks rs a b bs y h leaf e adds =
    let g = given s v table k r ks rs bs y h leaf e in
    adds-same s a b _ _ g.there g.back (adds g.means g.refers)

-- a variable that the let does not bind
unbound : (s : Table) (v : TermsView) → IsTable s → (k : ℕ) (ks rs : List ℕ) (bs : Bindings) (y : Var) → AreBindings s v ks rs bs → IsLeaf s k (variable_leaf y) → value_of k ks rs ≡ None → (x : Var) → (y ≡ x) ↔ IsNeededFor x bs y
unbound s v table k [] [] no_bindings y h leaf e x = (λ p. p, λ p. p)
unbound s v table k [] [] (binding z t bs) y h leaf e x = absurd h
unbound s v table k [] (r ∷ rs) bs y h leaf e x = absurd h
unbound s v table k (j ∷ ks) [] bs y h leaf e x = absurd h
unbound s v table k (j ∷ ks) (q ∷ rs) no_bindings y h leaf e x = absurd h
unbound s v table k (j ∷ ks) (q ∷ rs) (binding z t bs) y h leaf e x =
    go (eqb j k) (eqb_tells j k) e (λ later. unbound s v table k ks rs bs y h.2 leaf later x)
  where
    go : (b : Bool) → ((b ≡ true) × (j ≡ k)) ⊎ ((b ≡ false) × (j ≢ k)) → cond b (Some q) (value_of k ks rs) ≡ None → (value_of k ks rs ≡ None → (y ≡ x) ↔ IsNeededFor x bs y) → (y ≡ x) ↔ IsNeededFor x (binding z t bs) y
    go true both e next = absurd cc
    go false (inl both) e next = absurd (let w = both.0 in cc)
    go false (inr both) e next =
        let u = next e in
        let apart : ¬ (z ≡ y) = λ same. both.1 (one_leaf s table j k z y h.0 leaf same) in
        (λ p. inr (apart, u.0 p), λ p. elim p [ inl here ↦ absurd (apart here.0) | inr later ↦ u.1 later.1 ])

pub unbound-adds : (s : Table) (v : TermsView) → IsTable s → (k : ℕ) (ks rs a b : List ℕ) (bs : Bindings) (y : Var) → AreBindings s v ks rs bs → IsLeaf s k (variable_leaf y) → value_of k ks rs ≡ None → AddsOne a b k → AddsLeaves s a b (λ x. IsNeededFor x bs y)
unbound-adds s v table k ks rs a b bs y h leaf e one =
    let u = unbound s v table k ks rs bs y h leaf e in
    adds-same s a b _ _ (λ x p. (u x).0 p) (λ x p. (u x).1 p) (one-adds s k y a b leaf one)

-- needed for one of the variables with these leaves
abbrev pub IsNeededThrough : Table → List ℕ → Bindings → Var → Type 0
IsNeededThrough s ks bs x = (y : Var) × HasVariable s ks y × IsNeededFor x bs y

-- how far a walk over the leaves that the body of a let needs has come
pub record AreThrough (s : Table) (v now : TermsView) (variables values passed old found : List ℕ) (kept : Needs) : Type 0 where
  pub same : now ≡ v
  pub needs : AreNeeds (both s v) kept
  pub adds : (bs : Bindings) → AreBindings s v variables values bs → AddsLeaves s old found (IsNeededThrough s passed bs)

pub through-none : (s : Table) (v now : TermsView) (variables values old : List ℕ) (kept : Needs) → now ≡ v → AreNeeds (both s now) kept → AreThrough s v now variables values [] old old kept
through-none s v now variables values old kept e h = record {
  same = e;
  needs = subst (λ z. AreNeeds (both s z) kept) e h;
  adds = λ bs are. adds-none s old _ (λ x p. contains_none p.1.0 p.1.2);
}

-- one leaf more
through-more : (s : Table) (passed old found found2 : List ℕ) (k : ℕ) (bs : Bindings) (y : Var) → IsLeaf s k (variable_leaf y) → AddsLeaves s old found (IsNeededThrough s passed bs) → AddsLeaves s found found2 (λ x. IsNeededFor x bs y) → AddsLeaves s old found2 (IsNeededThrough s (passed ++ k ∷ []) bs)
through-more s passed old found found2 k bs y leaf before adds =
    adds-same s old found2 _ _ there back (adds-both s old found found2 (IsNeededThrough s passed bs) (λ x. IsNeededFor x bs y) before adds)
  where
    there : (x : Var) → IsNeededThrough s passed bs x ⊎ IsNeededFor x bs y → IsNeededThrough s (passed ++ k ∷ []) bs x
    there x (inl (z, (j, is, c), p)) = (z, (j, is, Contains-append_left passed (k ∷ []) j c), p)
    there x (inr p) = (y, (k, leaf, Contains-push passed k), p)

    last : (x z : Var) (j : ℕ) → IsLeaf s j (variable_leaf z) → IsNeededFor x bs z → j ≡ k → IsNeededFor x bs y
    last x z j is p e = subst (IsNeededFor x bs) (one_variable s k z y (subst (λ i. IsLeaf s i (variable_leaf z)) e is) leaf) p

    back : (x : Var) → IsNeededThrough s (passed ++ k ∷ []) bs x → IsNeededThrough s passed bs x ⊎ IsNeededFor x bs y
    back x (z, (j, is, c), p) =
        elim (Contains-push_cases passed k j c) [ inl old ↦ inl (z, (j, is, old), p) | inr same ↦ inr (last x z j is p (sym same)) ]

pub through-next : (s : Table) (v now after : TermsView) (variables values passed more old found found2 : List ℕ) (kept kept2 : Needs) (k : ℕ) → AreThrough s v now variables values passed old found kept → more ≡ passed ++ k ∷ [] → (y : Var) × IsLeaf s k (variable_leaf y) → after ≡ now → ((bs : Bindings) (y : Var) → AreBindings s now variables values bs → IsLeaf s k (variable_leaf y) → AddsLeaves s found found2 (λ x. IsNeededFor x bs y)) → AreNeeds (both s now) kept2 → AreThrough s v after variables values more old found2 kept2
through-next s v now after variables values passed more old found found2 kept kept2 k h e (y, leaf) same adds needs = record {
  same = same ∙ h.same;
  needs = subst (λ z. AreNeeds (both s z) kept2) h.same needs;
  adds = λ bs are.
      subst (λ (ls : List ℕ). AddsLeaves s old found2 (IsNeededThrough s ls bs)) (sym e)
      (through-more s passed old found found2 k bs y leaf (h.adds bs are) (adds bs y (subst (λ z. AreBindings s z variables values bs) (sym h.same) are) leaf));
}

-- all the leaves that the body needs
pub through-all : (s : Table) (leaves old found : List ℕ) (bs : Bindings) (u : Term) → AddsLeaves s [] leaves (λ y. IsNeeded y u) → AddsLeaves s old found (IsNeededThrough s leaves bs) → AddsLeaves s old found (λ x. IsNeeded x (let_in bs u))
through-all s leaves old found bs u inside adds = adds-same s old found _ _ there back adds
  where
    needed : (y : Var) (j : ℕ) → IsLeaf s j (variable_leaf y) → IsLeafOfSome s j (λ y. IsNeeded y u) → IsNeeded y u
    needed y j is (z, leaf, p) = subst (λ (w : Var). IsNeeded w u) (one_variable s j z y leaf is) p

    there : (x : Var) → IsNeededThrough s leaves bs x → IsNeeded x (let_in bs u)
    there x (y, (j, is, c), p) =
        (y, elim (inside.only j c) [ inl none ↦ absurd (contains_none j none) | inr some ↦ needed y j is some ], p)

    back : (x : Var) → IsNeeded x (let_in bs u) → IsNeededThrough s leaves bs x
    back x (y, n, p) = (y, inside.all y n, p)

-- a leaf that a term needs is that of a variable
pub needed-variable : (s : Table) (v : TermsView) (r : ℕ) (leaves list : List ℕ) (i : ℕ) → HasNeeds (both s v) r leaves → list ≡ leaves → i < length list → (y : Var) × IsLeaf s (get_or list i 0) (variable_leaf y)
needed-variable s v r leaves list i h e l =
    let k = get_or list i 0 in
    let there : Contains leaves k = subst (λ (ls : List ℕ). Contains ls k) e (Contains-get_or list i 0 l) in
    elim (h.are.only k there) [ inl none ↦ absurd (contains_none k none) | inr some ↦ (some.0, some.1) ]

-- the same terms
pub needs_moved : (s : Table) (v w : TermsView) (needs : Needs) → w ≡ v → AreNeeds (both s v) needs → AreNeeds (both s w) needs
needs_moved s v w needs e h = subst (λ z. AreNeeds (both s z) needs) (sym e) h

pub values_moved : (m : Values) (ks js rs qs : List ℕ) → ks ≡ js → rs ≡ qs → AreValuesOf m ks rs → AreValuesOf m js qs
values_moved m ks js rs qs e f h =
    subst (λ (xs : List ℕ). AreValuesOf m js xs) f (subst (λ (xs : List ℕ). AreValuesOf m xs rs) e h)
