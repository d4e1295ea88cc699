-- How what a let binds its variables to differs from what an anchor does, looked at place by place.
use Rattle.std.proofs.Common.{◌≡◌, ◌≢◌, ◌≤◌, ◌+◌, ◌↔◌, inl, inr, ℕ, zero, suc, List, [], ◌∷◌, map, drop, length, refl, sym, ap, subst, arith}
use Rattle.std.proofs.lemmas.List.{drop_all}
use Rattle.std.specs.List.{AllZip}
use Rattle.sym_table.specs.Table.{Table}
use Rattle.term_model.specs.Flips.{equality}
use Rattle.term_model.specs.Terms.{Var, Term}
use Rattle.term_pool.specs.Views.{TermsView, RefersTo}
use Rattle.rule_model.specs.Congruence.{AreDifferences}
use Rattle.rule_model.specs.Proofs.{ProofItems}
use Rattle.term_pool.specs.Bindings.{IsBindingOf}
use Rattle.rules_subproof.specs.Lets.{clauses_at}

abbrev pub images_of : List (Var × Term) → List Term
images_of bound = map (λ (b : Var × Term). b.1) bound

-- where no premise is left, all are used
pub no_clause_left : (of : ProofItems Var Term) (js : List ℕ) (k : ℕ) → k ≤ length js → clauses_at of (drop k js) ≡ [] → k ≡ length js
no_clause_left of [] zero h e = refl
no_clause_left of [] (suc k) h e = absurd (omega arith)
no_clause_left of (j ∷ js) zero h e = absurd cc
no_clause_left of (j ∷ js) (suc k) h e = ap suc (no_clause_left of js k (omega arith) e)

module _ (s : Table) (v : TermsView) where
  -- what is left of the values and of the anchor, and what is asked of it
  pub record IsLeft (asked : List Term → List Term → Type 0) (values : List ℕ) (anchor : List (ℕ × ℕ)) (goal : Type 0) : Type 0 where
    pub ts : List Term
    pub bound : List (Var × Term)
    pub values_refer : AllZip (RefersTo s v) values ts
    pub anchor_refers : AllZip (IsBindingOf s v) anchor bound
    pub same : asked ts (images_of bound) ↔ goal

  pub left_start : (asked : List Term → List Term → Type 0) (values : List ℕ) (anchor : List (ℕ × ℕ)) (ts : List Term) (bound : List (Var × Term)) → AllZip (RefersTo s v) values ts → AllZip (IsBindingOf s v) anchor bound → IsLeft asked values anchor (asked ts (images_of bound))
  left_start asked values anchor ts bound zip others =
      record { ts = ts; bound = bound; values_refer = zip; anchor_refers = others; same = (λ h. h, λ h. h) }

  pub left_here : (asked : List Term → List Term → Type 0) (values : List ℕ) (anchor : List (ℕ × ℕ)) (k x : ℕ) (a : ℕ × ℕ) (goal : Type 0) → drop k values ≡ x ∷ drop (k + 1) values → drop k anchor ≡ a ∷ drop (k + 1) anchor → IsLeft asked (drop k values) (drop k anchor) goal → IsLeft asked (x ∷ drop (k + 1) values) (a ∷ drop (k + 1) anchor) goal
  left_here asked values anchor k x a goal here there h =
      subst (λ xs. IsLeft asked xs (a ∷ drop (k + 1) anchor) goal) here (subst (λ pairs. IsLeft asked (drop k values) pairs goal) there h)

  pub left_by : (of : ProofItems Var Term) (js ks : List ℕ) (values : List ℕ) (anchor : List (ℕ × ℕ)) (goal : Type 0) → js ≡ ks → IsLeft (AreDifferences (clauses_at of js)) values anchor goal → IsLeft (AreDifferences (clauses_at of ks)) values anchor goal
  left_by of js ks values anchor goal same h =
      subst (λ ls. IsLeft (AreDifferences (clauses_at of ls)) values anchor goal) same h

  pub left_end : (asked : List Term → List Term → Type 0) (values : List ℕ) (anchor : List (ℕ × ℕ)) (k : ℕ) (goal : Type 0) → length values ≤ k → length anchor ≤ k → IsLeft asked (drop k values) (drop k anchor) goal → IsLeft asked [] [] goal
  left_end asked values anchor k goal past beyond h =
      subst (λ xs. IsLeft asked xs [] goal) (drop_all k values past) (subst (λ pairs. IsLeft asked (drop k values) pairs goal) (drop_all k anchor beyond) h)

  -- what is asked of the first value and the anchor's first term, and of the others
  record IsSplit (asked : List Term → List Term → Type 0) (x : ℕ) (xs : List ℕ) (a : ℕ × ℕ) (pairs : List (ℕ × ℕ)) (goal : Type 0) : Type 0 where
    t : Term
    ts : List Term
    b : Var × Term
    bound : List (Var × Term)
    first : RefersTo s v x t
    values_refer : AllZip (RefersTo s v) xs ts
    image : RefersTo s v a.1 b.1
    anchor_refers : AllZip (IsBindingOf s v) pairs bound
    same : asked (t ∷ ts) (b.1 ∷ images_of bound) ↔ goal

  split : (asked : List Term → List Term → Type 0) (x : ℕ) (xs : List ℕ) (a : ℕ × ℕ) (pairs : List (ℕ × ℕ)) (goal : Type 0) → IsLeft asked (x ∷ xs) (a ∷ pairs) goal → IsSplit asked x xs a pairs goal
  split asked x xs a pairs goal h = go h.ts h.bound h.values_refer h.anchor_refers h.same
    where
      go : (ts : List Term) (bound : List (Var × Term)) → AllZip (RefersTo s v) (x ∷ xs) ts → AllZip (IsBindingOf s v) (a ∷ pairs) bound → asked ts (images_of bound) ↔ goal → IsSplit asked x xs a pairs goal
      go [] bound zip others same = absurd zip
      go (t ∷ ts) [] zip others same = absurd others
      go (t ∷ ts) (b ∷ bound) zip others same =
          record { t = t; ts = ts; b = b; bound = bound; first = zip.0; values_refer = zip.1; image = others.0.term; anchor_refers = others.1; same = same }

  module _ (x : ℕ) (xs : List ℕ) (a : ℕ × ℕ) (pairs : List (ℕ × ℕ)) (goal : Type 0) where
    pub same_next : (cs : List (List Term)) → ((t u : Term) → RefersTo s v x t → RefersTo s v a.1 u → t ≡ u) → IsLeft (AreDifferences cs) (x ∷ xs) (a ∷ pairs) goal → IsLeft (AreDifferences cs) xs pairs goal
    same_next cs equal h =
        let p = split _ x xs a pairs goal h in
        let e : p.t ≡ p.b.1 = equal p.t p.b.1 p.first p.image in
        record {
          ts = p.ts;
          bound = p.bound;
          values_refer = p.values_refer;
          anchor_refers = p.anchor_refers;
          same = (λ rest. p.same.0 (inl (e, rest)), λ g. elim (p.same.1 g) [ inl d ↦ d.1 | inr d ↦ absurd (d.0 e) ]);
        }

    pub used_next : (c : List Term) (cs : List (List Term)) → ((t u : Term) → RefersTo s v x t → RefersTo s v a.1 u → t ≢ u) → ((t u : Term) → RefersTo s v x t → RefersTo s v a.1 u → c ≡ equality t u ∷ []) → IsLeft (AreDifferences (c ∷ cs)) (x ∷ xs) (a ∷ pairs) goal → IsLeft (AreDifferences cs) xs pairs goal
    used_next c cs differ given h =
        let p = split _ x xs a pairs goal h in
        let e : c ≡ equality p.t p.b.1 ∷ [] = given p.t p.b.1 p.first p.image in
        let n : p.t ≢ p.b.1 = differ p.t p.b.1 p.first p.image in
        record {
          ts = p.ts;
          bound = p.bound;
          values_refer = p.values_refer;
          anchor_refers = p.anchor_refers;
          same = (
            λ rest. p.same.0 (inr (n, (cs, ap (λ d. d ∷ cs) e, rest))),
            λ g. elim (p.same.1 g) [
              | inl d ↦ absurd (n d.0)
              | inr d ↦ subst (λ ds. AreDifferences ds p.ts (images_of p.bound)) (sym (tails d.1.1)) d.1.2
            ],
          );
        }
      where
        tails : {y z : List Term} {ys zs : List (List Term)} → y ∷ ys ≡ z ∷ zs → ys ≡ zs
        tails f = cc

    pub none_left : ((t u : Term) → RefersTo s v x t → RefersTo s v a.1 u → t ≢ u) → IsLeft (AreDifferences []) (x ∷ xs) (a ∷ pairs) goal → ¬ goal
    none_left differ h g =
        let p = split _ x xs a pairs goal h in
        elim (p.same.1 g) [
          | inl d ↦ differ p.t p.b.1 p.first p.image d.0
          | inr d ↦ no_more d.1.1
        ]
      where
        no_more : {z : List Term} {zs : List (List Term)} → [] ≡ z ∷ zs → ⊥
        no_more f = cc

    pub other_used : (c : List Term) (cs : List (List Term)) → ((t u : Term) → RefersTo s v x t → RefersTo s v a.1 u → t ≢ u) → ((t u : Term) → RefersTo s v x t → RefersTo s v a.1 u → c ≢ equality t u ∷ []) → IsLeft (AreDifferences (c ∷ cs)) (x ∷ xs) (a ∷ pairs) goal → ¬ goal
    other_used c cs differ other h g =
        let p = split _ x xs a pairs goal h in
        elim (p.same.1 g) [
          | inl d ↦ differ p.t p.b.1 p.first p.image d.0
          | inr d ↦ other p.t p.b.1 p.first p.image (heads d.1.1)
        ]
      where
        heads : {y z : List Term} {ys zs : List (List Term)} → y ∷ ys ≡ z ∷ zs → y ≡ z
        heads f = cc

  module _ (goal : Type 0) where
    pub differences_end : (cs : List (List Term)) → IsLeft (AreDifferences cs) [] [] goal → (cs ≡ []) ↔ goal
    differences_end cs h = go h.ts h.bound h.values_refer h.anchor_refers h.same
      where
        go : (ts : List Term) (bound : List (Var × Term)) → AllZip (RefersTo s v) [] ts → AllZip (IsBindingOf s v) [] bound → AreDifferences cs ts (images_of bound) ↔ goal → (cs ≡ []) ↔ goal
        go [] [] zip others same = same
        go (t ∷ ts) bound zip others same = absurd zip
        go [] (b ∷ bound) zip others same = absurd others
