-- Clauses that equate two terms, and clauses that deny equalities before their last literal.
use Rattle.std.proofs.Common.{◌≡◌, ◌≢◌, ◌↔◌, ℕ, true, List, [], ◌∷◌, ◌++◌, refl, sym, ap, ◌∙◌, subst}
use Rattle.std.specs.Borrow.{Bor}
use Rattle.std.proofs.lemmas.List.Elements.{All-nil, All-cons, All-head, All-tail}
use Rattle.rule_model.specs.Clausal.{as_it_stands}
use Rattle.rule_model.specs.Congruence.{Equates, units, denials, Denies}
use Rattle.sym_table.specs.Table.{Table}
use Rattle.term_model.specs.Flips.{equality}
use Rattle.term_model.specs.Terms.{Term, not_of}
use Rattle.term_pool.specs.Views.{TermsView, RefersTo, IsTerm, ReferToAll}
use Rattle.rules_congruence.specs.Clauses.{lists_of}
use Rattle.term_parts.specs.Parts.{AreSidesOf}
use Rattle.rules_congruence.specs.Sides.{AreEqualitiesOf, nothing, one, IsGiven, AreDenied}
use Rattle.rules_congruence.specs.Steps.{AreTerms}
use Rattle.term_parts.specs.Judging.{ReferToClauses}
use Rattle.rules_congruence.proofs.Referring.{IsOneMore, zip_split}
use Rattle.rules_congruence.proofs.TurningLemmas.{premised_none}

-- a literal that equates two terms
pub equates_both : {P : Type 0} (s : Table) (v : TermsView) (related : List (List Term) → Term → Term → Type 0) (ps : List (List Term)) (p : ℕ × ℕ) (t : Term) (sides : AreSidesOf s v as_it_stands p t) → P ↔ related ps sides.left sides.right → P ↔ Equates related ps (t ∷ [])
equates_both s v related ps p t sides both = (
  λ h. record { left = sides.left; right = sides.right; literal = ap (λ x. x ∷ []) sides.is; given = both.0 h },
  λ h.
      let e : equality sides.left sides.right ∷ [] ≡ equality h.left h.right ∷ [] = ap (λ x. x ∷ []) (sym sides.is) ∙ h.literal in
      let f : sides.left ≡ h.left = cc in
      let g : sides.right ≡ h.right = cc in
      both.1 (subst (λ x. related ps x sides.right) (sym f) (subst (λ x. related ps h.left x) (sym g) h.given)),
)

pub equates_none : (related : List (List Term) → Term → Term → Type 0) (ps : List (List Term)) (t : Term) → ((u w : Term) → t ≢ equality u w) → ¬ Equates related ps (t ∷ [])
equates_none related ps t fails h = fails h.left h.right (let e = h.literal in cc)

pub equates_one : (related : List (List Term) → Term → Term → Type 0) (ps : List (List Term)) (ts : List Term) → Equates related ps ts → (t : Term) × (ts ≡ t ∷ [])
equates_one related ps ts h = (equality h.left h.right, h.literal)

-- the last item of a list
pub same_last : {X : Type 0} (xs ys : List X) (x y : X) → xs ++ x ∷ [] ≡ ys ++ y ∷ [] → (xs ≡ ys) × (x ≡ y)
same_last [] [] x y e = (refl, cc)
same_last [] (w ∷ []) x y e = absurd (cc)
same_last [] (w ∷ (z ∷ ys)) x y e = absurd (cc)
same_last (v ∷ []) [] x y e = absurd (cc)
same_last (v ∷ (z ∷ xs)) [] x y e = absurd (cc)
same_last {X} (v ∷ xs) (w ∷ ys) x y e =
    let f : ◌≡◌ {A = List X} (v ∷ (xs ++ x ∷ [])) (w ∷ (ys ++ y ∷ [])) = e in
    let rest = same_last xs ys x y (cc) in
    let head : v ≡ w = cc in
    (rw (head, rest.0) refl, rest.1)

pub same_denials : (es fs : List (Term × Term)) → denials es ≡ denials fs → es ≡ fs
same_denials [] [] e = refl
same_denials [] (f ∷ fs) e = absurd (cc)
same_denials (p ∷ es) [] e = absurd (cc)
same_denials (p ∷ es) (q ∷ fs) e =
    let f : not_of (equality p.0 p.1) ∷ denials es ≡ not_of (equality q.0 q.1) ∷ denials fs = e in
    let one : p.0 ≡ q.0 = cc in
    let other : p.1 ≡ q.1 = cc in
    let rest = same_denials es fs (cc) in
    pair p.0 q.0 p.1 q.1 es fs one other rest
  where
    pair : (a b c d : Term) (xs ys : List (Term × Term)) → a ≡ b → c ≡ d → xs ≡ ys → ◌≡◌ {A = List (Term × Term)} ((a, c) ∷ xs) ((b, d) ∷ ys)
    pair a b c d xs ys e f g = rw (e, f, g) refl

pub denied_equalities : (es : List (Term × Term)) → AreEqualitiesOf (units es) es true
denied_equalities [] = nothing
denied_equalities (p ∷ es) = one p.0 p.1 (units es) es true (denied_equalities es)

-- the terms before the last, and the last one
pub front_terms : (s : Table) (v : TermsView) (clause front : List ℕ) (r : ℕ) → clause ≡ front ++ r ∷ [] → AreTerms s v clause → AreTerms s v front × IsTerm s v r
front_terms s v clause front r is all = go front (subst (AreTerms s v) is all)
  where
    go : (front : List ℕ) → AreTerms s v (front ++ r ∷ []) → AreTerms s v front × IsTerm s v r
    go [] h = (All-nil (IsTerm s v), All-head (IsTerm s v) r [] h)
    go (q ∷ rs) h =
        let rest = go rs (All-tail (IsTerm s v) q (rs ++ r ∷ []) h) in
        (All-cons (IsTerm s v) q rs (All-head (IsTerm s v) q (rs ++ r ∷ []) h) rest.0, rest.1)

pub split_refers : (s : Table) (v : TermsView) (clause front : List ℕ) (r : ℕ) (ts : List Term) → clause ≡ front ++ r ∷ [] → ReferToAll s v clause ts → IsOneMore (RefersTo s v) front r ts
split_refers s v clause front r ts is refer = zip_split (RefersTo s v) front r ts (subst (λ rs. ReferToAll s v rs ts) is refer)

-- a condition that holds of clauses of one literal alone
abbrev pub IsOfOne : (List (List Term) → List Term → Type 0) → Type 0
IsOfOne condition = (ps : List (List Term)) (ts : List Term) → condition ps ts → (t : Term) × (ts ≡ t ∷ [])

-- the denied equalities stand before the last literal
pub denies_both : {P : Type 0} (s : Table) (v : TermsView) (condition : List (List Term) → List Term → Type 0) → IsOfOne condition → (pairs : List (ℕ × ℕ)) (ps : List (List Term)) (ts front : List Term) (t : Term) → ps ≡ [] → ts ≡ front ++ t ∷ [] → AreDenied s v pairs front → ((qs : List (List Term)) → IsGiven s v pairs true qs → P ↔ condition qs (t ∷ [])) → P ↔ Denies condition ps ts
denies_both s v condition of_one pairs ps ts front t none is denied by =
    let given : IsGiven s v pairs true (units denied.equalities) = record {
      equalities = denied.equalities;
      refer = denied.refer;
      gathered = denied_equalities denied.equalities;
    } in
    let both = by (units denied.equalities) given in (
      λ h. record {
        sides = denied.equalities;
        rest = t ∷ [];
        none = none;
        literals = is ∙ ap (λ xs. xs ++ t ∷ []) denied.are;
        given = both.0 h;
      },
      λ h.
          let last = of_one (units h.sides) h.rest h.given in
          let e : front ++ t ∷ [] ≡ denials h.sides ++ last.0 ∷ [] = sym is ∙ h.literals ∙ ap (λ xs. denials h.sides ++ xs) last.1 in
          let parts = same_last front (denials h.sides) t last.0 e in
          let same = same_denials denied.equalities h.sides (sym denied.are ∙ parts.0) in
          both.1 (subst (λ es. condition (units es) (t ∷ [])) (sym same)
          (subst (λ x. condition (units h.sides) (x ∷ [])) (sym parts.1) (subst (condition (units h.sides)) last.1 h.given))),
    )

pub denies_none : (condition : List (List Term) → List Term → Type 0) → IsOfOne condition → (ps : List (List Term)) (ts front : List Term) (t : Term) → ts ≡ front ++ t ∷ [] → ((sides : List (Term × Term)) → front ≢ denials sides) → ¬ Denies condition ps ts
denies_none condition of_one ps ts front t is fails h =
    let last = of_one (units h.sides) h.rest h.given in
    let e : front ++ t ∷ [] ≡ denials h.sides ++ last.0 ∷ [] = sym is ∙ h.literals ∙ ap (λ xs. denials h.sides ++ xs) last.1 in
    fails h.sides (same_last front (denials h.sides) t last.0 e).0

-- a step that has a premise or no literal
pub not_denying : (s : Table) (v : TermsView) (condition : List (List Term) → List Term → Type 0) → IsOfOne condition → (premises : List (Bor (List ℕ))) (clause : List ℕ) (ps : List (List Term)) (ts : List Term) → ((front : List ℕ) (r : ℕ) → lists_of premises ≡ [] → clause ≢ front ++ r ∷ []) → ReferToClauses s v premises ps → ReferToAll s v clause ts → ¬ Denies condition ps ts
not_denying s v condition of_one premises clause ps ts fails refer_ps refer_ts h =
    let last = of_one (units h.sides) h.rest h.given in
    let e : ts ≡ denials h.sides ++ last.0 ∷ [] = h.literals ∙ ap (λ xs. denials h.sides ++ xs) last.1 in
    let found = last_of clause (denials h.sides) last.0 (subst (ReferToAll s v clause) e refer_ts) in
    fails found.0 found.1 (premised_none s v premises ps h.none refer_ps) found.2
  where
    last_of : (rs : List ℕ) (us : List Term) (u : Term) → ReferToAll s v rs (us ++ u ∷ []) → (front : List ℕ) × (r : ℕ) × (rs ≡ front ++ r ∷ [])
    last_of [] [] u z = absurd z
    last_of [] (w ∷ us) u z = absurd z
    last_of (r ∷ []) [] u z = ([], r, refl)
    last_of (r ∷ (q ∷ rs)) [] u z = absurd z.1
    last_of (r ∷ rs) (w ∷ us) u z = let rest = last_of rs us u z.1 in (r ∷ rest.0, rest.1, ap (λ xs. r ∷ xs) rest.2)
