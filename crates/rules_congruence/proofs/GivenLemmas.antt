-- The equalities that are gathered from premises, or from literals that deny them.
use Rattle.std.proofs.Common.{◌≡◌, ◌≢◌, ◌<◌, ◌+◌, ℕ, zero, suc, Bool, true, false, List, [], ◌∷◌, ◌++◌, length, take, get_or, refl, sym, ap, ◌∙◌, subst, arith}
use Rattle.std.specs.Borrow.{Bor}
use Rattle.sym_table.specs.Table.{Table}
use Rattle.term_model.specs.Flips.{equality}
use Rattle.term_model.specs.Terms.{Term, numeral, not_of}
use Rattle.term_pool.specs.Views.{TermsView, RefersTo, ReferToAll}
use Rattle.rule_model.specs.Clausal.{as_it_stands}
use Rattle.rule_model.specs.Congruence.{denials}
use Rattle.term_parts.specs.Parts.{AreSidesOf}
use Rattle.rules_congruence.specs.Sides.{ReferToPair, IsNoEquation, AreEqualitiesOf, nothing, one, other, IsGiven, IsUnitOf, AreDenied}
use Rattle.term_parts.specs.Judging.{ReferToClauses}
use Rattle.term_model.proofs.Zips.{zip_push, zip_at}
use Rattle.rules_congruence.proofs.Referring.{one_zip, zip_one, zip_next}

-- a clause of one literal, by that literal
pub unit_of : (s : Table) (v : TermsView) (rs : List ℕ) (r : ℕ) (p : ℕ × ℕ) (clause : List Term) → rs ≡ r ∷ [] → ((t : Term) → RefersTo s v r t → AreSidesOf s v as_it_stands p t) → ReferToAll s v rs clause → IsUnitOf s v p clause
unit_of s v rs r p clause is sides refers =
    let here = one_zip (RefersTo s v) r clause (rw is at refers) in
    let both = sides here.item here.zip in
    record {
      left = both.left;
      right = both.right;
      left_refers = both.left_refers;
      right_refers = both.right_refers;
      is = here.is ∙ ap (λ t. t ∷ []) both.is;
    }

pub no_unit_of : (s : Table) (v : TermsView) (rs : List ℕ) (r : ℕ) (clause : List Term) → rs ≡ r ∷ [] → ((t u w : Term) → RefersTo s v r t → t ≢ equality u w) → ReferToAll s v rs clause → IsNoEquation clause
no_unit_of s v rs r clause is not_equality refers u w e =
    let here = one_zip (RefersTo s v) r clause (rw is at refers) in
    not_equality here.item u w here.zip (let f : here.item ∷ [] ≡ equality u w ∷ [] = sym here.is ∙ e in cc)

pub not_one_literal : (s : Table) (v : TermsView) (rs : List ℕ) (clause : List Term) → ((r : ℕ) → rs ≢ r ∷ []) → ReferToAll s v rs clause → IsNoEquation clause
not_one_literal s v rs clause many refers u w e =
    let here = zip_one (RefersTo s v) rs (equality u w) (rw e at refers) in many here.0 here.1

-- one premise more
more_one : (premises : List (List Term)) (equalities : List (Term × Term)) (only : Bool) (t u : Term) → AreEqualitiesOf premises equalities only → AreEqualitiesOf (premises ++ (equality t u ∷ []) ∷ []) (equalities ++ (t, u) ∷ []) only
more_one _ _ _ t u nothing = one t u [] [] true nothing
more_one _ _ _ t u (one a b ps es only h) = one a b _ _ only (more_one ps es only t u h)
more_one _ _ _ t u (other c ps es only fails h) = other c _ _ only fails (more_one ps es only t u h)

more_other : (premises : List (List Term)) (equalities : List (Term × Term)) (only : Bool) (clause : List Term) → IsNoEquation clause → AreEqualitiesOf premises equalities only → AreEqualitiesOf (premises ++ clause ∷ []) equalities false
more_other _ _ _ clause not_one nothing = other clause [] [] true not_one nothing
more_other _ _ _ clause not_one (one a b ps es only h) = one a b _ _ false (more_other ps es only clause not_one h)
more_other _ _ _ clause not_one (other c ps es only fails h) = other c _ _ false fails (more_other ps es only clause not_one h)

pub given_one : (s : Table) (v : TermsView) (pairs : List (ℕ × ℕ)) (p : ℕ × ℕ) (only : Bool) (premises : List (List Term)) (clause : List Term) → IsUnitOf s v p clause → IsGiven s v pairs only premises → IsGiven s v (pairs ++ p ∷ []) only (premises ++ clause ∷ [])
given_one s v pairs p only premises clause unit given =
    rw unit.is
    (let more : IsGiven s v (pairs ++ p ∷ []) only (premises ++ (equality unit.left unit.right ∷ []) ∷ []) = record {
      equalities = given.equalities ++ (unit.left, unit.right) ∷ [];
      refer = zip_push (ReferToPair s v) pairs given.equalities p (unit.left, unit.right) given.refer (unit.left_refers, unit.right_refers);
      gathered = more_one premises given.equalities only unit.left unit.right given.gathered;
    } in
    more)

pub given_other : (s : Table) (v : TermsView) (pairs : List (ℕ × ℕ)) (only : Bool) (premises : List (List Term)) (clause : List Term) → IsNoEquation clause → IsGiven s v pairs only premises → IsGiven s v pairs false (premises ++ clause ∷ [])
given_other s v pairs only premises clause not_one given = record {
  equalities = given.equalities;
  refer = given.refer;
  gathered = more_other premises given.equalities only clause not_one given.gathered;
}

pub given_none : (s : Table) (v : TermsView) → IsGiven s v [] true []
given_none s v = record { equalities = []; refer = tt; gathered = nothing }

denials_more : (sides : List (Term × Term)) (p : Term × Term) → denials (sides ++ p ∷ []) ≡ denials sides ++ not_of (equality p.0 p.1) ∷ []
denials_more [] p = refl
denials_more (q ∷ sides) p = ap (λ ts. not_of (equality q.0 q.1) ∷ ts) (denials_more sides p)

-- one literal more
pub denied_more : (s : Table) (v : TermsView) (pairs : List (ℕ × ℕ)) (p : ℕ × ℕ) (literals : List Term) (t : Term) → AreDenied s v pairs literals → AreSidesOf s v not_of p t → AreDenied s v (pairs ++ p ∷ []) (literals ++ t ∷ [])
denied_more s v pairs p literals t denied sides = record {
  equalities = denied.equalities ++ (sides.left, sides.right) ∷ [];
  refer = zip_push (ReferToPair s v) pairs denied.equalities p (sides.left, sides.right) denied.refer (sides.left_refers, sides.right_refers);
  are = rw (denied.are, sides.is) (sym (denials_more denied.equalities (sides.left, sides.right)));
}

pub denied_none : (s : Table) (v : TermsView) → AreDenied s v [] []
denied_none s v = record { equalities = []; refer = tt; are = refl }

denial_at : (sides : List (Term × Term)) (i : ℕ) (d : Term) → i < length (denials sides) → (u : Term) × (w : Term) × (get_or (denials sides) i d ≡ not_of (equality u w))
denial_at [] i d below = absurd (omega arith)
denial_at (p ∷ sides) zero d below = (p.0, p.1, refl)
denial_at (p ∷ sides) (suc i) d below = denial_at sides i d (omega arith)

-- a literal that denies no equality
pub not_denials : (s : Table) (v : TermsView) (rs : List ℕ) (i r : ℕ) (ts : List Term) (sides : List (Term × Term)) → i < length rs → r ≡ get_or rs i r → length rs ≡ length ts → ReferToAll s v rs ts → ((t u w : Term) → RefersTo s v r t → t ≢ not_of (equality u w)) → ts ≢ denials sides
not_denials s v rs i r ts sides below is long refers fails e =
    let d = numeral 0 in
    let there = denial_at sides i d (let same : length ts ≡ length (denials sides) = ap length e in omega arith) in
    let here = zip_at (RefersTo s v) rs ts i r d refers below in
    fails (get_or ts i d) there.0 there.1 (subst (λ x. RefersTo s v x (get_or ts i d)) (sym is) here) (ap (λ us. get_or us i d) e ∙ there.2)

-- the next premise, and the next literal
pub given_next : (s : Table) (v : TermsView) (premises : List (Bor (List ℕ))) (i : ℕ) (p : Bor (List ℕ)) (old new : List (ℕ × ℕ)) (was only : Bool) → i < length premises → p ≡ get_or premises i p → ((ps : List (List Term)) → ReferToClauses s v (take i premises) ps → IsGiven s v old was ps) → ((ps : List (List Term)) (clause : List Term) → ReferToAll s v p.now clause → IsGiven s v old was ps → IsGiven s v new only (ps ++ clause ∷ [])) → (ps : List (List Term)) → ReferToClauses s v (take (i + 1) premises) ps → IsGiven s v new only ps
given_next s v premises i p old new was only below is before adds ps refer =
    let more = zip_next (λ (references : Bor (List ℕ)) clause. ReferToAll s v references.now clause) premises i p ps below is refer in
    rw more.is (adds more.front more.last more.last_zip (before more.front more.front_zip))

pub denied_next : (s : Table) (v : TermsView) (rs : List ℕ) (i r : ℕ) (old : List (ℕ × ℕ)) (p : ℕ × ℕ) → i < length rs → r ≡ get_or rs i r → ((ts : List Term) → ReferToAll s v (take i rs) ts → AreDenied s v old ts) → ((t : Term) → RefersTo s v r t → AreSidesOf s v not_of p t) → (ts : List Term) → ReferToAll s v (take (i + 1) rs) ts → AreDenied s v (old ++ p ∷ []) ts
denied_next s v rs i r old p below is before sides ts refer =
    let more = zip_next (RefersTo s v) rs i r ts below is refer in
    rw more.is (denied_more s v old p more.front more.last (before more.front more.front_zip) (sides more.last more.last_zip))
