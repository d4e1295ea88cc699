-- Equalities that are turned round.
use Rattle.std.proofs.Common.{◌≡◌, ◌≢◌, ◌↔◌, ℕ, Bool, true, false, List, [], ◌∷◌, refl, sym, ap, ◌∙◌, subst, IsTrue}
use Rattle.std.specs.Borrow.{Bor}
use Rattle.std.proofs.lemmas.List.Elements.{All-head}
use Rattle.std.specs.List.{AllZip}
use Rattle.sym_table.specs.Table.{Table}
use Rattle.term_model.specs.Flips.{equality}
use Rattle.term_model.specs.Terms.{Term}
use Rattle.term_pool.specs.Views.{TermsView, RefersTo, IsTerm, ReferToAll}
use Rattle.term_pool.proofs.References.{AreOne}
use Rattle.rule_model.specs.Clausal.{as_it_stands}
use Rattle.rule_model.specs.Congruence.{TurnsRound, IsReflexive, IsSymmetric}
use Rattle.rules_congruence.specs.Clauses.{IsOneUnit, IsLone, lists_of}
use Rattle.rules_congruence.specs.Signs.{sign_of}
use Rattle.term_parts.specs.Parts.{AreSidesOf}
use Rattle.rules_congruence.specs.Steps.{AreTerms, AreClauses}
use Rattle.rules_congruence.specs.Turning.{AreTurned, HasEqualSides, HasTurnedSides}
use Rattle.term_parts.specs.Judging.{ReferToClauses}
use Rattle.rules_congruence.proofs.Referring.{one_zip, zip_one, zip_none, none_zip, IsBeside}

-- the sides of an equality, as it stands or denied, are its own
same_sides : (denied : Bool) (a b c d : Term) → sign_of denied (equality a b) ≡ sign_of denied (equality c d) → (a ≡ c) × (b ≡ d)
same_sides false a b c d e = (cc, cc)
same_sides true a b c d e = (cc, cc)

pub no_turned_left : (denied : Bool) (t u : Term) → ((x y : Term) → t ≢ sign_of denied (equality x y)) → ¬ AreTurned (sign_of denied) t u
no_turned_left denied t u other h = other h.left h.right h.old

pub no_turned_right : (denied : Bool) (t u : Term) → ((x y : Term) → u ≢ sign_of denied (equality x y)) → ¬ AreTurned (sign_of denied) t u
no_turned_right denied t u other h = other h.right h.left h.new

pub are_turned_by : (s : Table) (v : TermsView) → AreOne s v → (denied : Bool) (p q : ℕ × ℕ) (t u : Term) → AreSidesOf s v (sign_of denied) p t → AreSidesOf s v (sign_of denied) q u → ((p.0 ≡ q.1) × (p.1 ≡ q.0)) ↔ AreTurned (sign_of denied) t u
are_turned_by s v same denied p q t u old new = (
  λ h.
      let e : old.left ≡ new.right = (same _ _ _ _ old.left_refers new.right_refers).0 h.0 in
      let f : old.right ≡ new.left = (same _ _ _ _ old.right_refers new.left_refers).0 h.1 in
      record { left = old.left; right = old.right; old = old.is; new = new.is ∙ rw (e, f) refl },
  λ h.
      let e = same_sides denied old.left old.right h.left h.right (sym old.is ∙ h.old) in
      let f = same_sides denied new.left new.right h.right h.left (sym new.is ∙ h.new) in
      ((same _ _ _ _ old.left_refers new.right_refers).1 (e.0 ∙ sym f.1), (same _ _ _ _ old.right_refers new.left_refers).1 (e.1 ∙ sym f.0)),
)

pub equal_sides_by : (s : Table) (v : TermsView) → AreOne s v → (p : ℕ × ℕ) (t : Term) → AreSidesOf s v as_it_stands p t → (p.0 ≡ p.1) ↔ HasEqualSides t
equal_sides_by s v same p t sides = (
  λ h.
      let e : sides.left ≡ sides.right = (same _ _ _ _ sides.left_refers sides.right_refers).0 h in
      record { side = sides.left; is = sides.is ∙ ap (λ x. equality sides.left x) (sym e) },
  λ h.
      let e = same_sides false sides.left sides.right h.side h.side (sym sides.is ∙ h.is) in
      (same _ _ _ _ sides.left_refers sides.right_refers).1 (e.0 ∙ sym e.1),
)

pub turned_sides_by : (s : Table) (v : TermsView) (p : ℕ × ℕ) (b : Bool) (t : Term) → AreSidesOf s v as_it_stands p t → ((x y : Term) → RefersTo s v p.0 x → RefersTo s v p.1 y → IsTrue b ↔ AreTurned as_it_stands x y) → IsTrue b ↔ HasTurnedSides t
turned_sides_by s v p b t sides turned = (
  λ h. record {
    one = sides.left;
    other = sides.right;
    is = sides.is;
    turned = (turned sides.left sides.right sides.left_refers sides.right_refers).0 h;
  },
  λ h.
      let e = same_sides false sides.left sides.right h.one h.other (sym sides.is ∙ h.is) in
      (turned sides.left sides.right sides.left_refers sides.right_refers).1 (rw (e.0, e.1) h.turned),
)

-- the clauses of the premises, in both forms
pub clauses_refer : (s : Table) (v : TermsView) (premises : List (Bor (List ℕ))) (ps : List (List Term)) → ReferToClauses s v premises ps → AllZip (ReferToAll s v) (lists_of premises) ps
clauses_refer s v [] [] h = tt
clauses_refer s v [] (p ∷ ps) h = absurd h
clauses_refer s v (r ∷ premises) [] h = absurd h
clauses_refer s v (r ∷ premises) (p ∷ ps) h = (h.0, clauses_refer s v premises ps h.1)

-- one premise of one literal
pub record IsUnitTerm (s : Table) (v : TermsView) (r : ℕ) (ps : List (List Term)) : Type 0 where
  pub literal : Term
  pub is : ps ≡ (literal ∷ []) ∷ []
  pub refers : RefersTo s v r literal

pub unit_term : (s : Table) (v : TermsView) (premises : List (Bor (List ℕ))) (r : ℕ) (ps : List (List Term)) → IsOneUnit premises r → ReferToClauses s v premises ps → IsUnitTerm s v r ps
unit_term s v premises r ps unit refer =
    let first = one_zip (ReferToAll s v) (r ∷ []) ps (rw unit at (clauses_refer s v premises ps refer)) in
    let here = one_zip (RefersTo s v) r first.item first.zip in
    record { literal = here.item; is = first.is ∙ ap (λ c. c ∷ []) here.is; refers = here.zip }

pub no_literal_term : (s : Table) (v : TermsView) (rs : List ℕ) (ts : List Term) (t : Term) → ((r : ℕ) → rs ≢ r ∷ []) → ReferToAll s v rs ts → ts ≢ t ∷ []
no_literal_term s v rs ts t none refer e =
    let here = zip_one (RefersTo s v) rs t (rw e at refer) in none here.0 here.1

pub literal_term : (s : Table) (v : TermsView) (rs : List ℕ) (r : ℕ) (ts : List Term) → rs ≡ r ∷ [] → ReferToAll s v rs ts → IsBeside (RefersTo s v) r ts
literal_term s v rs r ts is refer = one_zip (RefersTo s v) r ts (rw is at refer)

pub none_premised : (s : Table) (v : TermsView) (premises : List (Bor (List ℕ))) (ps : List (List Term)) → lists_of premises ≡ [] → ReferToClauses s v premises ps → ps ≡ []
none_premised s v premises ps e refer = none_zip (ReferToAll s v) ps (rw e at (clauses_refer s v premises ps refer))

pub premised_none : (s : Table) (v : TermsView) (premises : List (Bor (List ℕ))) (ps : List (List Term)) → ps ≡ [] → ReferToClauses s v premises ps → lists_of premises ≡ []
premised_none s v premises ps e refer = zip_none (ReferToAll s v) (lists_of premises) (rw e at (clauses_refer s v premises ps refer))

-- symm and not_symm
pub turns_by : (s : Table) (v : TermsView) (denied b : Bool) (premises : List (Bor (List ℕ))) (clause : List ℕ) (old new : ℕ) (ps : List (List Term)) (ts : List Term) → IsOneUnit premises old → clause ≡ new ∷ [] → ReferToClauses s v premises ps → ReferToAll s v clause ts → ((t u : Term) → RefersTo s v old t → RefersTo s v new u → IsTrue b ↔ AreTurned (sign_of denied) t u) → IsTrue b ↔ TurnsRound (sign_of denied) ps ts
turns_by s v denied b premises clause old new ps ts unit is refer_ps refer_ts turned =
    let one = unit_term s v premises old ps unit refer_ps in
    let here = literal_term s v clause new ts is refer_ts in
    let by = turned one.literal here.item one.refers here.zip in (
      λ h.
          let t = by.0 h in
          record { left = t.left; right = t.right; premise = one.is ∙ ap (λ x. (x ∷ []) ∷ []) t.old; turned = here.is ∙ ap (λ x. x ∷ []) t.new },
      λ h.
          by.1 (record {
            left = h.left;
            right = h.right;
            old = let e : (one.literal ∷ []) ∷ [] ≡ (sign_of denied (equality h.left h.right) ∷ []) ∷ [] = sym one.is ∙ h.premise in cc;
            new = let e : here.item ∷ [] ≡ sign_of denied (equality h.right h.left) ∷ [] = sym here.is ∙ h.turned in cc;
          }),
    )

pub not_lone : (s : Table) (v : TermsView) (premises : List (Bor (List ℕ))) (clause : List ℕ) (ps : List (List Term)) (ts : List Term) (t : Term) → ((r : ℕ) → ¬ IsLone premises clause r) → ReferToClauses s v premises ps → ReferToAll s v clause ts → ps ≡ [] → ts ≢ t ∷ []
not_lone s v premises clause ps ts t none refer_ps refer_ts empty e =
    let here = zip_one (RefersTo s v) clause t (rw e at refer_ts) in
    none here.0 (premised_none s v premises ps empty refer_ps, here.1)

pub reflexive_by : (s : Table) (v : TermsView) (b : Bool) (premises : List (Bor (List ℕ))) (clause : List ℕ) (r : ℕ) (ps : List (List Term)) (ts : List Term) → IsLone premises clause r → ReferToClauses s v premises ps → ReferToAll s v clause ts → ((t : Term) → RefersTo s v r t → IsTrue b ↔ HasEqualSides t) → IsTrue b ↔ IsReflexive ps ts
reflexive_by s v b premises clause r ps ts lone refer_ps refer_ts equal =
    let here = literal_term s v clause r ts lone.1 refer_ts in
    let by = equal here.item here.zip in (
      λ h.
          let t = by.0 h in
          record { side = t.side; none = none_premised s v premises ps lone.0 refer_ps; literal = here.is ∙ ap (λ x. x ∷ []) t.is },
      λ h.
          by.1 (record {
            side = h.side;
            is = let e : here.item ∷ [] ≡ equality h.side h.side ∷ [] = sym here.is ∙ h.literal in cc;
          }),
    )

pub symmetric_by : (s : Table) (v : TermsView) (b : Bool) (premises : List (Bor (List ℕ))) (clause : List ℕ) (r : ℕ) (ps : List (List Term)) (ts : List Term) → IsLone premises clause r → ReferToClauses s v premises ps → ReferToAll s v clause ts → ((t : Term) → RefersTo s v r t → IsTrue b ↔ HasTurnedSides t) → IsTrue b ↔ IsSymmetric ps ts
symmetric_by s v b premises clause r ps ts lone refer_ps refer_ts turned =
    let here = literal_term s v clause r ts lone.1 refer_ts in
    let by = turned here.item here.zip in (
      λ h.
          let t = by.0 h in
          record {
            left = t.turned.left;
            right = t.turned.right;
            none = none_premised s v premises ps lone.0 refer_ps;
            literal = here.is ∙ ap (λ x. x ∷ []) (t.is ∙ rw (t.turned.old, t.turned.new) refl);
          },
      λ h.
          by.1 (record {
            one = equality h.left h.right;
            other = equality h.right h.left;
            is = let e : here.item ∷ [] ≡ equality (equality h.left h.right) (equality h.right h.left) ∷ [] = sym here.is ∙ h.literal in cc;
            turned = record { left = h.left; right = h.right; old = refl; new = refl };
          }),
    )

pub iff_trans : {P Q R : Type 0} → P ↔ Q → Q ↔ R → P ↔ R
iff_trans f g = (λ p. g.0 (f.0 p), λ r. f.1 (g.1 r))

-- the references of a step's literals are those of terms
pub literal_is_term : (s : Table) (v : TermsView) (rs : List ℕ) (r : ℕ) → rs ≡ r ∷ [] → AreTerms s v rs → IsTerm s v r
literal_is_term s v rs r is all = All-head (IsTerm s v) r [] (subst (AreTerms s v) is all)

pub unit_is_term : (s : Table) (v : TermsView) (premises : List (Bor (List ℕ))) (r : ℕ) → IsOneUnit premises r → AreClauses s v premises → IsTerm s v r
unit_is_term s v [] r unit all = absurd (cc)
unit_is_term s v (p ∷ []) r unit all =
    literal_is_term s v p.now r (let e = unit in cc) (All-head (λ (references : Bor (List ℕ)). AreTerms s v references.now) p [] all)
unit_is_term s v (p ∷ (q ∷ premises)) r unit all = absurd (cc)
