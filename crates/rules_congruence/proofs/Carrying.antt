-- What holds of references holds of the terms for which they stand.
use Rattle.std.proofs.Common.{◌≡◌, ◌≢◌, ◌↔◌, inl, inr, ℕ, Bool, true, List, [], ◌∷◌, refl, sym, ap, subst, Contains}
use Rattle.std.specs.List.{AllZip}
use Rattle.rule_model.specs.Congruence.{IsConnected, here, further, AreSides, IsChain, IsWay}
use Rattle.rule_model.specs.declared.rules.Mode.{Mode}
use Rattle.sym_table.specs.Table.{Table}
use Rattle.term_model.specs.Flips.{equality}
use Rattle.term_model.specs.Terms.{Term}
use Rattle.term_model.proofs.Lists.{contains_none, contains_cases, contains_head, contains_later}
use Rattle.term_pool.specs.Views.{TermsView, RefersTo}
use Rattle.term_pool.proofs.References.{AreOne}
use Rattle.rules_congruence.specs.Pairs.{AreEnds, IsPath}
use Rattle.rules_congruence.specs.Sides.{ReferToPair, ReferToPairs, AreEqualitiesOf, nothing, one, other, IsGiven}
use Rattle.rules_congruence.specs.Ways.{IsWayBy}
use Rattle.rules_congruence.proofs.WayLemmas.{connected_both}

-- the premises' equalities
same_unit : (t u a b : Term) → equality t u ∷ [] ≡ equality a b ∷ [] → ◌≡◌ {A = Term × Term} (t, u) (a, b)
same_unit t u a b e = let f : t ≡ a = cc in let g : u ≡ b = cc in rw (f, g) refl

unit_there : (premises : List (List Term)) (es : List (Term × Term)) (only : Bool) (t u : Term) → AreEqualitiesOf premises es only → Contains premises (equality t u ∷ []) → Contains es (t, u)
unit_there _ _ _ t u nothing h = absurd (contains_none _ h)
unit_there _ _ _ t u (one a b ps es only g) h =
    elim (contains_cases (equality a b ∷ []) (equality t u ∷ []) ps h) [
      | inl e ↦ subst (Contains ((a, b) ∷ es)) (same_unit a b t u e) (contains_head (a, b) es)
      | inr later ↦ contains_later (a, b) (t, u) es (unit_there ps es only t u g later)
    ]
unit_there _ _ _ t u (other c ps es only fails g) h =
    elim (contains_cases c (equality t u ∷ []) ps h) [
      | inl e ↦ absurd (fails t u e)
      | inr later ↦ unit_there ps es only t u g later
    ]

there_unit : (premises : List (List Term)) (es : List (Term × Term)) (only : Bool) (t u : Term) → AreEqualitiesOf premises es only → Contains es (t, u) → Contains premises (equality t u ∷ [])
there_unit _ _ _ t u nothing h = absurd (contains_none _ h)
there_unit _ _ _ t u (one a b ps es only g) h =
    elim (contains_cases (a, b) (t, u) es h) [
      | inl e ↦ subst (λ p. Contains ((equality a b ∷ []) ∷ ps) (equality p.0 p.1 ∷ [])) e (contains_head (equality a b ∷ []) ps)
      | inr later ↦ contains_later (equality a b ∷ []) (equality t u ∷ []) ps (there_unit ps es only t u g later)
    ]
there_unit _ _ _ t u (other c ps es only fails g) h = contains_later c (equality t u ∷ []) ps (there_unit ps es only t u g h)

pub sides_both : (premises : List (List Term)) (es : List (Term × Term)) (only : Bool) → AreEqualitiesOf premises es only → (t u : Term) → AreEnds es t u ↔ AreSides premises t u
sides_both premises es only g t u = (forth, back)
  where
    forth : AreEnds es t u → AreSides premises t u
    forth (inl h) = inl (there_unit premises es only t u g h)
    forth (inr h) = inr (there_unit premises es only u t g h)

    back : AreSides premises t u → AreEnds es t u
    back (inl h) = inl (unit_there premises es only t u g h)
    back (inr h) = inr (unit_there premises es only u t g h)

chain_path : (premises : List (List Term)) (es : List (Term × Term)) (only : Bool) (t u : Term) → AreEqualitiesOf premises es only → IsChain premises t u → (only ≡ true) × IsPath es t u
chain_path _ _ _ t u nothing h = (refl, h)
chain_path _ _ _ t u (one a b ps es only g) (next, is, more) =
    let same = same_unit a b t next is in
    let rest = chain_path ps es only next u g more in
    (rest.0, (ap (λ (p : Term × Term). p.0) same, subst (λ x. IsPath es x u) (sym (ap (λ (p : Term × Term). p.1) same)) rest.1))
chain_path _ _ _ t u (other c ps es only fails g) (next, is, more) = absurd (fails t next is)

path_chain : (premises : List (List Term)) (es : List (Term × Term)) (only : Bool) (t u : Term) → AreEqualitiesOf premises es only → only ≡ true → IsPath es t u → IsChain premises t u
path_chain _ _ _ t u nothing e h = h
path_chain _ _ _ t u (one a b ps es only g) e h =
    (b, ap (λ x. equality x b ∷ []) h.0, path_chain ps es only b u g e h.1)
path_chain _ _ _ t u (other c ps es only fails g) e h = absurd (cc)

some_of : (premises : List (List Term)) (es : List (Term × Term)) (only : Bool) → AreEqualitiesOf premises es only → only ≡ true → premises ≢ [] ↔ es ≢ []
some_of _ _ _ nothing e = (λ n f. n refl, λ n f. n refl)
some_of _ _ _ (one a b ps es only g) e = (λ n f. absurd (cc), λ n f. absurd (cc))
some_of _ _ _ (other c ps es only fails g) e = absurd (cc)

-- items that stand beside each other
zip_contains : {X Y : Type 0} (R : X → Y → Type 0) (xs : List X) (ys : List Y) (x : X) → AllZip R xs ys → Contains xs x → (y : Y) × Contains ys y × R x y
zip_contains R [] ys x z h = absurd (contains_none x h)
zip_contains R (v ∷ xs) [] x z h = absurd z
zip_contains R (v ∷ xs) (w ∷ ys) x z h =
    elim (contains_cases v x xs h) [
      | inl e ↦ (w, contains_head w ys, subst (λ a. R a w) e z.0)
      | inr later ↦ (let rest = zip_contains R xs ys x z.1 later in (rest.0, contains_later w rest.0 ys rest.1, rest.2))
    ]

zip_contained : {X Y : Type 0} (R : X → Y → Type 0) (xs : List X) (ys : List Y) (y : Y) → AllZip R xs ys → Contains ys y → (x : X) × Contains xs x × R x y
zip_contained R [] [] y z h = absurd (contains_none y h)
zip_contained R [] (w ∷ ys) y z h = absurd z
zip_contained R (v ∷ xs) [] y z h = absurd z
zip_contained R (v ∷ xs) (w ∷ ys) y z h =
    elim (contains_cases w y ys h) [
      | inl e ↦ (v, contains_head v xs, subst (λ a. R v a) e z.0)
      | inr later ↦ (let rest = zip_contained R xs ys y z.1 later in (rest.0, contains_later v rest.0 xs rest.1, rest.2))
    ]

module _ (s : Table) (v : TermsView) (same : AreOne s v) (pairs : List (ℕ × ℕ)) (es : List (Term × Term)) (refer : ReferToPairs s v pairs es) where
  -- the end of a step, and that it is a step of the other kind
  step_term : (p q : ℕ) (t : Term) → RefersTo s v p t → AreEnds pairs p q → (u : Term) × RefersTo s v q u × AreEnds es t u
  step_term p q t refers (inl h) =
      let found = zip_contains (ReferToPair s v) pairs es (p, q) refer h in
      (found.0.1, found.2.1, inl (subst (λ x. Contains es (x, found.0.1)) ((same p p found.0.0 t found.2.0 refers).0 refl) found.1))
  step_term p q t refers (inr h) =
      let found = zip_contains (ReferToPair s v) pairs es (q, p) refer h in
      (found.0.0, found.2.0, inr (subst (λ x. Contains es (found.0.0, x)) ((same p p found.0.1 t found.2.1 refers).0 refl) found.1))

  step_reference : (p : ℕ) (t u : Term) → RefersTo s v p t → AreEnds es t u → (q : ℕ) × RefersTo s v q u × AreEnds pairs p q
  step_reference p t u refers (inl h) =
      let found = zip_contained (ReferToPair s v) pairs es (t, u) refer h in
      (found.0.1, found.2.1, inl (subst (λ x. Contains pairs (x, found.0.1)) ((same found.0.0 p t t found.2.0 refers).1 refl) found.1))
  step_reference p t u refers (inr h) =
      let found = zip_contained (ReferToPair s v) pairs es (u, t) refer h in
      (found.0.0, found.2.0, inr (subst (λ x. Contains pairs (found.0.0, x)) ((same found.0.1 p t t found.2.1 refers).1 refl) found.1))

  connected_terms : (p q : ℕ) (t u : Term) → RefersTo s v p t → RefersTo s v q u → IsConnected (AreEnds pairs) p q → IsConnected (AreEnds es) t u
  connected_terms _ _ t u first last (here p) = subst (IsConnected (AreEnds es) t) ((same p p t u first last).0 refl) (here t)
  connected_terms _ _ t u first last (further p w q near more) =
      let next = step_term p w t first near in
      further t next.0 u next.2 (connected_terms w q next.0 u next.1 last more)

  connected_references : (p q : ℕ) (t u : Term) → RefersTo s v p t → RefersTo s v q u → IsConnected (AreEnds es) t u → IsConnected (AreEnds pairs) p q
  connected_references p q _ _ first last (here t) = subst (IsConnected (AreEnds pairs) p) ((same p q t t first last).1 refl) (here p)
  connected_references p q _ _ first last (further t w u near more) =
      let next = step_reference p t w first near in
      further p next.0 q next.2 (connected_references next.0 q w u next.1 last more)

  pub ends_told : (p q : ℕ) (t u : Term) → RefersTo s v p t → RefersTo s v q u → AreEnds pairs p q ↔ AreEnds es t u
  ends_told p q t u first last = (
    λ h. let next = step_term p q t first h in subst (AreEnds es t) ((same q q next.0 u next.1 last).0 refl) next.2,
    λ h. let next = step_reference p t u first h in subst (AreEnds pairs p) ((same next.0 q u u next.1 last).1 refl) next.2,
  )

path_terms : (s : Table) (v : TermsView) → AreOne s v → (pairs : List (ℕ × ℕ)) (es : List (Term × Term)) → ReferToPairs s v pairs es → (p q : ℕ) (t u : Term) → RefersTo s v p t → RefersTo s v q u → IsPath pairs p q ↔ IsPath es t u
path_terms s v same [] [] refer p q t u first last = same p q t u first last
path_terms s v same [] (e ∷ es) refer p q t u first last = absurd refer
path_terms s v same (a ∷ pairs) [] refer p q t u first last = absurd refer
path_terms s v same (a ∷ pairs) (e ∷ es) refer p q t u first last =
    let begin = same a.0 p e.0 t refer.0.0 first in
    let rest = path_terms s v same pairs es refer.1 a.1 q e.1 u refer.0.1 last in
    (λ h. (begin.0 h.0, rest.0 h.1), λ h. (begin.1 h.0, rest.1 h.1))

some_pairs : (s : Table) (v : TermsView) (pairs : List (ℕ × ℕ)) (es : List (Term × Term)) → ReferToPairs s v pairs es → pairs ≢ [] ↔ es ≢ []
some_pairs s v [] [] refer = (λ n e. n refl, λ n e. n refl)
some_pairs s v [] (e ∷ es) refer = absurd refer
some_pairs s v (a ∷ pairs) [] refer = absurd refer
some_pairs s v (a ∷ pairs) (e ∷ es) refer = (λ n f. absurd (cc), λ n f. absurd (cc))

-- a way over references is one over terms
pub way_terms : (s : Table) (v : TermsView) → AreOne s v → (mode : Mode) (pairs : List (ℕ × ℕ)) (only : Bool) (premises : List (List Term)) (p q : ℕ) (t u : Term) → IsGiven s v pairs only premises → RefersTo s v p t → RefersTo s v q u → IsWayBy mode pairs only p q ↔ IsWay mode premises t u
way_terms s v same Mode.Check pairs only premises p q t u given first last =
    let es = given.equalities in
    let both = connected_both (AreEnds es) (AreSides premises) (sides_both premises es only given.gathered) t u in (
      λ h. both.0 (connected_terms s v same pairs es given.refer p q t u first last h),
      λ h. connected_references s v same pairs es given.refer p q t u first last (both.1 h),
    )
way_terms s v same Mode.Strict pairs only premises p q t u given first last =
    let es = given.equalities in
    let path = path_terms s v same pairs es given.refer p q t u first last in (
      λ h. ((some_of premises es only given.gathered h.0).1 ((some_pairs s v pairs es given.refer).0 h.1.0), path_chain premises es only t u given.gathered h.0 (path.0 h.1.1)),
      λ h.
          let found = chain_path premises es only t u given.gathered h.1 in
          (found.0, ((some_pairs s v pairs es given.refer).1 ((some_of premises es only given.gathered found.0).0 h.0), path.1 found.1)),
    )
