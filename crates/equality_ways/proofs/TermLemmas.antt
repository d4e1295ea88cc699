-- What holds of the references of sides holds of their terms.
use Rattle.std.proofs.Common.{◌≡◌, ◌↔◌, inl, inr, ℕ, Bool, true, false, List, [], ◌∷◌, Option, Some, None, refl, sym, ap, ◌∙◌, subst, Contains}
use Rattle.rule_model.specs.Congruence.{AreSides, IsConnected, here, further}
use Rattle.sym_table.specs.Table.{Table}
use Rattle.term_model.specs.Flips.{equality}
use Rattle.term_model.specs.Terms.{Term}
use Rattle.term_pool.specs.Views.{TermsView, RefersTo}
use Rattle.term_pool.proofs.References.{AreOne}
use Rattle.equality_ways.proofs.Places.{zip_get, zip_contains, zip_contained}
use Rattle.equality_ways.specs.declared.pairs.Used.{Used}
use Rattle.equality_ways.specs.Sides.{AreSidesOfUnit, AreSidesOfUnits, AreUsedInChain, ReferToBoth}
use Rattle.equality_ways.specs.Ways.{AreEnds, IsWayOver, turned_if}

same_unit : (t u a b : Term) → equality t u ∷ [] ≡ equality a b ∷ [] → (t ≡ a) × (u ≡ b)
same_unit t u a b e = (cc, cc)

refers_turned : (s : Table) (v : TermsView) (turned : Bool) (a b : ℕ) (e : Term × Term) → ReferToBoth s v (turned_if turned (a, b)) e → RefersTo s v a (turned_if turned e).0 × RefersTo s v b (turned_if turned e).1
refers_turned s v true a b e h = (h.1, h.0)
refers_turned s v false a b e h = h

module _ (s : Table) (v : TermsView) (same : AreOne s v) (sides : List (Option (ℕ × ℕ))) (premises : List (List Term)) (are : AreSidesOfUnits s v sides premises) where
  -- a way is a chain of the clauses that are used
  pub way_chain : (used : List Used) (a b : ℕ) (t u : Term) → RefersTo s v a t → RefersTo s v b u → IsWayOver sides a b used → AreUsedInChain premises used t u
  way_chain [] a b t u first last e = record { clauses = []; chain = (same a b t u first last).0 e; are = tt }
  way_chain (x ∷ used) a b t u first last (next, leads, more) =
      let at = zip_get (AreSidesOfUnit s v) sides premises x.place (Some (turned_if x.turned (a, next))) are leads in
      let e = at.2.0 in
      let both = refers_turned s v x.turned a next e at.2.1 in
      let q = turned_if x.turned e in
      let rest = way_chain used next b q.1 u both.1 last more in
      record {
        clauses = (equality q.0 q.1 ∷ []) ∷ rest.clauses;
        chain = (q.1, ap (λ y. equality y q.1 ∷ []) ((same a a q.0 t both.0 first).0 refl), rest.chain);
        are = ((e, at.1 ∙ ap Some at.2.2, refl), rest.are);
      }

  -- the end of a step, and that it is a step of the other kind
  step_term : (p q : ℕ) (t : Term) → RefersTo s v p t → AreEnds sides p q → (u : Term) × RefersTo s v q u × AreSides premises t u
  step_term p q t refers (inl h) =
      let found = zip_contains (AreSidesOfUnit s v) sides premises (Some (p, q)) are h in
      let e = found.2.0 in
      let both = found.2.1 in
      let t_is : e.0 ≡ t = (same p p e.0 t both.0 refers).0 refl in
      (e.1, both.1, inl (subst (Contains premises) (found.2.2 ∙ ap (λ y. equality y e.1 ∷ []) t_is) found.1))
  step_term p q t refers (inr h) =
      let found = zip_contains (AreSidesOfUnit s v) sides premises (Some (q, p)) are h in
      let e = found.2.0 in
      let both = found.2.1 in
      let t_is : e.1 ≡ t = (same p p e.1 t both.1 refers).0 refl in
      (e.0, both.0, inr (subst (Contains premises) (found.2.2 ∙ ap (λ y. equality e.0 y ∷ []) t_is) found.1))

  unit_there : (t u : Term) → Contains premises (equality t u ∷ []) → (p : ℕ × ℕ) × Contains sides (Some p) × RefersTo s v p.0 t × RefersTo s v p.1 u
  unit_there t u h =
      let found = zip_contained (AreSidesOfUnit s v) sides premises (equality t u ∷ []) are h in go found.0 found.1 found.2
    where
      go : (o : Option (ℕ × ℕ)) → Contains sides o → AreSidesOfUnit s v o (equality t u ∷ []) → (p : ℕ × ℕ) × Contains sides (Some p) × RefersTo s v p.0 t × RefersTo s v p.1 u
      go None there none = absurd (none t u refl)
      go (Some p) there (e, both, is) =
          let parts = same_unit t u e.0 e.1 is in
          (p, there, subst (RefersTo s v p.0) (sym parts.0) both.0, subst (RefersTo s v p.1) (sym parts.1) both.1)

  step_reference : (p : ℕ) (t u : Term) → RefersTo s v p t → AreSides premises t u → (q : ℕ) × RefersTo s v q u × AreEnds sides p q
  step_reference p t u refers (inl h) =
      let found = unit_there t u h in
      let p_is : found.0.0 ≡ p = (same found.0.0 p t t found.2 refers).1 refl in
      (found.0.1, found.3, inl (subst (λ x. Contains sides (Some (x, found.0.1))) p_is found.1))
  step_reference p t u refers (inr h) =
      let found = unit_there u t h in
      let p_is : found.0.1 ≡ p = (same found.0.1 p t t found.3 refers).1 refl in
      (found.0.0, found.2, inr (subst (λ x. Contains sides (Some (found.0.0, x))) p_is found.1))

  connected_terms : (p q : ℕ) (t u : Term) → RefersTo s v p t → RefersTo s v q u → IsConnected (AreEnds sides) p q → IsConnected (AreSides premises) t u
  connected_terms _ _ t u first last (here p) = subst (IsConnected (AreSides premises) t) ((same p p t u first last).0 refl) (here t)
  connected_terms _ _ t u first last (further p w q near more) =
      let next = step_term p w t first near in
      further t next.0 u next.2 (connected_terms w q next.0 u next.1 last more)

  connected_references : (p q : ℕ) (t u : Term) → RefersTo s v p t → RefersTo s v q u → IsConnected (AreSides premises) t u → IsConnected (AreEnds sides) p q
  connected_references p q _ _ first last (here t) = subst (IsConnected (AreEnds sides) p) ((same p q t t first last).1 refl) (here p)
  connected_references p q _ _ first last (further t w u near more) =
      let next = step_reference p t w first near in
      further p next.0 q next.2 (connected_references next.0 q w u next.1 last more)

  pub connected_both : (p q : ℕ) (t u : Term) → RefersTo s v p t → RefersTo s v q u → IsConnected (AreEnds sides) p q ↔ IsConnected (AreSides premises) t u
  connected_both p q t u first last = (connected_terms p q t u first last, connected_references p q t u first last)
