-- The derived `==` of places is equality.
use Rattle.std.proofs.Common.{◌≡◌, ◌≢◌, ◌⊎◌, inl, inr, Bool, true, false, refl, Decides}
use Rattle.std.proofs.lemmas.Bool.Decides.{Decides-eqb, Decides-and}
use Rattle.contexts.specs.declared.places.Place.{Place}
use Rattle.contexts.specs.declared.places.Place.TheVariants.{Term, Bindings}
use Rattle.contexts.specs.contracts.places.PlacePartialEq.TheImpl as places

pub Decides-place : (x y : Place) → Decides ((places.ghosts).eq x y) (x ≡ y)
Decides-place (Term a b) (Term c d) =
    let both = Decides-and _ _ (Decides-eqb a c) (Decides-eqb b d) in
    (λ h. let e = both.0 h in let e0 = e.0 in let e1 = e.1 in cc, λ h. both.1 ((cc), (cc)))
Decides-place (Bindings a b) (Bindings c d) =
    let both = Decides-and _ _ (Decides-eqb a c) (Decides-eqb b d) in
    (λ h. let e = both.0 h in let e0 = e.0 in let e1 = e.1 in cc, λ h. both.1 ((cc), (cc)))
Decides-place (Term a b) (Bindings c d) = (λ h. cc, λ h. cc)
Decides-place (Bindings a b) (Term c d) = (λ h. cc, λ h. cc)

pub same_place : (x y : Place) → (x ≡ y) ⊎ (x ≢ y)
same_place x y = go ((places.ghosts).eq x y) (Decides-place x y)
  where
    go : (b : Bool) → Decides b (x ≡ y) → (x ≡ y) ⊎ (x ≢ y)
    go true d = inl (d.0 refl)
    go false d = inr (λ e. absurd (let f = d.1 e in cc))
