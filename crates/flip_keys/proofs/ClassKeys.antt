-- The derived `==` of classes and of items is equality.
use Rattle.std.proofs.Common.{◌≡◌, ◌≢◌, ◌⊎◌, inl, inr, Bool, true, false, refl, ap, Decides}
use Rattle.std.proofs.lemmas.Bool.Decides.{Decides-eqb, Decides-and}
use Rattle.flip_keys.specs.declared.classes.Class.{Class}
use Rattle.flip_keys.specs.declared.classes.Class.TheVariants.{Alone, Equality, Application, Arguments}
use Rattle.flip_keys.specs.contracts.classes.ClassPartialEq.TheImpl as classes
use Rattle.flip_keys.specs.declared.memory.Item.{Item}
use Rattle.flip_keys.specs.declared.memory.Item.TheVariants.{Term, List as ListOf}
use Rattle.flip_keys.specs.contracts.memory.ItemPartialEq.TheImpl as items

pub Decides-class : (x y : Class) → Decides ((classes.ghosts).eq x y) (x ≡ y)
Decides-class (Alone a) (Alone c) = (λ h. ap Alone ((Decides-eqb a c).0 h), λ h. (Decides-eqb a c).1 (cc))
Decides-class (Equality a b) (Equality c d) =
    let both = Decides-and _ _ (Decides-eqb a c) (Decides-eqb b d) in
    (λ h. let e = both.0 h in let e0 = e.0 in let e1 = e.1 in cc, λ h. both.1 ((cc), (cc)))
Decides-class (Application a b) (Application c d) =
    let both = Decides-and _ _ (Decides-eqb a c) (Decides-eqb b d) in
    (λ h. let e = both.0 h in let e0 = e.0 in let e1 = e.1 in cc, λ h. both.1 ((cc), (cc)))
Decides-class (Arguments a b) (Arguments c d) =
    let both = Decides-and _ _ (Decides-eqb a c) (Decides-eqb b d) in
    (λ h. let e = both.0 h in let e0 = e.0 in let e1 = e.1 in cc, λ h. both.1 ((cc), (cc)))
Decides-class (Alone a) (Equality c d) = (λ h. cc, λ h. cc)
Decides-class (Alone a) (Application c d) = (λ h. cc, λ h. cc)
Decides-class (Alone a) (Arguments c d) = (λ h. cc, λ h. cc)
Decides-class (Equality a b) (Alone c) = (λ h. cc, λ h. cc)
Decides-class (Equality a b) (Application c d) = (λ h. cc, λ h. cc)
Decides-class (Equality a b) (Arguments c d) = (λ h. cc, λ h. cc)
Decides-class (Application a b) (Alone c) = (λ h. cc, λ h. cc)
Decides-class (Application a b) (Equality c d) = (λ h. cc, λ h. cc)
Decides-class (Application a b) (Arguments c d) = (λ h. cc, λ h. cc)
Decides-class (Arguments a b) (Alone c) = (λ h. cc, λ h. cc)
Decides-class (Arguments a b) (Equality c d) = (λ h. cc, λ h. cc)
Decides-class (Arguments a b) (Application c d) = (λ h. cc, λ h. cc)

Decides-item : (x y : Item) → Decides ((items.ghosts).eq x y) (x ≡ y)
Decides-item (Term a) (Term c) = (λ h. ap Term ((Decides-eqb a c).0 h), λ h. (Decides-eqb a c).1 (cc))
Decides-item (ListOf a) (ListOf c) = (λ h. ap ListOf ((Decides-eqb a c).0 h), λ h. (Decides-eqb a c).1 (cc))
Decides-item (Term a) (ListOf c) = (λ h. cc, λ h. cc)
Decides-item (ListOf a) (Term c) = (λ h. cc, λ h. cc)

pub same_item : (x y : Item) → (x ≡ y) ⊎ (x ≢ y)
same_item x y = go ((items.ghosts).eq x y) (Decides-item x y)
  where
    go : (b : Bool) → Decides b (x ≡ y) → (x ≡ y) ⊎ (x ≢ y)
    go true d = inl (d.0 refl)
    go false d = inr (λ e. absurd (let f = d.1 e in cc))
