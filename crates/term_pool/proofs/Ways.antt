-- Cited by crates above. The way of a walk, from its start to where it is: each item is above those behind it, and none has been met.
use Rattle.std.proofs.Common.{◌≡◌, ℕ, ◌-◌, ◌⊎◌, inl, inr, refl, ◌∙◌, List, [], ◌∷◌, ◌++◌, take}
use Rattle.std.specs.List.{AllByRecursion}
use Rattle.term_model.proofs.Lists.{all_at_end, all_last}

pub none_left : {X : Type 0} (xs ys : List X) (n : ℕ) → n ≡ 0 → ys ≡ take (n - 1) xs → xs ≡ ys ++ [] → xs ≡ []
none_left xs ys n z rest whole = whole ∙ rw (rest, z)

module _ {X : Type 0} where
  front_of : (P : X → Type 0) → (xs : List X) (at : X) → AllByRecursion P (xs ++ at ∷ []) → AllByRecursion P xs
  front_of P [] at h = tt
  front_of P (x ∷ xs) at h = (h.0, front_of _ xs at h.1)

  abbrev pub Starts : X → List X → Type 0
  Starts start [] = ⊥
  Starts start (x ∷ xs) = x ≡ start

  starts_push : (r : X) (xs : List X) (at : X) → Starts r xs → Starts r (xs ++ at ∷ [])
  starts_push r [] at h = absurd h
  starts_push r (x ∷ xs) at h = h

  starts_front : (r : X) (xs : List X) (y at : X) → Starts r ((xs ++ y ∷ []) ++ at ∷ []) → Starts r (xs ++ y ∷ [])
  starts_front r [] y at h = h
  starts_front r (x ∷ xs) y at h = h

  module _ (Below : X → X → Type 0) where
    abbrev pub Descends : List X → Type 0
    Descends [] = Unit {0}
    Descends (x ∷ xs) = AllByRecursion (Below x) xs × Descends xs

    pub record IsWay (Met : X → Type 0) (start : X) (items : List X) : Type 0 where
      pub descends : Descends items
      pub unmet : AllByRecursion (λ x. Met x → ⊥) items
      pub starts : Starts start items

    pub way_start : (Met : X → Type 0) (r : X) → (Met r → ⊥) → IsWay Met r (r ∷ [])
    way_start Met r unmet = record { descends = (tt, tt); unmet = (unmet, tt); starts = refl }

    pub way_unmet : (Met : X → Type 0) (r at : X) (way : List X) → IsWay Met r (way ++ at ∷ []) → Met at → ⊥
    way_unmet Met r at way h = all_last _ way at h.unmet

    -- what holds of the start and below anything, holds of where the walk is
    pub way_here : (P : X → Type 0) → ((x y : X) → Below x y → P y) → (Met : X → Type 0) (r at : X) (way : List X) → P r → IsWay Met r (way ++ at ∷ []) → P at
    way_here P below Met r at way root h = go way h.descends h.starts
      where
        go : (xs : List X) → Descends (xs ++ at ∷ []) → Starts r (xs ++ at ∷ []) → P at
        go [] d s = rw s root
        go (x ∷ xs) d s = below x at (all_last _ xs at d.0)

    pub way_end : (Met : X → Type 0) (r at : X) (way : List X) → way ≡ [] → IsWay Met r (way ++ at ∷ []) → at ≡ r
    way_end Met r at way e h = go way e h.starts
      where
        go : (xs : List X) → xs ≡ [] → Starts r (xs ++ at ∷ []) → at ≡ r
        go [] f s = s
        go (x ∷ xs) f s = absurd (cc)

    below_all : ((x y z : X) → Below x y → Below y z → Below x z) → (xs : List X) (at part : X) → Descends (xs ++ at ∷ []) → Below at part → AllByRecursion (λ x. Below x part) (xs ++ at ∷ [])
    below_all further [] at part h k = (k, tt)
    below_all further (x ∷ xs) at part h k =
        (further x at part (all_last _ xs at h.0) k, below_all further xs at part h.1 k)

    descends_push : (xs : List X) (part : X) → Descends xs → AllByRecursion (λ x. Below x part) xs → Descends (xs ++ part ∷ [])
    descends_push [] part h k = (tt, tt)
    descends_push (x ∷ xs) part h k = (all_at_end _ xs part h.0 k.0, descends_push xs part h.1 k.1)

    descends_front : (xs : List X) (at : X) → Descends (xs ++ at ∷ []) → Descends xs
    descends_front [] at h = tt
    descends_front (x ∷ xs) at h = (front_of _ xs at h.0, descends_front xs at h.1)

    pub way_down : ((x y z : X) → Below x y → Below y z → Below x z) → (Met : X → Type 0) (r at part : X) (way : List X) → IsWay Met r (way ++ at ∷ []) → Below at part → (Met part → ⊥) → IsWay Met r ((way ++ at ∷ []) ++ part ∷ [])
    way_down further Met r at part way h k unmet = record {
      descends = descends_push (way ++ at ∷ []) part h.descends (below_all further way at part h.descends k);
      unmet = all_at_end _ (way ++ at ∷ []) part h.unmet unmet;
      starts = starts_push r (way ++ at ∷ []) part h.starts;
    }

    unmet_after : ((x : X) → Below x x → ⊥) → (Old New : X → Type 0) (at : X) → ((x : X) → New x → Old x ⊎ (x ≡ at)) → (xs : List X) → Descends (xs ++ at ∷ []) → AllByRecursion (λ x. Old x → ⊥) (xs ++ at ∷ []) → AllByRecursion (λ x. New x → ⊥) xs
    unmet_after never Old New at more [] h k = tt
    unmet_after never Old New at more (x ∷ xs) h k =
        (λ met. go (more x met), unmet_after never Old New at more xs h.1 k.1)
      where
        go : Old x ⊎ (x ≡ at) → ⊥
        go (inl before) = k.0 before
        go (inr same) = never at (rw same at (all_last _ xs at h.0))

    pub way_up : ((x : X) → Below x x → ⊥) → (Old New : X → Type 0) (r above at : X) (way : List X) → ((x : X) → New x → Old x ⊎ (x ≡ at)) → IsWay Old r ((way ++ above ∷ []) ++ at ∷ []) → IsWay New r (way ++ above ∷ [])
    way_up never Old New r above at way more h = record {
      descends = descends_front (way ++ above ∷ []) at h.descends;
      unmet = unmet_after never Old New at more (way ++ above ∷ []) h.descends h.unmet;
      starts = starts_front r way above at h.starts;
    }
