-- Private. What the first of some pairs needs, by what is found in the table of the equalities that are denied.
use Rattle.std.proofs.Common.{◌≡◌, ◌≢◌, ◌↔◌, IsTrue, drop, get_or, ℕ, zero, suc, Bool, true, false, not, List, [], ◌∷◌, Option, Some, slice_get, All, Contains, take, length, ◌<◌, arith, refl, sym, ◌∙◌, ap, subst}
use Rattle.term_model.proofs.Lists.{contains_head, contains_later}
use Rattle.equality_ways.specs.declared.pairs.Used.{Used}
use Rattle.equality_ways.specs.Ways.{AreEnds, LeadsTo, turned_if}
use Rattle.elab_denials.specs.declared.needs.Need.{Need}
use Rattle.elab_denials.specs.Owing.{IsNeed}

there : {X : Type 0} (xs : List X) (k : ℕ) (x : X) → slice_get xs k ≡ Some x → Contains xs x
there [] k x e = cc
there (y ∷ xs) zero x e = let same : y ≡ x = cc in subst (Contains (y ∷ xs)) same (contains_head y xs)
there (y ∷ xs) (suc k) x e = contains_later y x xs (there xs k x e)

module _ (sides : List (Option (ℕ × ℕ))) (u : Used) (a b : ℕ) (leads : LeadsTo sides u a b) where
  pub given_as_is : u.turned ≡ false → Contains sides (Some (a, b))
  given_as_is e = there sides u.place (Some (a, b)) (leads ∙ ap (λ t. Some (Some (turned_if t (a, b)))) e)

  pub given_turned : u.turned ≡ true → Contains sides (Some (b, a))
  given_turned e = there sides u.place (Some (b, a)) (leads ∙ ap (λ t. Some (Some (turned_if t (a, b)))) e)

pub not_false : (b : Bool) → not b ≡ false → b ≡ true
not_false true e = refl
not_false false e = cc

pub clash : (b : Bool) → b ≡ true → b ≡ false → ⊥
clash b e f = cc

split_at : {X : Type 0} (xs : List X) (x : X) → xs ≢ [] → xs ≡ get_or xs 0 x ∷ drop 1 xs
split_at [] x some = absurd (some refl)
split_at (y ∷ xs) x some = refl

-- of a list that begins with the pair
pub need_is : (sides : List (Option (ℕ × ℕ))) (pairs rest : List (ℕ × ℕ)) (q : ℕ × ℕ) (need : Need) → pairs ≡ q ∷ rest → IsNeed sides (q ∷ rest) need
    → IsNeed sides pairs need
need_is sides pairs rest q need e h = subst (λ xs. IsNeed sides xs need) (sym e) h

-- all items that a list has where its end is reached
pub all_taken : {X : Type 0} (P : X → Type 0) (xs : List X) (k : ℕ) → (k < length xs → ⊥) → All P (take k xs) → All P xs
all_taken P xs k past h = subst (All P) (take_past xs k past) h
  where
    take_past : {Y : Type 0} (ys : List Y) (n : ℕ) → (n < length ys → ⊥) → take n ys ≡ ys
    take_past [] zero out = refl
    take_past [] (suc n) out = refl
    take_past (y ∷ ys) zero out = absurd (out (omega arith))
    take_past (y ∷ ys) (suc n) out = ap (λ zs. y ∷ zs) (take_past ys n (λ less. out (omega arith)))

module _ (sides : List (Option (ℕ × ℕ))) (pairs rest : List (ℕ × ℕ)) (x r : ℕ × ℕ) (again : Bool) (some : pairs ≢ []) (rest_is : rest ≡ drop 1 pairs)
    (same : r ≡ get_or pairs 0 x) (tells : IsTrue again ↔ Contains rest (get_or pairs 0 x)) (not_again : again ≡ false) where
  last : Contains (drop 1 pairs) (get_or pairs 0 x) → ⊥
  last has = clash again (tells.1 (subst (λ xs. Contains xs (get_or pairs 0 x)) (sym rest_is) has)) not_again

  pub need_turning : (u : Used) → LeadsTo sides u r.0 r.1 → u.turned ≡ true → IsNeed sides pairs Need.Turning
  need_turning u leads turned =
      need_is sides pairs (drop 1 pairs) (get_or pairs 0 x) Need.Turning (split_at pairs x some)
      (last, subst (λ (q : ℕ × ℕ). Contains sides (Some (q.1, q.0))) same (given_turned sides u r.0 r.1 leads turned))

  pub need_paying : (AreEnds sides r.0 r.1 → ⊥) → IsNeed sides pairs Need.Paying
  need_paying none =
      need_is sides pairs (drop 1 pairs) (get_or pairs 0 x) Need.Paying (split_at pairs x some)
      (last, subst (λ (q : ℕ × ℕ). AreEnds sides q.0 q.1 → ⊥) same none)
