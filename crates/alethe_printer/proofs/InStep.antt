-- Lists in step, from one place on.
use Rattle.std.proofs.Common.{◌≡◌, ℕ, zero, suc, ◌<◌, ◌≤◌, ◌+◌, List, [], ◌∷◌, length, get_or, drop, slice_get, Some, refl, subst, arith}
use Rattle.std.proofs.lemmas.List.{drop_all, drop_more}
use Rattle.std.specs.List.{AllZip}

pub no_more : {A B : Type 0} (R : A → B → Type 0) (xs : List A) (k : ℕ) (ys : List B) → length xs ≤ k → AllZip R (drop k xs) ys → ys ≡ []
no_more R xs k ys end h = go ys (subst (λ zs. AllZip R zs ys) (drop_all k xs end) h)
  where
    go : (zs : List _) → AllZip R [] zs → zs ≡ []
    go [] g = refl
    go (z ∷ zs) g = absurd g

-- what is in step with the item of a place
pub record IsNext {A B : Type 0} (R : A → B → Type 0) (xs : List A) (k : ℕ) (d : A) (ys : List B) : Type 0 where
  pub first : B
  pub others : List B
  pub is : ys ≡ first ∷ others
  pub fits : R (get_or xs k d) first
  pub rest : AllZip R (drop (k + 1) xs) others

pub one_more : {A B : Type 0} (R : A → B → Type 0) (xs : List A) (k : ℕ) (d : A) (ys : List B) → k < length xs → AllZip R (drop k xs) ys → IsNext R xs k d ys
one_more {A} {B} R xs k d ys within h = go ys (subst (λ zs. AllZip R zs ys) (drop_more xs k d within) h)
  where
    go : (zs : List B) → AllZip R (get_or xs k d ∷ drop (k + 1) xs) zs → IsNext R xs k d zs
    go [] g = absurd g
    go (z ∷ zs) g = record { first = z; others = zs; is = refl; fits = g.0; rest = g.1 }

-- the first item from one place on
pub record IsHead {X : Type 0} (xs : List X) (k : ℕ) (x : X) (ys : List X) : Type 0 where
  pub there : slice_get xs k ≡ Some x
  pub others : drop (suc k) xs ≡ ys
  pub within : k < length xs

pub head_of : {X : Type 0} (xs : List X) (k : ℕ) (x : X) (ys : List X) → drop k xs ≡ x ∷ ys → IsHead xs k x ys
head_of [] zero x ys e = absurd (cc)
head_of [] (suc k) x ys e = absurd (cc)
head_of (z ∷ xs) zero x ys e = record { there = cc; others = cc; within = omega arith }
head_of (z ∷ xs) (suc k) x ys e = let h = head_of xs k x ys e in record { there = h.there; others = h.others; within = let w = h.within in omega arith }

-- what a list has at a place, and behind it
pub record IsSplit {X : Type 0} (xs : List X) (k : ℕ) : Type 0 where
  pub first : X
  pub others : List X
  pub is : drop k xs ≡ first ∷ others

pub split_at : {X : Type 0} (xs : List X) (k : ℕ) → k < length xs → IsSplit xs k
split_at [] k within = absurd (omega (arith, within))
split_at (x ∷ xs) zero within = record { first = x; others = xs; is = refl }
split_at (x ∷ xs) (suc k) within = let h = split_at xs k (omega (arith, within)) in record { first = h.first; others = h.others; is = h.is }
