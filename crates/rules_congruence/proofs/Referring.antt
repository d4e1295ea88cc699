-- Lists of references and of the terms for which they stand.
use Rattle.std.proofs.Common.{◌≡◌, ◌<◌, ◌+◌, ℕ, List, [], ◌∷◌, ◌++◌, length, take, get_or, refl, sym, ap, ◌∙◌, subst}
use Rattle.std.specs.List.{AllZip}
use Rattle.std.proofs.lemmas.List.{take_more}

-- what stands beside a list with one item more
pub record IsOneMore {X Y : Type 0} (R : X → Y → Type 0) (xs : List X) (x : X) (ys : List Y) : Type 0 where
  pub front : List Y
  pub last : Y
  pub is : ys ≡ front ++ last ∷ []
  pub front_zip : AllZip R xs front
  pub last_zip : R x last

pub zip_split : {X Y : Type 0} (R : X → Y → Type 0) (xs : List X) (x : X) (ys : List Y) → AllZip R (xs ++ x ∷ []) ys → IsOneMore R xs x ys
zip_split R [] x [] z = absurd z
zip_split R [] x (y ∷ []) z = record { front = []; last = y; is = refl; front_zip = tt; last_zip = z.0 }
zip_split R [] x (y ∷ (w ∷ ys)) z = absurd z.1
zip_split R (v ∷ xs) x [] z = absurd z
zip_split R (v ∷ xs) x (y ∷ ys) z =
    let more = zip_split R xs x ys z.1 in
    record {
      front = y ∷ more.front;
      last = more.last;
      is = ap (λ us. y ∷ us) more.is;
      front_zip = (z.0, more.front_zip);
      last_zip = more.last_zip;
    }

pub zip_next : {X Y : Type 0} (R : X → Y → Type 0) (xs : List X) (i : ℕ) (x : X) (ys : List Y) → i < length xs → x ≡ get_or xs i x → AllZip R (take (i + 1) xs) ys → IsOneMore R (take i xs) x ys
zip_next R xs i x ys below is z =
    zip_split R (take i xs) x ys
    (subst (λ us. AllZip R us ys) (take_more xs i x below ∙ ap (λ w. take i xs ++ w ∷ []) (sym is)) z)

-- one item
pub record IsBeside {X Y : Type 0} (R : X → Y → Type 0) (x : X) (ys : List Y) : Type 0 where
  pub item : Y
  pub is : ys ≡ item ∷ []
  pub zip : R x item

pub one_zip : {X Y : Type 0} (R : X → Y → Type 0) (x : X) (ys : List Y) → AllZip R (x ∷ []) ys → IsBeside R x ys
one_zip R x [] z = absurd z
one_zip R x (y ∷ []) z = record { item = y; is = refl; zip = z.0 }
one_zip R x (y ∷ (w ∷ ys)) z = absurd z.1

pub zip_one : {X Y : Type 0} (R : X → Y → Type 0) (xs : List X) (y : Y) → AllZip R xs (y ∷ []) → (x : X) × (xs ≡ x ∷ [])
zip_one R [] y z = absurd z
zip_one R (x ∷ []) y z = (x, refl)
zip_one R (x ∷ (v ∷ xs)) y z = absurd z.1

pub zip_none : {X Y : Type 0} (R : X → Y → Type 0) (xs : List X) → AllZip R xs [] → xs ≡ []
zip_none R [] z = refl
zip_none R (x ∷ xs) z = absurd z

pub none_zip : {X Y : Type 0} (R : X → Y → Type 0) (ys : List Y) → AllZip R [] ys → ys ≡ []
none_zip R [] z = refl
none_zip R (y ∷ ys) z = absurd z
