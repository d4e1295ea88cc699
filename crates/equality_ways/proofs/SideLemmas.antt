-- Sides of premises and of literals, place by place.
use Rattle.std.proofs.Common.{◌≡◌, ◌≢◌, ◌<◌, ◌+◌, ℕ, List, [], ◌∷◌, ◌++◌, length, take, get_or, Some, None, refl, sym, ap, ◌∙◌, subst}
use Rattle.std.specs.List.{AllZip}
use Rattle.std.proofs.lemmas.List.{take_more}
use Rattle.sym_table.specs.Table.{Table}
use Rattle.term_model.specs.Flips.{equality}
use Rattle.term_model.specs.Terms.{Term, not_of}
use Rattle.term_model.proofs.Zips.{zip_push}
use Rattle.term_parts.specs.Parts.{AreSidesOf}
use Rattle.term_pool.specs.Views.{TermsView, RefersTo, ReferToAll}
use Rattle.rule_model.specs.Clausal.{as_it_stands}
use Rattle.equality_ways.specs.Sides.{AreSidesOfDenial, AreSidesOfUnit}

-- what stands beside a list with one item more
record IsOneMore {X Y : Type 0} (R : X → Y → Type 0) (xs : List X) (x : X) (ys : List Y) : Type 0 where
  pub front : List Y
  pub last : Y
  pub is : ys ≡ front ++ last ∷ []
  pub front_zip : AllZip R xs front
  pub last_zip : R x last

zip_split : {X Y : Type 0} (R : X → Y → Type 0) (xs : List X) (x : X) (ys : List Y) → AllZip R (xs ++ x ∷ []) ys → IsOneMore R xs x ys
zip_split R [] x [] z = absurd z
zip_split R [] x (y ∷ []) z = record { front = []; last = y; is = refl; front_zip = tt; last_zip = z.0 }
zip_split R [] x (y ∷ (w ∷ ys)) z = absurd z.1
zip_split R (v ∷ xs) x [] z = absurd z
zip_split R (v ∷ xs) x (y ∷ ys) z =
    let more = zip_split R xs x ys z.1 in
    record {
      front = y ∷ more.front;
      last = more.last;
      is = ap (λ us. y ∷ us) more.is;
      front_zip = (z.0, more.front_zip);
      last_zip = more.last_zip;
    }

-- the sides of one item more
pub sides_next : {X Y Z : Type 0} (R : X → Y → Type 0) (S : Z → Y → Type 0) (xs : List X) (i : ℕ) (x : X) (zs : List Z) (z : Z) → i < length xs → x ≡ get_or xs i x → ((ys : List Y) → AllZip R (take i xs) ys → AllZip S zs ys) → ((y : Y) → R x y → S z y) → (ys : List Y) → AllZip R (take (i + 1) xs) ys → AllZip S (zs ++ z ∷ []) ys
sides_next R S xs i x zs z below is before here ys h =
    let more = zip_split R (take i xs) x ys (subst (λ us. AllZip R us ys) (take_more xs i x below ∙ ap (λ w. take i xs ++ w ∷ []) (sym is)) h) in
    subst (AllZip S (zs ++ z ∷ [])) (sym more.is) (zip_push S zs more.front z more.last (before more.front more.front_zip) (here more.last more.last_zip))

pub sides_none : {X Y Z : Type 0} (R : X → Y → Type 0) (S : Z → Y → Type 0) (ys : List Y) → AllZip R [] ys → AllZip S [] ys
sides_none R S [] h = tt
sides_none R S (y ∷ ys) h = absurd h

-- a clause by its one literal
one_zip : {X Y : Type 0} (R : X → Y → Type 0) (x : X) (ys : List Y) → AllZip R (x ∷ []) ys → (y : Y) × (ys ≡ y ∷ []) × R x y
one_zip R x [] z = absurd z
one_zip R x (y ∷ []) z = (y, refl, z.0)
one_zip R x (y ∷ (w ∷ ys)) z = absurd z.1

pub unit_of : (s : Table) (v : TermsView) (rs : List ℕ) (r : ℕ) (p : ℕ × ℕ) → rs ≡ r ∷ [] → ((t : Term) → RefersTo s v r t → AreSidesOf s v as_it_stands p t) → (clause : List Term) → ReferToAll s v rs clause → AreSidesOfUnit s v (Some p) clause
unit_of s v rs r p is sides clause refers =
    let here = one_zip (RefersTo s v) r clause (rw is at refers) in
    let both = sides here.0 here.2 in
    ((both.left, both.right), (both.left_refers, both.right_refers), here.1 ∙ ap (λ t. t ∷ []) both.is)

pub no_unit_of : (s : Table) (v : TermsView) (rs : List ℕ) (r : ℕ) → rs ≡ r ∷ [] → ((t u w : Term) → RefersTo s v r t → t ≢ equality u w) → (clause : List Term) → ReferToAll s v rs clause → AreSidesOfUnit s v None clause
no_unit_of s v rs r is not_equality clause refers u w e =
    let here = one_zip (RefersTo s v) r clause (rw is at refers) in
    not_equality here.0 u w here.2 (let f : here.0 ∷ [] ≡ equality u w ∷ [] = sym here.1 ∙ e in cc)

zip_one : {X Y : Type 0} (R : X → Y → Type 0) (xs : List X) (y : Y) → AllZip R xs (y ∷ []) → (x : X) × (xs ≡ x ∷ [])
zip_one R [] y z = absurd z
zip_one R (x ∷ []) y z = (x, refl)
zip_one R (x ∷ (v ∷ xs)) y z = absurd z.1

pub not_one_literal : (s : Table) (v : TermsView) (rs : List ℕ) → ((r : ℕ) → rs ≢ r ∷ []) → (clause : List Term) → ReferToAll s v rs clause → AreSidesOfUnit s v None clause
not_one_literal s v rs many clause refers u w e =
    let here = zip_one (RefersTo s v) rs (equality u w) (rw e at refers) in many here.0 here.1

pub denial_of : (s : Table) (v : TermsView) (p : ℕ × ℕ) (t : Term) → AreSidesOf s v not_of p t → AreSidesOfDenial s v (Some p) t
denial_of s v p t both = ((both.left, both.right), (both.left_refers, both.right_refers), both.is)
