-- Chains over items that stand for others one to one.
use Rattle.std.proofs.Common.{◌≡◌, ◌↔◌, inl, inr, List, [], ◌∷◌, ◌++◌, refl, subst, Contains}
use Rattle.std.specs.List.{AllZip}
use Rattle.term_model.proofs.Lists.{contains_none, contains_cases, contains_head, contains_later}
use Rattle.term_model.proofs.Zips.{zip_append, zip_push}
use Rattle.rule_model.specs.Renaming.{KeepsAtomsApart}
use Rattle.rule_model.specs.Resolution.{LeavesWithout, IsFirstsOf, IsJoined, Joins, JoinAll}

-- the other way round
abbrev pub Back : {A B : Type 0} → (A → B → Type 0) → B → A → Type 0
Back R y x = R x y

pub zip_back : {A B : Type 0} (R : A → B → Type 0) (xs : List A) (ys : List B) → AllZip R xs ys → AllZip (Back R) ys xs
zip_back R [] [] z = tt
zip_back R [] (y ∷ ys) z = absurd z
zip_back R (x ∷ xs) [] z = absurd z
zip_back R (x ∷ xs) (y ∷ ys) z = (z.0, zip_back R xs ys z.1)

pub zips_back : {A B : Type 0} (R : A → B → Type 0) (xs : List (List A)) (ys : List (List B)) → AllZip (AllZip R) xs ys → AllZip (AllZip (Back R)) ys xs
zips_back R [] [] z = tt
zips_back R [] (y ∷ ys) z = absurd z
zips_back R (x ∷ xs) [] z = absurd z
zips_back R (x ∷ xs) (y ∷ ys) z = (zip_back R x y z.0, zips_back R xs ys z.1)

abbrev pub Both : {A B : Type 0} → (A → B → Type 0) → A × A → B × B → Type 0
Both R p q = R p.0 q.0 × R p.1 q.1

pub pairs_back : {A B : Type 0} (R : A → B → Type 0) (xs : List (A × A)) (ys : List (B × B)) → AllZip (Both R) xs ys → AllZip (Both (Back R)) ys xs
pairs_back R [] [] z = tt
pairs_back R [] (y ∷ ys) z = absurd z
pairs_back R (x ∷ xs) [] z = absurd z
pairs_back R (x ∷ xs) (y ∷ ys) z = (z.0, pairs_back R xs ys z.1)

pub apart_back : {A B : Type 0} (R : A → B → Type 0) → KeepsAtomsApart R → KeepsAtomsApart (Back R)
apart_back R one x y a b r q = ((one a b x y r q).1, (one a b x y r q).0)

module _ {A B : Type 0} (R : A → B → Type 0) (one : KeepsAtomsApart R) where
  contains_over : (xs : List A) (ys : List B) (a : A) (b : B) → AllZip R xs ys → R a b → Contains xs a → Contains ys b
  contains_over [] ys a b z r c = absurd (contains_none a c)
  contains_over (x ∷ xs) [] a b z r c = absurd z
  contains_over (x ∷ xs) (y ∷ ys) a b z r c =
      elim (contains_cases x a xs c) [
        | inl here ↦ rw (← (one x a y b z.0 r).0 here) (contains_head y ys)
        | inr later ↦ contains_later y b ys (contains_over xs ys a b z.1 r later)
      ]

  leaves_over : (a : A) (b : B) (xs : List A) (ys : List B) (rest : List A) → R a b → AllZip R xs ys → LeavesWithout a xs rest
      → (left : List B) × AllZip R rest left × LeavesWithout b ys left
  leaves_over a b [] [] rest r z w = ([], rw w tt, refl)
  leaves_over a b [] (y ∷ ys) rest r z w = absurd z
  leaves_over a b (x ∷ xs) [] rest r z w = absurd z
  leaves_over a b (x ∷ xs) (y ∷ ys) rest r z (inl (same, w)) =
      let more = leaves_over a b xs ys rest r z.1 w in
      (more.0, more.1, inl ((one x a y b z.0 r).0 same, more.2))
  leaves_over a b (x ∷ xs) (y ∷ ys) rest r z (inr (other, (us, e, w))) =
      let more = leaves_over a b xs ys us r z.1 w in
      (y ∷ more.0, rw e (z.0, more.1), inr (λ same. other ((one x a y b z.0 r).1 same), (more.0, refl, more.2)))

module _ {A B : Type 0} (R : A → B → Type 0) (one : KeepsAtomsApart R) where
  firsts_over : (seen : List A) (other : List B) (xs : List A) (ys : List B) (rest : List A) → AllZip R seen other → AllZip R xs ys
      → IsFirstsOf seen xs rest → (left : List B) × AllZip R rest left × IsFirstsOf other ys left
  firsts_over seen other [] [] rest s z f = ([], rw f tt, refl)
  firsts_over seen other [] (y ∷ ys) rest s z f = absurd z
  firsts_over seen other (x ∷ xs) [] rest s z f = absurd z
  firsts_over seen other (x ∷ xs) (y ∷ ys) rest s z (inl (has, f)) =
      let more = firsts_over seen other xs ys rest s z.1 f in
      (more.0, more.1, inl (contains_over R one seen other x y s z.0 has, more.2))
  firsts_over seen other (x ∷ xs) (y ∷ ys) rest s z (inr (lacks, (us, e, f))) =
      let more = firsts_over (seen ++ x ∷ []) (other ++ y ∷ []) xs ys us (zip_push R seen other x y s z.0) z.1 f in (
        y ∷ more.0,
        rw e (z.0, more.1),
        inr (
          λ has. lacks (contains_over (Back R) (apart_back R one) other seen y x
              (zip_back R seen other s) z.0 has),
          (more.0, refl, more.2),
        ),
      )

  pub joined_over : (left right : List A) (here there : A) (next : List A) (l r : List B) (h t : B) → AllZip R left l → AllZip R right r → R here h
      → R there t → IsJoined left right here there next → (n : List B) × AllZip R next n × IsJoined l r h t n
  joined_over left right here there next l r h t zl zr rh rt joined =
      let kept = leaves_over R one here h left l joined.left_rest rh zl joined.left_is in
      let others = leaves_over R one there t right r joined.right_rest rt zr joined.right_is in
      let firsts = firsts_over [] [] (joined.left_rest ++ joined.right_rest) (kept.0 ++ others.0) next tt
      (zip_append R joined.left_rest kept.0 joined.right_rest others.0 kept.1 others.1) joined.firsts in (
        firsts.0,
        firsts.1,
        record {
          on_left = contains_over R one left l here h zl rh joined.on_left;
          on_right = contains_over R one right r there t zr rt joined.on_right;
          left_rest = kept.0;
          left_is = kept.2;
          right_rest = others.0;
          right_is = others.2;
          firsts = firsts.2;
        },
      )

  same_over : (xs : List A) (ys zs : List B) → AllZip R xs ys → AllZip R xs zs → ys ≡ zs
  same_over [] [] [] z w = refl
  same_over [] [] (u ∷ us) z w = absurd w
  same_over [] (y ∷ ys) zs z w = absurd z
  same_over (x ∷ xs) [] zs z w = absurd z
  same_over (x ∷ xs) (y ∷ ys) [] z w = absurd w
  same_over (x ∷ xs) (y ∷ ys) (u ∷ us) z w = rw ((one x x y u z.0 w.0).0 refl, same_over xs ys us z.1 w.1) refl

  joins_over : (left : List A) (premises : List (List A)) (pivots : List (A × A)) (clause : List A)
      (l : List B) (ps : List (List B)) (qs : List (B × B)) (c : List B)
      → AllZip R left l → AllZip (AllZip R) premises ps → AllZip (Both R) pivots qs → AllZip R clause c
      → Joins left premises pivots clause → Joins l ps qs c
  joins_over left [] [] clause l [] [] c zl zp zq zc e = same_over clause l c (subst (λ xs. AllZip R xs l) e zl) zc
  joins_over left [] [] clause l (p ∷ ps) qs c zl zp zq zc e = absurd zp
  joins_over left [] [] clause l [] (q ∷ qs) c zl zp zq zc e = absurd zq
  joins_over left [] (pivot ∷ pivots) clause l ps qs c zl zp zq zc none = absurd none
  joins_over left (right ∷ premises) [] clause l ps qs c zl zp zq zc none = absurd none
  joins_over left (right ∷ premises) (pivot ∷ pivots) clause l [] qs c zl zp zq zc chain = absurd zp
  joins_over left (right ∷ premises) (pivot ∷ pivots) clause l (p ∷ ps) [] c zl zp zq zc chain = absurd zq
  joins_over left (right ∷ premises) (pivot ∷ pivots) clause l (p ∷ ps) (q ∷ qs) c zl zp zq zc chain =
      let next = joined_over left right pivot.0 pivot.1 chain.0 l p q.0 q.1 zl zp.0 zq.0.0 zq.0.1 chain.1 in
      (next.0, next.2, joins_over chain.0 premises pivots clause next.0 ps qs c next.1 zp.1 zq.1 zc chain.2)

  all_over : (premises : List (List A)) (pivots : List (A × A)) (clause : List A) (ps : List (List B)) (qs : List (B × B)) (c : List B)
      → AllZip (AllZip R) premises ps → AllZip (Both R) pivots qs → AllZip R clause c → JoinAll pivots premises clause → JoinAll qs ps c
  all_over [] pivots clause ps qs c zp zq zc none = absurd none
  all_over (first ∷ premises) pivots clause [] qs c zp zq zc chain = absurd zp
  all_over (first ∷ premises) pivots clause (p ∷ ps) qs c zp zq zc chain = joins_over first premises pivots clause p ps qs c zp.0 zp.1 zq zc chain

-- a chain is one of what its items stand for, and the other way round
pub all_carried : {A B : Type 0} (R : A → B → Type 0) → KeepsAtomsApart R
    → (premises : List (List A)) (pivots : List (A × A)) (clause : List A) (ps : List (List B)) (qs : List (B × B)) (c : List B)
    → AllZip (AllZip R) premises ps → AllZip (Both R) pivots qs → AllZip R clause c → JoinAll pivots premises clause ↔ JoinAll qs ps c
all_carried R one premises pivots clause ps qs c zp zq zc = (
  all_over R one premises pivots clause ps qs c zp zq zc,
  all_over (Back R) (apart_back R one) ps qs c premises pivots clause (zips_back R premises ps zp) (pairs_back R pivots qs zq) (zip_back R clause c zc),
)
