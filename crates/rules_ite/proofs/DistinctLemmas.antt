-- Inequalities of each two of some terms.
use Rattle.std.proofs.Common.{◌≡◌, ◌≢◌, ◌↔◌, inl, inr, ◌<◌, ◌≤◌, ◌+◌, ℕ, zero, suc, List, [], ◌∷◌, ◌++◌, length, take, drop, get_or, Bool, true, false, IsTrue, refl, sym, ap, ◌∙◌, arith, add-one}
use Rattle.std.specs.List.{AllZip}
use Rattle.std.proofs.lemmas.List.{drop_all}
use Rattle.sym_table.specs.Table.{Table}
use Rattle.term_model.proofs.Zips.{zip_length}
use Rattle.term_model.specs.Flips.{equality}
use Rattle.term_model.specs.Terms.{Term, not_of}
use Rattle.term_pool.specs.Views.{TermsView, RefersTo}
use Rattle.term_pool.proofs.References.{AreOne}
use Rattle.rule_model.specs.Ite.{AreInequalities, IsInequality}
use Rattle.rule_model.proofs.ArgumentLists.{same_inside}
use Rattle.term_parts.specs.Parts.{AreSidesOf}

same_sides : (x y z w : Term) → equality x y ≡ equality z w → (x ≡ z) × (y ≡ w)
same_sides x y z w e = (let f : x ≡ z = cc in f, let f : y ≡ w = cc in f)

pub no_inequality : (t u l : Term) → ((a b : Term) → l ≢ not_of (equality a b)) → IsTrue false ↔ IsInequality t u l
no_inequality t u l other = (λ e. absurd cc, λ h. absurd (go h))
  where
    go : IsInequality t u l → ⊥
    go (inl e) = other t u e
    go (inr e) = other u t e

module _ (s : Table) (v : TermsView) (one : AreOne s v) (p : ℕ × ℕ) (l : Term) (sides : AreSidesOf s v not_of p l) where
  -- the references are the sides exactly where the terms are
  sides_same : (a b : ℕ) (t u : Term) → RefersTo s v a t → RefersTo s v b u → ((p.0 ≡ a) × (p.1 ≡ b)) ↔ (l ≡ not_of (equality t u))
  sides_same a b t u first second = (
    λ (e, f).
        (let left : sides.left ≡ t = (one p.0 a sides.left t sides.left_refers first).0 e in
        let right : sides.right ≡ u = (one p.1 b sides.right u sides.right_refers second).0 f in
        sides.is ∙ ap not_of (ap (λ z. equality z sides.right) left ∙ ap (equality t) right)),
    λ e.
        (let same = same_sides sides.left sides.right t u (same_inside (equality sides.left sides.right) (equality t u) (sym sides.is ∙ e)) in (
          (one p.0 a sides.left t sides.left_refers first).1 same.0,
          (one p.1 b sides.right u sides.right_refers second).1 same.1,
        )),
  )

  module _ (a b : ℕ) (t u : Term) (first : RefersTo s v a t) (second : RefersTo s v b u) where
    pub inequality_here : (told : Bool) → IsTrue told ↔ ((p.0 ≡ a) × (p.1 ≡ b)) → told ≡ true → IsInequality t u l
    inequality_here told test holds = inl ((sides_same a b t u first second).0 (test.0 holds))

    pub inequality_turned : (refused told : Bool) → IsTrue refused ↔ ((p.0 ≡ a) × (p.1 ≡ b)) → refused ≡ false → IsTrue told ↔ ((p.0 ≡ b) × (p.1 ≡ a)) → IsTrue told ↔ IsInequality t u l
    inequality_turned refused told other fails test = (λ e. inr ((sides_same b a u t second first).0 (test.0 e)), go)
      where
        go : IsInequality t u l → IsTrue told
        go (inl e) = absurd (let holds = other.1 ((sides_same a b t u first second).1 e) in cc)
        go (inr e) = test.1 ((sides_same b a u t second first).1 e)

-- a relation that holds place by place
module _ (R : Term → Term → Type 0) where
  pub zip_next : (i : ℕ) (us ls : List Term) (d e : Term) → i < length us → i < length ls → R (get_or us i d) (get_or ls i e) → AllZip R (drop i us) (drop i ls) ↔ AllZip R (drop (i + 1) us) (drop (i + 1) ls)
  zip_next i us ls d e below within holds = rw (add-one) (go i us ls below within holds)
    where
      go : (i : ℕ) (us ls : List Term) → i < length us → i < length ls → R (get_or us i d) (get_or ls i e) → AllZip R (drop i us) (drop i ls) ↔ AllZip R (drop (suc i) us) (drop (suc i) ls)
      go i [] ls below within holds = absurd (omega (arith, below))
      go i (u ∷ us) [] below within holds = absurd (omega (arith, within))
      go zero (u ∷ us) (l ∷ ls) below within holds = (λ h. h.1, λ h. (holds, h))
      go (suc i) (u ∷ us) (l ∷ ls) below within holds = go i us ls (omega (arith, below)) (omega (arith, within)) holds

  pub zip_fails : (i : ℕ) (us ls : List Term) (d e : Term) → i < length us → i < length ls → ¬ R (get_or us i d) (get_or ls i e) → ¬ AllZip R (drop i us) (drop i ls)
  zip_fails i [] ls d e below within fails h = omega (arith, below)
  zip_fails i (u ∷ us) [] d e below within fails h = omega (arith, within)
  zip_fails zero (u ∷ us) (l ∷ ls) d e below within fails h = fails h.0
  zip_fails (suc i) (u ∷ us) (l ∷ ls) d e below within fails h = zip_fails i us ls d e (omega (arith, below)) (omega (arith, within)) fails h

  pub zip_end : (i : ℕ) (us ls : List Term) → length us ≤ i → length ls ≤ i → AllZip R (drop i us) (drop i ls)
  zip_end i us ls over other = rw (drop_all i us over, drop_all i ls other) tt

-- the inequalities of a term with the later ones stand first
module _ (t : Term) (us ls : List Term) where
  pub apart_first : length us ≤ length ls → (told : Bool) → IsTrue told ↔ AllZip (IsInequality t) us (take (length us) ls) → told ≡ true → AreInequalities (t ∷ us) ls ↔ AreInequalities us (drop (length us) ls)
  apart_first within told test holds = (
    λ (here, later, is, zip, rest). (let count = zip_length (IsInequality t) us here zip in rw (is, count) (rw (drop_front here later) rest)),
    λ rest. (take (length us) ls, drop (length us) ls, sym (take_and_drop (length us) ls), test.0 holds, rest),
  )
    where
      drop_front : (xs ys : List Term) → drop (length xs) (xs ++ ys) ≡ ys
      drop_front [] ys = refl
      drop_front (x ∷ xs) ys = drop_front xs ys

      take_and_drop : (n : ℕ) (xs : List Term) → take n xs ++ drop n xs ≡ xs
      take_and_drop zero xs = refl
      take_and_drop (suc n) [] = refl
      take_and_drop (suc n) (x ∷ xs) = ap (λ ys. x ∷ ys) (take_and_drop n xs)

  pub apart_fails : (refused : Bool) → IsTrue refused ↔ AllZip (IsInequality t) us (take (length us) ls) → refused ≡ false → ¬ AreInequalities (t ∷ us) ls
  apart_fails refused test fails (here, later, is, zip, rest) =
      let count = zip_length (IsInequality t) us here zip in
      let holds = test.1 (rw (is, count) (rw (take_front here later) zip)) in absurd cc
    where
      take_front : (xs ys : List Term) → take (length xs) (xs ++ ys) ≡ xs
      take_front [] ys = refl
      take_front (x ∷ xs) ys = ap (λ zs. x ∷ zs) (take_front xs ys)

  pub apart_short : length ls < length us → ¬ AreInequalities (t ∷ us) ls
  apart_short short (here, later, is, zip, rest) =
      let count = zip_length (IsInequality t) us here zip in
      let whole = ap length is ∙ joined here later in omega (arith, short, count, whole)
    where
      joined : (xs ys : List Term) → length (xs ++ ys) ≡ length xs + length ys
      joined [] ys = omega arith
      joined (x ∷ xs) ys = ap suc (joined xs ys) ∙ omega arith
