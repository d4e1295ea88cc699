-- Arguments that hang together, over references and over terms.
use Rattle.std.proofs.Common.{◌≡◌, ◌≢◌, ◌↔◌, ◌⊎◌, inl, inr, ℕ, Bool, true, false, List, [], ◌∷◌, length, refl, sym, ap, ◌∙◌, subst}
use Rattle.std.specs.List.{AllZip}
use Rattle.std.proofs.lemmas.List.Elements.{All-nil, All-cons}
use Rattle.rule_model.specs.Congruence.{Head, operator, function, applied, AreDifferences, ArePlaces, AreCongruent}
use Rattle.sym_table.specs.Table.{Table}
use Rattle.term_model.specs.Flips.{equality}
use Rattle.term_model.specs.Terms.{Term}
use Rattle.term_pool.specs.Views.{TermsView, RefersTo, IsTerm, ReferToAll}
use Rattle.term_pool.proofs.References.{AreOne}
use Rattle.rules_congruence.specs.Applications.{AreApplied}
use Rattle.rules_congruence.specs.Links.{IsTableOf, TellsSides}
use Rattle.rules_congruence.specs.declared.links.Link.{Link}
use Rattle.rules_congruence.specs.Pairs.{AreUsed}
use Rattle.rules_congruence.specs.Sides.{ReferToPair, ReferToPairs, AreEqualitiesOf, nothing, one, other, IsGiven}
use Rattle.rules_congruence.specs.Steps.{AreTerms}
use Rattle.rules_congruence.specs.Uses.{Together}
use Rattle.rules_congruence.specs.declared.uses.Uses.{Uses}
use Rattle.rules_congruence.proofs.ApplicationLemmas.{arguments_are}
use Rattle.rules_congruence.proofs.Carrying.{sides_both, ends_told}
use Rattle.rules_congruence.proofs.TailLemmas.{together_length}
use Rattle.rules_congruence.proofs.TurningLemmas.{iff_trans}

-- the table tells the sides of the premises
pub sides_told : (s : Table) (v : TermsView) → AreOne s v → (pairs : List (ℕ × ℕ)) (only : Bool) (ps : List (List Term)) (links : List Link) → IsGiven s v pairs only ps → IsTableOf pairs links → TellsSides s v links ps
sides_told s v same pairs only ps links given table a b t u left right =
    iff_trans (table.has a b)
    (iff_trans (ends_told s v same pairs given.equalities given.refer a b t u left right) (sides_both ps given.equalities only given.gathered t u))

-- references of a list stand for terms
pub zip_are_terms : (s : Table) (v : TermsView) (rs : List ℕ) (ts : List Term) → ReferToAll s v rs ts → AreTerms s v rs
zip_are_terms s v [] [] h = All-nil (IsTerm s v)
zip_are_terms s v [] (t ∷ ts) h = absurd h
zip_are_terms s v (r ∷ rs) [] h = absurd h
zip_are_terms s v (r ∷ rs) (t ∷ ts) h = All-cons (IsTerm s v) r rs (record { means = t; refers = h.0 }) (zip_are_terms s v rs ts h.1)

-- pairs that are used in order, carried from things to those for which they stand
module _ {X Y : Type 0} (R : X → Y → Type 0) (same : (x w : X) (y z : Y) → R x y → R w z → (x ≡ w) ↔ (y ≡ z)) where
  head_is : (p q : X × X) (ps qs : List (X × X)) → p ∷ ps ≡ q ∷ qs → p ≡ q
  head_is p q ps qs e = cc

  tail_is : (p q : X × X) (ps qs : List (X × X)) → p ∷ ps ≡ q ∷ qs → ps ≡ qs
  tail_is p q ps qs e = cc

  pair_is : (a b c d : Y) (es : List (Y × Y)) → a ≡ b → c ≡ d → ◌≡◌ {A = List (Y × Y)} ((a, c) ∷ es) ((b, d) ∷ es)
  pair_is a b c d es e f = rw (e, f) refl

  differ : (all : Bool) (x w : X) (y z : Y) → R x y → R w z → ((all ≡ true) ⊎ (x ≢ w)) → (all ≡ true) ⊎ (y ≢ z)
  differ all x w y z left right (inl each) = inl each
  differ all x w y z left right (inr apart) = inr (λ e. apart ((same x w y z left right).1 e))

  used_carried : (all : Bool) (pairs : List (X × X)) (es : List (Y × Y)) (xs ys : List X) (ts us : List Y) → AllZip (λ (p : X × X) (e : Y × Y). R p.0 e.0 × R p.1 e.1) pairs es → AllZip R xs ts → AllZip R ys us → AreUsed all pairs xs ys → AreUsed all es ts us
  used_carried all [] [] [] [] [] [] refer left right h = refl
  used_carried all [] (e ∷ es) xs ys ts us refer left right h = absurd refer
  used_carried all (p ∷ pairs) es [] [] ts us refer left right h = absurd (cc)
  used_carried all pairs es [] [] (t ∷ ts) us refer left right h = absurd left
  used_carried all pairs es [] [] [] (u ∷ us) refer left right h = absurd right
  used_carried all pairs es [] (y ∷ ys) ts us refer left right h = absurd h
  used_carried all pairs es (x ∷ xs) [] ts us refer left right h = absurd h
  used_carried all pairs es (x ∷ xs) (y ∷ ys) [] us refer left right h = absurd left
  used_carried all pairs es (x ∷ xs) (y ∷ ys) (t ∷ ts) [] refer left right h = absurd right
  used_carried all pairs es (x ∷ xs) (y ∷ ys) (t ∷ ts) (u ∷ us) refer left right (inl (here, more)) =
      inl ((here.0, (same x y t u left.0 right.0).0 here.1), used_carried all pairs es xs ys ts us refer left.1 right.1 more)
  used_carried all [] es (x ∷ xs) (y ∷ ys) (t ∷ ts) (u ∷ us) refer left right (inr (apart, (rest, is, more))) = absurd (cc)
  used_carried all (p ∷ pairs) [] (x ∷ xs) (y ∷ ys) (t ∷ ts) (u ∷ us) refer left right (inr (apart, (rest, is, more))) = absurd refer
  used_carried all (p ∷ pairs) (e ∷ es) (x ∷ xs) (y ∷ ys) (t ∷ ts) (u ∷ us) refer left right (inr (apart, (rest, is, more))) =
      let first : p.0 ≡ x = ap (λ (q : X × X). q.0) (head_is p (x, y) pairs rest is) in
      let second : p.1 ≡ y = ap (λ (q : X × X). q.1) (head_is p (x, y) pairs rest is) in
      let one_is : e.0 ≡ t = (same p.0 x e.0 t refer.0.0 left.0).0 first in
      let other_is : e.1 ≡ u = (same p.1 y e.1 u refer.0.1 right.0).0 second in
      inr (differ all x y t u left.0 right.0 apart, (es, pair_is e.0 t e.1 u es one_is other_is, used_carried all pairs es xs ys ts us refer.1 left.1 right.1 (subst (λ qs. AreUsed all qs xs ys) (sym (tail_is p (x, y) pairs rest is)) more)))

zip_flip : {X Y : Type 0} (R : X → Y → Type 0) (xs : List X) (ys : List Y) → AllZip R xs ys → AllZip (λ y x. R x y) ys xs
zip_flip R [] [] z = tt
zip_flip R [] (y ∷ ys) z = absurd z
zip_flip R (x ∷ xs) [] z = absurd z
zip_flip R (x ∷ xs) (y ∷ ys) z = (z.0, zip_flip R xs ys z.1)

used_terms : (s : Table) (v : TermsView) → AreOne s v → (all : Bool) (pairs : List (ℕ × ℕ)) (es : List (Term × Term)) (xs ys : List ℕ) (ts us : List Term) → ReferToPairs s v pairs es → ReferToAll s v xs ts → ReferToAll s v ys us → AreUsed all pairs xs ys ↔ AreUsed all es ts us
used_terms s v same all pairs es xs ys ts us refer left right = (
  used_carried (RefersTo s v) same all pairs es xs ys ts us refer left right,
  used_carried (λ (t : Term) (r : ℕ). RefersTo s v r t) (λ t u p q one other. ((same p q t u one other).1, (same p q t u one other).0)) all es pairs ts us xs ys
      (zip_flip (ReferToPair s v) pairs es refer) (zip_flip (RefersTo s v) xs ts left) (zip_flip (RefersTo s v) ys us right),
)

-- the first premise and the first equality
split_equality : (ps : List (List Term)) (es : List (Term × Term)) (only : Bool) (t u : Term) (rest : List (List Term)) → AreEqualitiesOf ps es only → ps ≡ (equality t u ∷ []) ∷ rest → (fs : List (Term × Term)) × (es ≡ (t, u) ∷ fs) × AreEqualitiesOf rest fs only
split_equality _ _ _ t u rest nothing is = absurd (cc)
split_equality _ _ _ t u rest (one a b ps es only g) is =
    let e : (equality a b ∷ []) ∷ ps ≡ (equality t u ∷ []) ∷ rest = is in
    let first : a ≡ t = cc in
    let second : b ≡ u = cc in
    let more : ps ≡ rest = cc in
    (es, pair_of a t b u es first second, subst (λ qs. AreEqualitiesOf qs es only) more g)
  where
    pair_of : (a b c d : Term) (es : List (Term × Term)) → a ≡ b → c ≡ d → ◌≡◌ {A = List (Term × Term)} ((a, c) ∷ es) ((b, d) ∷ es)
    pair_of a b c d es e f = rw (e, f) refl
split_equality _ _ _ t u rest (other c ps es only fails g) is = absurd (fails t u (let e : c ∷ ps ≡ (equality t u ∷ []) ∷ rest = is in cc))

join_equality : (ps : List (List Term)) (es : List (Term × Term)) (only : Bool) (t u : Term) (rest : List (Term × Term)) → only ≡ true → AreEqualitiesOf ps es only → es ≡ (t, u) ∷ rest → (qs : List (List Term)) × (ps ≡ (equality t u ∷ []) ∷ qs) × AreEqualitiesOf qs rest only
join_equality _ _ _ t u rest all nothing is = absurd (cc)
join_equality _ _ _ t u rest all (one a b ps es only g) is =
    let both : ◌≡◌ {A = Term × Term} (a, b) (t, u) = first_is (a, b) (t, u) es rest is in
    (ps, ap (λ (p : Term × Term). (equality p.0 p.1 ∷ []) ∷ ps) both, subst (λ fs. AreEqualitiesOf ps fs only) (rest_is (a, b) (t, u) es rest is) g)
  where
    first_is : (p q : Term × Term) (ps qs : List (Term × Term)) → p ∷ ps ≡ q ∷ qs → p ≡ q
    first_is p q ps qs e = cc

    rest_is : (p q : Term × Term) (ps qs : List (Term × Term)) → p ∷ ps ≡ q ∷ qs → ps ≡ qs
    rest_is p q ps qs e = cc
join_equality _ _ _ t u rest all (other c ps es only fails g) is = absurd (cc)

no_premise : (ps : List (List Term)) (es : List (Term × Term)) (only : Bool) → AreEqualitiesOf ps es only → ps ≡ [] → (only ≡ true) × (es ≡ [])
no_premise _ _ _ nothing e = (refl, refl)
no_premise _ _ _ (one a b ps es only g) e = absurd (cc)
no_premise _ _ _ (other c ps es only fails g) e = absurd (cc)

no_equality : (ps : List (List Term)) (es : List (Term × Term)) (only : Bool) → only ≡ true → AreEqualitiesOf ps es only → es ≡ [] → ps ≡ []
no_equality _ _ _ all nothing e = refl
no_equality _ _ _ all (one a b ps es only g) e = absurd (cc)
no_equality _ _ _ all (other c ps es only fails g) e = absurd (cc)

differences_used : (ps : List (List Term)) (es : List (Term × Term)) (only : Bool) (ts us : List Term) → AreEqualitiesOf ps es only → AreDifferences ps ts us → (only ≡ true) × AreUsed false es ts us
differences_used ps es only [] [] g h = no_premise ps es only g h
differences_used ps es only [] (u ∷ us) g h = absurd h
differences_used ps es only (t ∷ ts) [] g h = absurd h
differences_used ps es only (t ∷ ts) (u ∷ us) g (inl (same, more)) =
    let rest = differences_used ps es only ts us g more in (rest.0, inl ((refl, same), rest.1))
differences_used ps es only (t ∷ ts) (u ∷ us) g (inr (apart, (rest, is, more))) =
    let first = split_equality ps es only t u rest g is in
    let after = differences_used rest first.0 only ts us first.2 more in
    (after.0, inr (inr apart, (first.0, first.1, after.1)))

used_differences : (ps : List (List Term)) (es : List (Term × Term)) (only : Bool) (ts us : List Term) → only ≡ true → AreEqualitiesOf ps es only → AreUsed false es ts us → AreDifferences ps ts us
used_differences ps es only [] [] all g h = no_equality ps es only all g h
used_differences ps es only [] (u ∷ us) all g h = absurd h
used_differences ps es only (t ∷ ts) [] all g h = absurd h
used_differences ps es only (t ∷ ts) (u ∷ us) all g (inl (here, more)) = inl (here.1, used_differences ps es only ts us all g more)
used_differences ps es only (t ∷ ts) (u ∷ us) all g (inr (inl each, (rest, is, more))) = absurd (cc)
used_differences ps es only (t ∷ ts) (u ∷ us) all g (inr (inr apart, (rest, is, more))) =
    let first = join_equality ps es only t u rest all g is in
    inr (apart, (first.0, first.1, used_differences first.0 rest only ts us all first.2 more))

places_used : (ps : List (List Term)) (es : List (Term × Term)) (only : Bool) (ts us : List Term) → AreEqualitiesOf ps es only → ArePlaces ps ts us → (only ≡ true) × AreUsed true es ts us
places_used ps es only [] [] g h = no_premise ps es only g h
places_used ps es only [] (u ∷ us) g h = absurd h
places_used ps es only (t ∷ ts) [] g h = absurd h
places_used ps es only (t ∷ ts) (u ∷ us) g (rest, is, more) =
    let first = split_equality ps es only t u rest g is in
    let after = places_used rest first.0 only ts us first.2 more in
    (after.0, inr (inl refl, (first.0, first.1, after.1)))

used_places : (ps : List (List Term)) (es : List (Term × Term)) (only : Bool) (ts us : List Term) → only ≡ true → AreEqualitiesOf ps es only → AreUsed true es ts us → ArePlaces ps ts us
used_places ps es only [] [] all g h = no_equality ps es only all g h
used_places ps es only [] (u ∷ us) all g h = absurd h
used_places ps es only (t ∷ ts) [] all g h = absurd h
used_places ps es only (t ∷ ts) (u ∷ us) all g (inl (here, more)) = absurd (let e = here.0 in cc)
used_places ps es only (t ∷ ts) (u ∷ us) all g (inr (apart, (rest, is, more))) =
    let first = join_equality ps es only t u rest all g is in
    (first.0, first.1, used_places first.0 rest only ts us all first.2 more)

-- strict mode, over references
pub differing_by : (s : Table) (v : TermsView) → AreOne s v → (pairs : List (ℕ × ℕ)) (only : Bool) (ps : List (List Term)) (xs ys : List ℕ) (ts us : List Term) → IsGiven s v pairs only ps → ReferToAll s v xs ts → ReferToAll s v ys us → ((only ≡ true) × AreUsed false pairs xs ys) ↔ AreDifferences ps ts us
differing_by s v same pairs only ps xs ys ts us given left right =
    let used = used_terms s v same false pairs given.equalities xs ys ts us given.refer left right in (
      λ h. used_differences ps given.equalities only ts us h.0 given.gathered (used.0 h.1),
      λ h. let found = differences_used ps given.equalities only ts us given.gathered h in (found.0, used.1 found.1),
    )

pub each_by : (s : Table) (v : TermsView) → AreOne s v → (pairs : List (ℕ × ℕ)) (only : Bool) (ps : List (List Term)) (xs ys : List ℕ) (ts us : List Term) → IsGiven s v pairs only ps → ReferToAll s v xs ts → ReferToAll s v ys us → ((only ≡ true) × AreUsed true pairs xs ys) ↔ ArePlaces ps ts us
each_by s v same pairs only ps xs ys ts us given left right =
    let used = used_terms s v same true pairs given.equalities xs ys ts us given.refer left right in (
      λ h. used_places ps given.equalities only ts us h.0 given.gathered (used.0 h.1),
      λ h. let found = places_used ps given.equalities only ts us given.gathered h in (found.0, used.1 found.1),
    )

same_head : (g h : Head) (ts us : List Term) → applied g ts ≡ applied h us → g ≡ h
same_head (operator o) (operator p) ts us e = let f : o ≡ p = cc in ap operator f
same_head (operator o) (function g) ts us e = absurd (cc)
same_head (function f) (operator p) ts us e = absurd (cc)
same_head (function f) (function g) ts us e = let h : f ≡ g = cc in ap function h

pub congruent_by : {P : Type 0} (s : Table) (v : TermsView) (uses : Uses) (k : ℕ) (ls rs : List ℕ) (t u : Term) (ps : List (List Term)) (how : Head → List (List Term) → List Term → List Term → Type 0) (a : AreApplied s v uses k ls rs t u) → P ↔ how a.head ps a.ts a.us → P ↔ AreCongruent how ps t u
congruent_by s v uses k ls rs t u ps how a by = (
  λ h. record { head = a.head; ts = a.ts; us = a.us; some = a.some; left_is = a.left_is; right_is = a.right_is; arguments = by.0 h },
  λ h.
      let head : h.head ≡ a.head = same_head h.head a.head h.ts a.ts (sym h.left_is ∙ a.left_is) in
      let ts : h.ts ≡ a.ts = sym (arguments_are h.head h.ts t h.left_is) ∙ arguments_are a.head a.ts t a.left_is in
      let us : h.us ≡ a.us = sym (arguments_are h.head h.us u h.right_is) ∙ arguments_are a.head a.us u a.right_is in
      by.1 (subst (λ x. how x ps a.ts a.us) head (subst (λ x. how h.head ps x a.us) ts (subst (λ x. how h.head ps h.ts x) us h.arguments))),
)

pub not_congruent : (t u : Term) (ps : List (List Term)) (uses : Uses) → ((head : Head) (ts us : List Term) → ts ≢ [] → t ≡ applied head ts → u ≡ applied head us → length ts ≢ length us) → ¬ AreCongruent (Together uses) ps t u
not_congruent t u ps uses fails h =
    fails h.head h.ts h.us h.some h.left_is h.right_is (together_length uses h.head ps h.ts h.us h.arguments)
