-- How the clause of a subproof's step ends.
use Rattle.std.proofs.Common.{◌≡◌, ◌≤◌, ◌+◌, ◌↔◌, ◌⊎◌, inl, inr, ℕ, zero, suc, List, [], ◌∷◌, length, drop, slice_index_or, IsTrue, Bool, refl, sym, ◌∙◌, ap, subst, arith}
use Rattle.std.specs.List.{AllZip}
use Rattle.std.proofs.lemmas.List.{length-drop}
use Rattle.sym_table.specs.Table.{Table}
use Rattle.term_model.specs.declared.symbols.Op.{Op}
use Rattle.term_model.specs.Terms.{Term, operation, no_terms, term, numeral, variable, call, let_in}
use Rattle.term_pool.specs.Views.{TermsView, RefersTo}
use Rattle.rule_model.specs.Subproof.{IsEnding}
use Rattle.term_parts.specs.Parts.{IsOver}
use Rattle.term_model.proofs.Zips.{zip_length}
use Rattle.rules_subproof.proofs.Zips.{zip_at}

false_is : (t : Term) → IsOver Op.False 0 t ↔ (t ≡ operation Op.False no_terms)
false_is (operation o no_terms) = (λ h. ap (λ x. operation x no_terms) h.0, λ e. (heads e, refl))
  where
    heads : {a b : Op} → operation a no_terms ≡ operation b no_terms → a ≡ b
    heads e = cc
false_is (operation o (term t ts)) = (λ h. absurd (let e = h.1 in omega (arith, e)), λ e. absurd cc)
false_is (numeral z) = (λ h. absurd h, λ e. absurd cc)
false_is (variable x) = (λ h. absurd h, λ e. absurd cc)
false_is (call f us) = (λ h. absurd h, λ e. absurd cc)
false_is (let_in bs u) = (λ h. absurd h, λ e. absurd cc)

module _ (s : Table) (v : TermsView) where
  -- equal lists of references stand for equal lists of terms, and the other way round
  pub lists_equal : ((p q : ℕ) (t u : Term) → RefersTo s v p t → RefersTo s v q u → (p ≡ q) ↔ (t ≡ u)) → (rs ps : List ℕ) (ts us : List Term) → AllZip (RefersTo s v) rs ts → AllZip (RefersTo s v) ps us → (rs ≡ ps) ↔ (ts ≡ us)
  lists_equal equal [] [] [] [] h k = (λ e. refl, λ e. refl)
  lists_equal equal [] [] (t ∷ ts) us h k = absurd h
  lists_equal equal [] [] [] (u ∷ us) h k = absurd k
  lists_equal equal [] (p ∷ ps) (t ∷ ts) us h k = absurd h
  lists_equal equal [] (p ∷ ps) [] [] h k = absurd k
  lists_equal equal [] (p ∷ ps) [] (u ∷ us) h k = (λ e. absurd cc, λ e. absurd cc)
  lists_equal equal (r ∷ rs) ps [] us h k = absurd h
  lists_equal equal (r ∷ rs) [] (t ∷ ts) [] h k = (λ e. absurd cc, λ e. absurd cc)
  lists_equal equal (r ∷ rs) [] (t ∷ ts) (u ∷ us) h k = absurd k
  lists_equal equal (r ∷ rs) (p ∷ ps) (t ∷ ts) [] h k = absurd k
  lists_equal equal (r ∷ rs) (p ∷ ps) (t ∷ ts) (u ∷ us) h k =
      let first = equal r p t u h.0 k.0 in
      let later = lists_equal equal rs ps ts us h.1 k.1 in (
        λ e. ap (λ x. x ∷ ts) (first.0 (heads e)) ∙ ap (λ xs. u ∷ xs) (later.0 (tails e)),
        λ e. ap (λ x. x ∷ rs) (first.1 (heads e)) ∙ ap (λ xs. p ∷ xs) (later.1 (tails e)),
      )
    where
      heads : {X : Type 0} {x y : X} {xs ys : List X} → x ∷ xs ≡ y ∷ ys → x ≡ y
      heads e = cc

      tails : {X : Type 0} {x y : X} {xs ys : List X} → x ∷ xs ≡ y ∷ ys → xs ≡ ys
      tails e = cc

  pub zip_drop : (n : ℕ) (rs : List ℕ) (ts : List Term) → AllZip (RefersTo s v) rs ts → AllZip (RefersTo s v) (drop n rs) (drop n ts)
  zip_drop zero rs ts h = h
  zip_drop (suc n) [] [] h = tt
  zip_drop (suc n) [] (t ∷ ts) h = absurd h
  zip_drop (suc n) (r ∷ rs) [] h = absurd h
  zip_drop (suc n) (r ∷ rs) (t ∷ ts) h = zip_drop n rs ts h.1

-- how a clause ends, where nothing or something stands in the last clause inside
pub no_literals : (us end : List Term) → length us ≡ 0 → IsEnding us end ↔ ((end ≡ []) ⊎ (end ≡ operation Op.False no_terms ∷ []))
no_literals [] end e = (λ h. h, λ h. h)
no_literals (u ∷ us) end e = absurd (omega arith)

pub whole_literals : (us end : List Term) → ¬ (length us ≡ 0) → IsEnding us end ↔ (end ≡ us)
whole_literals [] end n = absurd (n refl)
whole_literals (u ∷ us) end n = (λ h. h, λ h. h)

drop_one : (n : ℕ) (xs : List Term) (d : Term) → length xs ≡ n + 1 → drop n xs ≡ slice_index_or xs n d ∷ []
drop_one zero [] d e = absurd (omega arith)
drop_one zero (x ∷ []) d e = refl
drop_one zero (x ∷ y ∷ xs) d e = absurd (omega arith)
drop_one (suc n) [] d e = absurd (omega arith)
drop_one (suc n) (x ∷ xs) d e = drop_one n xs d (omega arith)

drop_none : (n : ℕ) (xs : List Term) → length xs ≡ n → drop n xs ≡ []
drop_none zero [] e = refl
drop_none zero (x ∷ xs) e = absurd (omega arith)
drop_none (suc n) [] e = absurd (omega arith)
drop_none (suc n) (x ∷ xs) e = drop_none n xs (omega arith)

module _ (s : Table) (v : TermsView) (rs ps : List ℕ) (ts us : List Term) (zip : AllZip (RefersTo s v) rs ts) (inner : AllZip (RefersTo s v) ps us) (place : ℕ) where
  none_inside : length ps ≡ 0 → length us ≡ 0
  none_inside e = let n = zip_length (RefersTo s v) ps us inner in omega arith

  pub ends_nowhere : length ps ≡ 0 → length rs ≡ place → IsEnding us (drop place ts)
  ends_nowhere e f =
      (no_literals us (drop place ts) (none_inside e)).1 (inl (drop_none place ts (let n = zip_length (RefersTo s v) rs ts zip in omega arith)))

  pub too_long : length ps ≡ 0 → place ≤ length rs → ¬ (length rs ≡ place) → ¬ (length rs ≡ place + 1) → ¬ IsEnding us (drop place ts)
  too_long e fits not_none not_one ending =
      let long = zip_length (RefersTo s v) rs ts zip in
      let rest = length-drop place ts in
      elim ((no_literals us (drop place ts) (none_inside e)).0 ending) [
        | inl f ↦ not_none (let n : length (drop place ts) ≡ 0 = ap length f in omega arith)
        | inr f ↦ not_one (let n : length (drop place ts) ≡ 1 = ap length f in omega arith)
      ]

  pub ends_in_false : length ps ≡ 0 → length rs ≡ place + 1 → (l : ℕ) → l ≡ slice_index_or rs place l → (met : Bool) → ((t : Term) → RefersTo s v l t → IsTrue met ↔ IsOver Op.False 0 t) → IsTrue met ↔ IsEnding us (drop place ts)
  ends_in_false e one l there met is =
      let d = operation Op.False no_terms in
      let t = slice_index_or ts place d in
      let long = zip_length (RefersTo s v) rs ts zip in
      let refers : RefersTo s v l t = subst (λ x. RefersTo s v x t) (sym there) (zip_at s v rs ts place l d zip (omega arith)) in
      let end : drop place ts ≡ t ∷ [] = drop_one place ts d (omega arith) in
      let ending = no_literals us (drop place ts) (none_inside e) in (
        λ m. ending.1 (inr (end ∙ ap (λ x. x ∷ []) ((false_is t).0 ((is t refers).0 m)))),
        λ h. (is t refers).1 ((false_is t).1 (elim (ending.0 h) [ inl f ↦ absurd (none (sym end ∙ f)) | inr f ↦ heads (sym end ∙ f) ])),
      )
    where
      none : {x : Term} → x ∷ [] ≡ [] → ⊥
      none f = cc

      heads : {x y : Term} → x ∷ [] ≡ y ∷ [] → x ≡ y
      heads f = cc

  pub ends_whole : ((p q : ℕ) (t u : Term) → RefersTo s v p t → RefersTo s v q u → (p ≡ q) ↔ (t ≡ u)) → ¬ (length ps ≡ 0) → (met : Bool) → IsTrue met ↔ (drop place rs ≡ ps) → IsTrue met ↔ IsEnding us (drop place ts)
  ends_whole equal some met is =
      let both = lists_equal s v equal (drop place rs) ps (drop place ts) us (zip_drop s v place rs ts zip) inner in
      let ending = whole_literals us (drop place ts) (λ e. some (let n = zip_length (RefersTo s v) ps us inner in omega arith)) in
      (λ m. ending.1 (both.0 (is.0 m)), λ h. is.1 (both.1 (ending.0 h)))
