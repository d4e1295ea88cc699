-- Cited by crates above. Terms that may stand at a site: equalities and their sides, and negations.
use Rattle.std.proofs.Common.{◌≡◌, inl, inr, ◌&&◌, Bool, true, false, List, [], ◌∷◌, Some, refl, sym, ap, subst}
use Rattle.std.proofs.lemmas.Bool.{eqb-true, eq-eqb, true≢false}
use Rattle.term_model.specs.declared.symbols.Op.{Op}
use Rattle.term_model.specs.declared.symbols.Sort.{Sort}
use Rattle.term_model.specs.Flips.{equality}
use Rattle.term_model.specs.Sorts.{IsOf, AreOf, application_sort, when}
use Rattle.term_model.specs.Terms.{Term, term, no_terms, not_of, sort_eq}
use Rattle.equality_steps.specs.declared.site.Site.{Site}
use Rattle.equality_steps.specs.Sites.{AreSides, IsLiteralAt}

same_sort : (s r : Sort) → sort_eq s r ≡ true → s ≡ r
same_sort Sort.Bool Sort.Bool e = refl
same_sort Sort.Bool Sort.Int e = absurd (true≢false (sym e))
same_sort Sort.Bool (Sort.Declared n) e = absurd (true≢false (sym e))
same_sort Sort.Int Sort.Bool e = absurd (true≢false (sym e))
same_sort Sort.Int Sort.Int e = refl
same_sort Sort.Int (Sort.Declared n) e = absurd (true≢false (sym e))
same_sort (Sort.Declared m) Sort.Bool e = absurd (true≢false (sym e))
same_sort (Sort.Declared m) Sort.Int e = absurd (true≢false (sym e))
same_sort (Sort.Declared m) (Sort.Declared n) e = ap Sort.Declared (eqb-true m n e)

sort_same : (s : Sort) → sort_eq s s ≡ true
sort_same Sort.Bool = refl
sort_same Sort.Int = refl
sort_same (Sort.Declared n) = eq-eqb n n refl

both : (b : Bool) → when (b && true) Sort.Bool ≡ Some Sort.Bool → b ≡ true
both true e = refl
both false e = cc

-- the two sides of an equality have one sort
pub record HaveSort (t u : Term) : Type 0 where
  pub sort : Sort
  pub left : IsOf t sort
  pub right : IsOf u sort

sides_listed : (t u : Term) (ss : List Sort) → AreOf (term t (term u no_terms)) ss → application_sort Op.Equal ss ≡ Some Sort.Bool → HaveSort t u
sides_listed t u [] h e = absurd h
sides_listed t u (x ∷ []) h e = absurd h.1
sides_listed t u (x ∷ y ∷ z ∷ rest) h e = absurd h.1.1
sides_listed t u (x ∷ y ∷ []) h e = record {
  sort = x;
  left = h.0;
  right = subst (IsOf u) (sym (same_sort x y (both (sort_eq x y) e))) h.1.0;
}

pub equality_sorts : (t u : Term) → IsOf (equality t u) Sort.Bool → HaveSort t u
equality_sorts t u h = sides_listed t u h.sorts h.arguments h.is

pub equality_sorted : (t u : Term) (s : Sort) → IsOf t s → IsOf u s → IsOf (equality t u) Sort.Bool
equality_sorted t u s h k = record { sorts = s ∷ s ∷ []; arguments = (h, (k, tt)); is = rw (sort_same s) refl }

module _ (p : Site) where
  pub equality_fits : (t u : Term) → AreSides p t u → IsLiteralAt p (equality t u)
  equality_fits t u h = (
    equality_sorted t u h.sort h.left.0 h.right.0,
    λ x free. elim free [ inl a ↦ h.left.1 x a | inr b ↦ elim b [ inl d ↦ h.right.1 x d | inr none ↦ absurd none ] ],
  )

  pub sides_fit : (t u : Term) → IsLiteralAt p (equality t u) → AreSides p t u
  sides_fit t u h =
      let sorts = equality_sorts t u h.0 in
      record {
        sort = sorts.sort;
        left = (sorts.left, λ x free. h.1 x (inl free));
        right = (sorts.right, λ x free. h.1 x (inr (inl free)));
      }

  pub sides_turned : (t u : Term) → AreSides p t u → AreSides p u t
  sides_turned t u h = record { sort = h.sort; left = h.right; right = h.left }

  pub negation_fits : (t : Term) → IsLiteralAt p t → IsLiteralAt p (not_of t)
  negation_fits t h = (
    record { sorts = Sort.Bool ∷ []; arguments = (h.0, tt); is = refl },
    λ x free. elim free [ inl a ↦ h.1 x a | inr none ↦ absurd none ],
  )
