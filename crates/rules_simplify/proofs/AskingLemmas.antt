-- What is asked of letters is what the guards of rows ask, and constants are read by their form.
use Rattle.std.proofs.Common.{◌≡◌, ◌↔◌, inl, inr, ℕ, ℤ, pos, neg_ℤ, ◌≤ℤ◌, ◌-ℤ◌, FitsSigned, to_z, of_z, List, [], ◌∷◌, Bool, true, false, IsTrue, Option, Some, None, refl, sym, ap, ◌∙◌, subst, arith}
use Rattle.std.proofs.lemmas.Int.{ints}
use Rattle.std.proofs.lemmas.Bool.{or_cases}
use Rattle.std.specs.List.{AllByRecursion, slice_get}
use Rattle.sym_table.specs.Table.{Table}
use Rattle.term_model.specs.declared.symbols.Op.{Op}
use Rattle.term_model.specs.declared.symbols.Sort.{Sort}
use Rattle.term_model.specs.Flips.{equality}
use Rattle.term_model.specs.Sorts.{IsOf, AreOf, IsWellSorted, application_sort}
use Rattle.term_model.specs.Terms.{sort_eq, Term, numeral, variable, operation, call, let_in, no_terms, term}
use Rattle.term_model.proofs.Basics.{and-left}
use Rattle.term_model.proofs.Sorting.{when-true, when-same, one_sort}
use Rattle.term_model.proofs.Tests.{sort_eq_decides}
use Rattle.term_pool.specs.Reading.{IsShapeOf, arguments_of}
use Rattle.term_pool.specs.Views.{TermsView, RefersTo}
use Rattle.rule_model.specs.Constants.{constant_of}
use Rattle.rule_model.specs.declared.letter.Letter.{Letter}
use Rattle.rule_model.specs.Rewriting.{Guard, always, truths, one_number, two_numbers, below, at_most, AreConstantsBy, PassesGuard}
use Rattle.rule_model.specs.Schemas.{Pattern, nullary, unary, fill}
use Rattle.schema_match.specs.Letters.{slot, Agrees}
use Rattle.schema_match.specs.declared.letters.Letters.{Letters}
use Rattle.rules_simplify.specs.declared.asked.Asked.{Asked}
use Rattle.rules_simplify.specs.declared.asked.Asked.TheVariants.{Nothing, Truth, Numbers}
use Rattle.rules_simplify.specs.declared.asked.NumberTest.{NumberTest}
use Rattle.rules_simplify.specs.Asking.{NumbersStand, IsAsAsked, IsSortedLetter}
use Rattle.rules_simplify.specs.Tables.{has_letter, is_of_bool, IsAskedBy}
use Rattle.rules_simplify.proofs.RowLemmas.{letter_sorted, letter_given, letter_refers}

-- the sides of an equality are of one sort
pub record AreAlike (t u : Term) : Type 0 where
  pub sort : Sort
  pub first : IsOf t sort
  pub second : IsOf u sort

sides_alike : (t u : Term) → IsWellSorted (equality t u) → AreAlike t u
sides_alike t u w = go w.sort w.of.sorts w.of.arguments w.of.is
  where
    go : (s : Sort) (ss : List Sort) → AreOf (term t (term u no_terms)) ss → application_sort Op.Equal ss ≡ Some s → AreAlike t u
    go s [] k e = absurd k
    go s (x ∷ []) k e = absurd k.1
    go s (x ∷ y ∷ z ∷ rest) k e = absurd k.1.1
    go s (x ∷ y ∷ []) k e =
        let same = (sort_eq_decides x y).0 (and-left (sort_eq x y) true (when-true _ _ s e)) in
        record { sort = x; first = k.0; second = subst (IsOf u) (sym same) k.1.0 }

bool_by_form : (f : Letter → Term) (p : Pattern) (s : Sort) → is_of_bool p ≡ true → IsOf (fill f p) s → s ≡ Sort.Bool
bool_by_form f (nullary Op.True) s e h = when-same _ _ s h.is
bool_by_form f (nullary Op.False) s e h = when-same _ _ s h.is
bool_by_form f (unary Op.Not p) s e h = when-same _ _ s h.is
bool_by_form f _ s e h = absurd cc

both_bool : (t u : Term) (alike : AreAlike t u) → alike.sort ≡ Sort.Bool → IsOf t Sort.Bool × IsOf u Sort.Bool
both_bool t u alike e = (subst (IsOf t) e alike.first, subst (IsOf u) e alike.second)

-- what is asked of the letters is what the guard asks
pub asked_is : (left : Pattern) (guard : Guard) (asked : Asked) (f : Letter → Term) → IsAskedBy left guard asked → IsWellSorted (fill f left) → IsAsAsked f asked ↔ PassesGuard f guard
asked_is left always Nothing f h w = (λ e. tt, λ e. tt)
asked_is left (truths p q) Nothing f h w =
    let alike = sides_alike (fill f p) (fill f q) (subst (λ x. IsWellSorted (fill f x)) h.0 w) in (
      λ e. both_bool (fill f p) (fill f q) alike
          (elim (or_cases (is_of_bool p) (is_of_bool q) h.1) [
            | inl k ↦ bool_by_form f p alike.sort k alike.first
            | inr k ↦ bool_by_form f q alike.sort k alike.second
          ]),
      λ e. tt,
    )
asked_is left (truths p q) (Truth l) f h w =
    let alike = sides_alike (fill f p) (fill f q) (subst (λ x. IsWellSorted (fill f x)) h.0 w) in (
      λ e. both_bool (fill f p) (fill f q) alike
          (one_sort (fill f p) alike.sort Sort.Bool alike.first (subst (λ x. IsOf (fill f x) Sort.Bool) (sym h.1) e)),
      λ e. subst (λ x. IsOf (fill f x) Sort.Bool) h.1 e.0,
    )
asked_is left (one_number p q) (Numbers NumberTest.Equal l m) f h w = rw (h.0, h.1) (λ e. e, λ e. e)
asked_is left (two_numbers p q) (Numbers NumberTest.Different l m) f h w = rw (h.0, h.1) (λ e. e, λ e. e)
asked_is left (below p q) (Numbers NumberTest.Below l m) f h w = rw (h.0, h.1) (λ e. e, λ e. e)
asked_is left (at_most p q) (Numbers NumberTest.AtMost l m) f h w = rw (h.0, h.1) (λ e. e, λ e. e)
asked_is left _ _ f h w = absurd h

-- letters that the left side has stand for well-sorted terms where the left side is one
module _ (s : Table) (v : TermsView) (letters : Letters) (left : Pattern) (t : Term) (terms : Letter → Term) (agrees : Agrees s v letters terms) (gives : (f : Letter → Term) → Agrees s v letters f → t ≡ fill f left) (w : IsWellSorted t) where
  sorted_letter : (l : Letter) → has_letter l left ≡ true → IsSortedLetter s v letters l
  sorted_letter l has = go (slot letters l) refl
    where
      go : (o : Option ℕ) → slot letters l ≡ o → IsSortedLetter s v letters l
      go None e = absurd (letter_given s v letters left t terms agrees gives l has e)
      go (Some r) e = record {
        reference = r;
        settled = e;
        term = record {
          means = terms l;
          refers = letter_refers s v letters terms agrees l r e;
          sorted = letter_sorted terms l left (subst IsWellSorted (gives terms agrees) w) has;
        };
      }

  pub sorted_letters : (ls : List Letter) → AllByRecursion (λ l. IsTrue (has_letter l left)) ls → AllByRecursion (IsSortedLetter s v letters) ls
  sorted_letters [] h = tt
  sorted_letters (l ∷ ls) h = (sorted_letter l h.0, sorted_letters ls h.1)

-- two constants whose numbers are told to stand so to each other
pub numbers_are : (test : NumberTest) (t u : Term) (m n : ℤ) (b : Bool) → Some m ≡ constant_of t → Some n ≡ constant_of u → IsTrue b ↔ NumbersStand test m n → IsTrue b ↔ AreConstantsBy (NumbersStand test) t u
numbers_are test t u m n b first second told = (
  λ e. record { number = m; other = n; first = sym first; second = sym second; are = told.0 e },
  λ h.
      (let one : h.number ≡ m = (let e = first ∙ h.first in cc) in
      let two : h.other ≡ n = (let e = second ∙ h.second in cc) in
      told.1 (subst (λ x. NumbersStand test x n) one (subst (λ y. NumbersStand test h.number y) two h.are))),
)

pub not_first : (test : NumberTest) (t u : Term) → None ≡ constant_of t → IsTrue false ↔ AreConstantsBy (NumbersStand test) t u
not_first test t u none = (λ e. absurd cc, λ h. absurd (let e = none ∙ h.first in cc))

pub not_second : (test : NumberTest) (t u : Term) → None ≡ constant_of u → IsTrue false ↔ AreConstantsBy (NumbersStand test) t u
not_second test t u none = (λ e. absurd cc, λ h. absurd (let e = none ∙ h.second in cc))
