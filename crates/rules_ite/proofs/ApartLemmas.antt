-- Inequalities of one term with others, by their references.
use Rattle.std.proofs.Common.{◌≡◌, ◌≢◌, ◌↔◌, ◌<◌, ◌≤◌, ◌+◌, ℕ, List, length, drop, get_or, Bool, true, false, IsTrue, refl, sym, ◌∙◌, subst}
use Rattle.std.specs.List.{AllZip}
use Rattle.sym_table.specs.Table.{Table}
use Rattle.term_model.specs.Terms.{Term, numeral}
use Rattle.term_pool.specs.Views.{TermsView, RefersTo, ReferToAll}
use Rattle.rule_model.specs.Ite.{IsInequality}
use Rattle.schema_match.proofs.ReferLemmas.{refer_length, refer_at}
use Rattle.term_model.proofs.Zips.{zip_length}
use Rattle.rules_ite.proofs.DistinctLemmas.{zip_next, zip_fails, zip_end}

abbrev some_term : Term
some_term = numeral 0

module _ (s : Table) (v : TermsView) (one : ℕ) (others literals : List ℕ) (t : Term) (us ls : List Term) (first : RefersTo s v one t) (refer_others : ReferToAll s v others us) (refer_literals : ReferToAll s v literals ls) where
  pub other_number : length others ≢ length literals → IsTrue false ↔ AllZip (IsInequality t) us ls
  other_number other = (
    λ e. absurd cc,
    λ h. absurd (other (refer_length s v others us refer_others ∙ (zip_length (IsInequality t) us ls h ∙ sym (refer_length s v literals ls refer_literals)))),
  )

  module _ (i q r : ℕ) (told : Bool) (below : i < length literals) (number : length others ≡ length literals) (at_other : q ≡ get_or others i q) (at_literal : r ≡ get_or literals i r) (test : (t u l : Term) → RefersTo s v one t → RefersTo s v q u → RefersTo s v r l → IsTrue told ↔ IsInequality t u l) where
    below_others : i < length us
    below_others = rw (← refer_length s v others us refer_others) (rw number below)

    below_literals : i < length ls
    below_literals = rw (← refer_length s v literals ls refer_literals) below

    here : IsTrue told ↔ IsInequality t (get_or us i some_term) (get_or ls i some_term)
    here =
        test t (get_or us i some_term) (get_or ls i some_term) first
        (subst (λ p. RefersTo s v p (get_or us i some_term)) (sym at_other) (refer_at s v others us refer_others i q some_term (rw number below)))
        (subst (λ p. RefersTo s v p (get_or ls i some_term)) (sym at_literal) (refer_at s v literals ls refer_literals i r some_term below))

    pub not_apart : told ≡ false → AllZip (IsInequality t) us ls ↔ AllZip (IsInequality t) (drop i us) (drop i ls) → IsTrue false ↔ AllZip (IsInequality t) us ls
    not_apart refused left = (
      λ e. absurd cc,
      λ h. absurd (zip_fails (IsInequality t) i us ls some_term some_term below_others below_literals (λ holds. absurd (let e = here.1 holds in cc)) (left.0 h)),
    )

    pub apart_next : told ≡ true → AllZip (IsInequality t) us ls ↔ AllZip (IsInequality t) (drop i us) (drop i ls) → AllZip (IsInequality t) us ls ↔ AllZip (IsInequality t) (drop (i + 1) us) (drop (i + 1) ls)
    apart_next is left =
        let next = zip_next (IsInequality t) i us ls some_term some_term below_others below_literals (here.0 is) in
        (λ h. next.0 (left.0 h), λ h. left.1 (next.1 h))

  pub apart_all : (i : ℕ) → length literals ≤ i → length others ≡ length literals → AllZip (IsInequality t) us ls ↔ AllZip (IsInequality t) (drop i us) (drop i ls) → IsTrue true ↔ AllZip (IsInequality t) us ls
  apart_all i end number left = (
    λ e. left.1 (zip_end (IsInequality t) i us ls (rw (← refer_length s v others us refer_others) (rw number end)) (rw (← refer_length s v literals ls refer_literals) end)),
    λ h. refl,
  )
