-- Terms that are assertions, in a mode.
use Rattle.std.proofs.Common.{◌≡◌, ◌↔◌, inl, inr, ◌<◌, ◌≤◌, ◌+◌, ℕ, Bool, true, false, List, length, get_or, All, IsTrue, sym, ◌∙◌, subst, arith}
use Rattle.std.specs.List.{AllZip}
use Rattle.std.proofs.lemmas.Bool.{cases_lt}
use Rattle.sym_table.specs.Table.{Table}
use Rattle.term_model.specs.Terms.{Term, numeral}
use Rattle.term_model.proofs.Zips.{zip_at, zip_length}
use Rattle.pair_pool.specs.Views.{IsKnown}
use Rattle.term_pool.specs.Views.{TermsView, RefersTo, IsTerm, ReferToAll}
use Rattle.rule_model.specs.declared.rules.Mode.{Mode}
use Rattle.rule_model.specs.Statuses.{IsAsserted}
use Rattle.step_check.specs.Steps.{AreAssertedTo}

refer_length : (s : Table) (v : TermsView) (rs : List ℕ) (ts : List Term) → ReferToAll s v rs ts → length rs ≡ length ts
refer_length s v = zip_length (RefersTo s v)

refer_at : (s : Table) (v : TermsView) (rs : List ℕ) (ts : List Term) → ReferToAll s v rs ts → (i d : ℕ) (e : Term) → i < length rs → RefersTo s v (get_or rs i d) (get_or ts i e)
refer_at s v rs ts h i d e below = zip_at (RefersTo s v) rs ts i d e h below

module _ (s : Table) (v : TermsView) where
  -- what the pass knows
  pub known : (w : TermsView) (r : ℕ) → w ≡ v → IsTerm s v r → IsKnown w.pass r
  known w r same t = rw same (record { tree = t.refers.tree; stands = t.refers.known })

  pub item_is_term : (rs : List ℕ) (k q : ℕ) → All (IsTerm s v) rs → k < length rs → q ≡ get_or rs k q → IsTerm s v q
  item_is_term rs k q all below is = subst (IsTerm s v) (sym is) (all k q below)

module _ (mode : Mode) (s : Table) (v : TermsView) where
  pub asserted_next : (rs clause : List ℕ) (q n : ℕ) (told : Bool) → AreAssertedTo mode s v rs clause n → n < length clause → q ≡ get_or clause n q → ((qs : List Term) (t : Term) → ReferToAll s v rs qs → RefersTo s v q t → IsTrue told ↔ IsAsserted mode qs t) → told ≡ true → AreAssertedTo mode s v rs clause (n + 1)
  asserted_next rs clause q n told before within is tells e qs ts all zip k d below =
      elim (cases_lt k n) [
        | inl under ↦ before qs ts all zip k d under
        | inr after ↦ (let same : k ≡ n = omega (arith, below, after) in
            let here = subst (λ x. RefersTo s v x (get_or ts n d)) (sym is) (refer_at s v clause ts zip n q d within) in
            subst (λ j. IsAsserted mode qs (get_or ts j d)) (sym same) ((tells qs (get_or ts n d) all here).0 e))
      ]

  pub asserted_all : (rs clause : List ℕ) (n : ℕ) (qs ts : List Term) → AreAssertedTo mode s v rs clause n → length clause ≤ n → ReferToAll s v rs qs → AllZip (RefersTo s v) clause ts → All (IsAsserted mode qs) ts
  asserted_all rs clause n qs ts before long all zip k d below =
      let same = refer_length s v clause ts zip in
      before qs ts all zip k d (omega (arith, below, same, long))

  pub not_all_asserted : (rs clause : List ℕ) (q n : ℕ) (qs ts : List Term) (told : Bool) → n < length clause → q ≡ get_or clause n q → ((qs : List Term) (t : Term) → ReferToAll s v rs qs → RefersTo s v q t → IsTrue told ↔ IsAsserted mode qs t) → told ≡ false → ReferToAll s v rs qs → AllZip (RefersTo s v) clause ts → ¬ All (IsAsserted mode qs) ts
  not_all_asserted rs clause q n qs ts told within is tells e all zip each =
      let refers = zip in
      let same = refer_length s v clause ts refers in
      let t = get_or ts n (numeral 0) in
      let here = subst (λ x. RefersTo s v x t) (sym is) (refer_at s v clause ts refers n q (numeral 0) within) in
      let met = (tells qs t all here).1 (each n (numeral 0) (omega (arith, within, same))) in
      let clash = sym e ∙ met in cc
