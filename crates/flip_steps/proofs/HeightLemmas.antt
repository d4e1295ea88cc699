-- Private. How high it is what is made to join terms.
use Rattle.std.proofs.Common.{◌≡◌, ◌≤◌, ◌+◌, inl, inr, ℕ, max, refl, ap, subst, arith}
use Rattle.pair_pool.specs.Views.{IsOneToOne}
use Rattle.sym_table.specs.Table.{Table, IsTable}
use Rattle.term_model.specs.Flips.{equality}
use Rattle.term_model.specs.Heights.{height, highest}
use Rattle.term_model.specs.Terms.{Term, numeral, variable, operation, call, let_in, Terms, terms_of}
use Rattle.term_model.proofs.Lists.{terms_of-list_of}
use Rattle.term_pool.specs.Reading.{arguments_of}
use Rattle.term_pool.specs.Views.{TermsView, RefersTo}
use Rattle.term_pool.proofs.TermLemmas.{equal_where}
use Rattle.flip_steps.specs.Forms.{AreFormsOf}
use Rattle.flip_steps.specs.Stages.{StandsBefore, IsStage, itself, refilled, formed, IsMadeFor, stage, equated, IsMadeFrom, IsEqualityOf, IsMadeToJoin}
use Rattle.flip_steps.specs.Subterms.{with_arguments}
use Rattle.flip_steps.proofs.FormLemmas.{form_height, forms_highest}
use Rattle.flip_steps.proofs.SubtermLemmas.{within_low}

equality_height : (a b : Term) → height (equality a b) ≡ 1 + max (height a) (height b)
unfolding height highest
equality_height a b = omega arith

refilled_height : (before : Term → Term → Type 0) (t : Term) (us : Terms) → AreFormsOf before (terms_of (arguments_of t)) us
    → height (with_arguments t us) ≡ height t
unfolding height
refilled_height before (numeral n) us are = refl
refilled_height before (variable x) us are = refl
refilled_height before (operation op ts) us are =
    let e = forms_highest before ts us (subst (λ xs. AreFormsOf before xs us) (terms_of-list_of ts) are) in omega (arith, e)
refilled_height before (call f ts) us are =
    let e = forms_highest before ts us (subst (λ xs. AreFormsOf before xs us) (terms_of-list_of ts) are) in omega (arith, e)
refilled_height before (let_in bs u) us are = refl

module _ (s : Table) (v : TermsView) where
  stage_height : (t x : Term) → IsStage s v t x → height x ≡ height t
  stage_height t _ itself = refl
  stage_height t _ (refilled us are) = refilled_height (StandsBefore s v) t us are
  stage_height t _ (formed f h) = form_height (StandsBefore s v) t f h

  made_low : (t x : Term) → IsMadeFor s v t x → height x ≤ height t + 1
  made_low t _ (stage x h) = let e = stage_height t x h in omega (arith, e)
  made_low t _ (equated x y h k) =
      let e = stage_height t x h in
      let d = stage_height t y k in
      let f = equality_height x y in
      omega (arith, e, d, f)

  module _ (table : IsTable s) (one : IsOneToOne v.pass) where
    pub made_from_low : (root : ℕ) (x t : Term) → IsMadeFrom s v root x → RefersTo s v root t → height x ≤ height t + 1
    made_from_low root x t h refers =
        let whole_is = ap height ((equal_where s v table one root root h.stands.whole t h.stands.whole_refers refers).0 refl) in
        let part_is = ap height ((equal_where s v table one h.from h.from h.made.term h.stands.term h.made.refers h.stands.refers).0 refl) in
        let low = within_low h.stands.whole h.stands.term h.stands.within in
        let made = made_low h.made.term x h.made.made in
        omega (arith, whole_is, part_is, low, made)

    equality_low : (a b : ℕ) (x t u : Term) → IsEqualityOf s v a b x → RefersTo s v a t → RefersTo s v b u → height x ≤ max (height t) (height u) + 1
    equality_low a b x t u h left right =
        let one_is = ap height ((equal_where s v table one a a h.left t h.left_refers left).0 refl) in
        let other_is = ap height ((equal_where s v table one b b h.right u h.right_refers right).0 refl) in
        let whole_is = ap height h.is in
        let high = equality_height h.left h.right in
        omega (arith, one_is, other_is, whole_is, high)

    pub made_to_join_low : (a b : ℕ) (x t u : Term) → IsMadeToJoin s v a b x → RefersTo s v a t → RefersTo s v b u → height x ≤ max (height t) (height u) + 1
    made_to_join_low a b x t u (inl (inl h)) left right = let low = made_from_low a x t h left in omega (arith, low)
    made_to_join_low a b x t u (inl (inr h)) left right = let low = made_from_low b x u h right in omega (arith, low)
    made_to_join_low a b x t u (inr h) left right = equality_low a b x t u h left right
