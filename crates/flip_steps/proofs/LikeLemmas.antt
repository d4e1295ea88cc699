-- Private. What is made to join terms is like what stands in them.
use Rattle.std.proofs.Common.{◌≡◌, ◌⊎◌, inl, inr, ℕ, refl, subst}
use Rattle.pair_pool.specs.Views.{IsOneToOne}
use Rattle.sym_table.specs.Table.{Table, IsTable}
use Rattle.term_model.specs.Flips.{EqualUpToFlips, same, operations, calls, equality}
use Rattle.term_model.specs.Terms.{Term, numeral, variable, operation, call, let_in, Terms, terms_of}
use Rattle.term_model.proofs.Lists.{terms_of-list_of}
use Rattle.term_pool.specs.Reading.{arguments_of}
use Rattle.term_pool.specs.Views.{TermsView, RefersTo}
use Rattle.term_pool.proofs.TermLemmas.{equal_where}
use Rattle.flip_steps.specs.Forms.{AreFormsOf}
use Rattle.flip_steps.specs.Stages.{StandsBefore, IsStage, itself, refilled, formed, IsMadeFor, stage, equated, IsMadeFrom, IsEqualityOf, IsMadeToJoin}
use Rattle.flip_steps.specs.Subterms as parts
use Rattle.flip_steps.specs.Subterms.{IsLikePart, IsWithin, with_arguments}
use Rattle.flip_steps.proofs.FormLemmas.{form_equal, forms_equal}

refilled_like : (before : Term → Term → Type 0) (t : Term) (us : Terms) → AreFormsOf before (terms_of (arguments_of t)) us
    → EqualUpToFlips t (with_arguments t us)
refilled_like before (numeral n) us are = same (numeral n)
refilled_like before (variable x) us are = same (variable x)
refilled_like before (operation op ts) us are =
    operations op ts us (forms_equal before ts us (subst (λ xs. AreFormsOf before xs us) (terms_of-list_of ts) are))
refilled_like before (call f ts) us are = calls f ts us (forms_equal before ts us (subst (λ xs. AreFormsOf before xs us) (terms_of-list_of ts) are))
refilled_like before (let_in bs u) us are = same (let_in bs u)

module _ (s : Table) (v : TermsView) where
  stage_like : (t x : Term) → IsStage s v t x → EqualUpToFlips t x
  stage_like t _ itself = same t
  stage_like t _ (refilled us are) = refilled_like (StandsBefore s v) t us are
  stage_like t _ (formed f h) = form_equal (StandsBefore s v) t f h

  made_like : (whole t x : Term) → IsWithin whole t → IsMadeFor s v t x → IsLikePart whole x
  made_like whole t _ within (stage x h) = parts.part t x within (stage_like t x h)
  made_like whole t _ within (equated x y h k) = parts.equated t x y within (stage_like t x h) (stage_like t y k)

  module _ (table : IsTable s) (one : IsOneToOne v.pass) where
    pub made_from_like : (root : ℕ) (x t : Term) → IsMadeFrom s v root x → RefersTo s v root t → IsLikePart t x
    made_from_like root x t h refers =
        let whole_is : h.stands.whole ≡ t = (equal_where s v table one root root h.stands.whole t h.stands.whole_refers refers).0 refl in
        let part_is : h.stands.term ≡ h.made.term = (equal_where s v table one h.from h.from h.stands.term h.made.term h.stands.refers h.made.refers).0 refl in
        made_like t h.made.term x (subst (λ y. IsWithin t y) part_is (subst (λ y. IsWithin y h.stands.term) whole_is h.stands.within)) h.made.made

    equality_is : (a b : ℕ) (x t u : Term) → IsEqualityOf s v a b x → RefersTo s v a t → RefersTo s v b u → x ≡ equality t u
    equality_is a b x t u h left right =
        let one_is : h.left ≡ t = (equal_where s v table one a a h.left t h.left_refers left).0 refl in
        let other_is : h.right ≡ u = (equal_where s v table one b b h.right u h.right_refers right).0 refl in
        subst (λ y. x ≡ equality t y) other_is (subst (λ y. x ≡ equality y h.right) one_is h.is)

    pub made_to_join_like : (a b : ℕ) (x t u : Term) → IsMadeToJoin s v a b x → RefersTo s v a t → RefersTo s v b u
        → (IsLikePart t x ⊎ IsLikePart u x) ⊎ (x ≡ equality t u)
    made_to_join_like a b x t u (inl (inl h)) left right = inl (inl (made_from_like a x t h left))
    made_to_join_like a b x t u (inl (inr h)) left right = inl (inr (made_from_like b x u h right))
    made_to_join_like a b x t u (inr h) left right = inr (equality_is a b x t u h left right)
