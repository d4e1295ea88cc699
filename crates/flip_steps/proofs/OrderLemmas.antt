-- Cited by crates above. The order of sides by references: it is antisymmetric, and it stays as more is known, and so do forms over it.
use Rattle.std.proofs.Common.{◌≡◌, inl, inr, ℕ, refl, ◌∙◌, arith}
use Rattle.pair_pool.specs.Views.{Grows, IsOneToOne}
use Rattle.sym_table.specs.Table.{Table, IsTable}
use Rattle.term_model.specs.declared.symbols.Op.{Op}
use Rattle.term_model.specs.Terms.{Term, numeral, variable, operation, call, let_in, Terms, no_terms, term}
use Rattle.term_pool.specs.Views.{TermsView, KeepsTerms, RefersTo}
use Rattle.term_pool.proofs.TermLemmas.{equal_where}
use Rattle.flip_steps.specs.Forms.{IsAntisymmetric, HasSidesInOrder, IsFormOf, AreFormsOf}
use Rattle.flip_steps.specs.Stages.{StandsBefore, IsStage, itself, refilled, formed, IsMadeFor, stage, equated, IsMadeAt, StandsIn, IsMadeFrom, IsEqualityOf}
use Rattle.flip_steps.specs.Stages.{IsMadeToJoin}

pub refers_grown : (s : Table) (v w : TermsView) (r : ℕ) (t : Term) → Grows v.pass w.pass → RefersTo s v r t → RefersTo s w r t
refers_grown s v w r t grows h = record { tree = h.tree; known = grows r h.tree h.known; stands = h.stands }

pub refers_later : (s : Table) (v w : TermsView) (r : ℕ) (t : Term) → KeepsTerms v w → RefersTo s v r t → RefersTo s w r t
refers_later s v w r t keeps h = refers_grown s v w r t keeps.pass.grows h

pub keeps_then : (u v w : TermsView) → KeepsTerms u v → KeepsTerms v w → KeepsTerms u w
keeps_then u v w h k = record {
  pool = k.pool ∙ h.pool;
  pass = record {
    places = k.pass.places ∙ h.pass.places;
    shares = k.pass.shares ∙ h.pass.shares;
    grows = λ r t known. k.pass.grows r t (h.pass.grows r t known);
    sees = λ r a b seen. k.pass.sees r a b (h.pass.sees r a b seen);
  };
}

pub references_antisymmetric : (s : Table) (v : TermsView) → IsTable s → IsOneToOne v.pass → IsAntisymmetric (StandsBefore s v)
references_antisymmetric s v table one a b h k =
    let left : h.left ≡ k.right = (equal_where s v table one h.left k.right a a h.left_refers k.right_refers).1 refl in
    let right : h.right ≡ k.left = (equal_where s v table one h.right k.left b b h.right_refers k.left_refers).1 refl in
    let less = h.order in
    let more = k.order in
    let same : h.left ≡ h.right = omega arith in
    (equal_where s v table one h.left h.right a b h.left_refers h.right_refers).0 same

pub before_grown : (s : Table) (v w : TermsView) → Grows v.pass w.pass → (a b : Term) → StandsBefore s v a b → StandsBefore s w a b
before_grown s v w grows a b h = record {
  left = h.left;
  right = h.right;
  left_refers = refers_grown s v w h.left a grows h.left_refers;
  right_refers = refers_grown s v w h.right b grows h.right_refers;
  order = h.order;
}

-- forms over an order of which more is known
module _ (before after : Term → Term → Type 0) (more : (a b : Term) → before a b → after a b) where
  pub order_later : (v f : Term) → HasSidesInOrder before v f → HasSidesInOrder after v f
  order_later (operation Op.Equal (term a (term b no_terms))) f (inl h) = inl (more a b h.0, h.1)
  order_later (operation Op.Equal (term a (term b no_terms))) f (inr h) = inr (more b a h.0, h.1)
  order_later v f h = h

  mutual
    pub form_more : (t f : Term) → IsFormOf before t f → IsFormOf after t f
    form_more (numeral n) f h = h
    form_more (variable x) f h = h
    form_more (let_in bs t) f h = h
    form_more (call c ts) f (us, h, e) = (us, forms_more ts us h, e)
    form_more (operation op ts) f (us, h, e) = (us, forms_more ts us h, order_later (operation op us) f e)

    pub forms_more : (ts us : Terms) → AreFormsOf before ts us → AreFormsOf after ts us
    forms_more no_terms us h = h
    forms_more (term t ts) no_terms h = h
    forms_more (term t ts) (term u us) h = (form_more t u h.0, forms_more ts us h.1)

module _ (s : Table) (v w : TermsView) (grows : Grows v.pass w.pass) where
  pub form_later : (t f : Term) → IsFormOf (StandsBefore s v) t f → IsFormOf (StandsBefore s w) t f
  form_later = form_more (StandsBefore s v) (StandsBefore s w) (before_grown s v w grows)

  pub stage_later : (t x : Term) → IsStage s v t x → IsStage s w t x
  stage_later t _ itself = itself
  stage_later t _ (refilled us h) = refilled us (forms_more (StandsBefore s v) (StandsBefore s w) (before_grown s v w grows) _ us h)
  stage_later t _ (formed f h) = formed f (form_later t f h)

  pub made_for_later : (t x : Term) → IsMadeFor s v t x → IsMadeFor s w t x
  made_for_later t _ (stage x h) = stage x (stage_later t x h)
  made_for_later t _ (equated x y h k) = equated x y (stage_later t x h) (stage_later t y k)

  pub made_at_later : (r : ℕ) (x : Term) → IsMadeAt s v r x → IsMadeAt s w r x
  made_at_later r x h = record { term = h.term; refers = refers_grown s v w r h.term grows h.refers; made = made_for_later h.term x h.made }

  pub stands_grown : (root r : ℕ) → StandsIn s v root r → StandsIn s w root r
  stands_grown root r h = record {
    whole = h.whole;
    whole_refers = refers_grown s v w root h.whole grows h.whole_refers;
    term = h.term;
    refers = refers_grown s v w r h.term grows h.refers;
    within = h.within;
  }

  pub made_from_later : (root : ℕ) (x : Term) → IsMadeFrom s v root x → IsMadeFrom s w root x
  made_from_later root x h = record { from = h.from; stands = stands_grown root h.from h.stands; made = made_at_later h.from x h.made }

  pub equality_later : (a b : ℕ) (x : Term) → IsEqualityOf s v a b x → IsEqualityOf s w a b x
  equality_later a b x h = record {
    left = h.left;
    right = h.right;
    left_refers = refers_grown s v w a h.left grows h.left_refers;
    right_refers = refers_grown s v w b h.right grows h.right_refers;
    is = h.is;
  }

  pub made_to_join_later : (a b : ℕ) (x : Term) → IsMadeToJoin s v a b x → IsMadeToJoin s w a b x
  made_to_join_later a b x (inl (inl h)) = inl (inl (made_from_later a x h))
  made_to_join_later a b x (inl (inr h)) = inl (inr (made_from_later b x h))
  made_to_join_later a b x (inr h) = inr (equality_later a b x h)

pub stands_later : (s : Table) (v w : TermsView) → KeepsTerms v w → (root r : ℕ) → StandsIn s v root r → StandsIn s w root r
stands_later s v w keeps = stands_grown s v w keeps.pass.grows
