-- Private. Applications over other arguments, and equalities with their sides in order.
use Rattle.std.proofs.Common.{◌≡◌, ◌≤◌, inl, inr, ℕ, List, [], ◌∷◌, length, get_or, All, refl, sym, ◌∙◌, ap, subst, arith}
use Rattle.std.proofs.lemmas.List.Elements.{All-weaker}
use Rattle.pair_pool.specs.Views.{IsKnown, IsOneToOne}
use Rattle.sym_table.specs.Leaf.{Leaf, operator}
use Rattle.sym_table.specs.Table.{Table, IsLeaf, IsTable}
use Rattle.sym_table.proofs.Tables.{one_symbol}
use Rattle.term_model.specs.declared.symbols.Op.{Op}
use Rattle.term_model.specs.Flips.{equality}
use Rattle.term_model.specs.Terms.{Term, numeral, variable, operation, call, let_in, Terms, no_terms, term, terms_of}
use Rattle.term_model.proofs.Lists.{list_of-terms_of, terms_of-list_of}
use Rattle.term_model.proofs.Zips.{zip_length, zip_weaken}
use Rattle.term_pool.specs.Building.{IsAppliedLeaf}
use Rattle.term_pool.specs.Reading.{arguments_of}
use Rattle.term_pool.specs.Views.{TermsView, IsTerm, KeepsTerms, RefersTo, ReferToAll}
use Rattle.term_pool.proofs.References.{refer_are_terms}
use Rattle.term_pool.proofs.TermLemmas.{equal_where}
use Rattle.flip_steps.specs.Forms.{HasSidesInOrder, IsFormOf, AreFormsOf}
use Rattle.flip_steps.specs.Refilling.{AreArgumentForms, AreStages, IsApplicationOf, IsInOrderOf, IsOrdered, IsRefilled, IsRefillingOf}
use Rattle.flip_steps.specs.Stages.{StandsBefore, IsStage, refilled, formed, stage, IsMadeAt}
use Rattle.flip_steps.specs.Subterms.{with_arguments}
use Rattle.flip_steps.proofs.OrderLemmas.{refers_later, before_grown, forms_more, order_later}

pub all_refer_later : (s : Table) (v w : TermsView) → KeepsTerms v w → (rs : List ℕ) (ts : List Term) → ReferToAll s v rs ts → ReferToAll s w rs ts
all_refer_later s v w keeps = zip_weaken (RefersTo s v) (RefersTo s w) (λ r t h. refers_later s v w r t keeps h)

pub all_known : (s : Table) (v : TermsView) (rs : List ℕ) (ts : List Term) → ReferToAll s v rs ts → All (IsKnown v.pass) rs
all_known s v rs ts h =
    All-weaker (IsTerm s v) (IsKnown v.pass) (λ r t. record { tree = t.refers.tree; stands = t.refers.known }) rs (refer_are_terms s v rs ts h)

-- the head over other arguments
no_more : (us : List Term) → terms_of us ≡ no_terms → us ≡ []
no_more [] e = refl
no_more (u ∷ us) e = absurd cc

pub refilled_applied : (before : Term → Term → Type 0) (s : Table) (head : ℕ) (t : Term) (us : List Term) → IsAppliedLeaf s head (arguments_of t) t
    → AreFormsOf before (terms_of (arguments_of t)) (terms_of us) → IsAppliedLeaf s head us (with_arguments t (terms_of us))
refilled_applied before s head (numeral n) us h are = (h.0, no_more us are)
refilled_applied before s head (variable x) us h are = (h.0, no_more us are)
refilled_applied before s head (operation op ts) us h are = (h.0, list_of-terms_of us)
refilled_applied before s head (call f ts) us h are = (h.0, list_of-terms_of us)
refilled_applied before s head (let_in bs u) us h are = absurd h

abbrev pub argument_forms_later : (s : Table) (v w : TermsView) (whole head : ℕ) (forms : List ℕ) → KeepsTerms v w → AreArgumentForms s v whole head forms
    → AreArgumentForms s w whole head forms
argument_forms_later s v w whole head forms keeps h = record {
  term = h.term;
  refers = refers_later s v w whole h.term keeps h.refers;
  applied = h.applied;
  us = h.us;
  refer = all_refer_later s v w keeps forms h.us h.refer;
  are = forms_more (StandsBefore s v) (StandsBefore s w) (before_grown s v w keeps.pass.grows) (terms_of (arguments_of h.term)) (terms_of h.us) h.are;
}

pub refilling_of : (s : Table) (v : TermsView) (whole head : ℕ) (forms : List ℕ) → (h : AreArgumentForms s v whole head forms)
    → IsRefillingOf s v whole (with_arguments h.term (terms_of h.us))
refilling_of s v whole head forms h = record { term = h.term; refers = h.refers; us = terms_of h.us; are = h.are; is = refl }

-- a term whose sides are in order
pub in_order_itself : (before : Term → Term → Type 0) (t : Term) → ((a b : Term) → t ≡ equality a b → before a b) → HasSidesInOrder before t t
in_order_itself before (operation Op.Equal (term a (term b no_terms))) h = inl (h a b refl, refl)
in_order_itself before t h = refl

-- the leaf of `=` heads equalities alone
equality_head : (s : Table) → IsTable s → (head equal : ℕ) (ts : List Term) (t a b : Term) → IsLeaf s equal (operator Op.Equal) → IsAppliedLeaf s head ts t
    → t ≡ equality a b → (head ≡ equal) × (length ts ≡ 2)
equality_head s table head equal ts t a b leaf applied e =
    let h : IsLeaf s head (operator Op.Equal) × ((a ∷ b ∷ []) ≡ ts) = subst (IsAppliedLeaf s head ts) e applied in
    (table.apart head equal (operator Op.Equal) (operator Op.Equal) h.0 leaf refl refl, ap length (sym h.1))

operator_is : (op : Op) (l : Leaf) → l ≡ operator op → l ≡ operator Op.Equal → op ≡ Op.Equal
operator_is op l d e = let f : operator op ≡ operator Op.Equal = sym d ∙ e in cc

pub equality_applied : (s : Table) (head : ℕ) (ts : List Term) (t : Term) → IsLeaf s head (operator Op.Equal) → IsAppliedLeaf s head ts t
    → t ≡ operation Op.Equal (terms_of ts)
equality_applied s head ts (numeral n) leaf h = let e = one_symbol s head _ _ leaf h.0 in absurd cc
equality_applied s head ts (variable x) leaf h = let e = one_symbol s head _ _ leaf h.0 in absurd cc
equality_applied s head ts (operation op us) leaf h =
    let e : op ≡ Op.Equal = operator_is op (operator op) refl (one_symbol s head _ _ h.0 leaf) in
    ap (λ o. operation o us) e ∙ ap (operation Op.Equal) (sym (terms_of-list_of us)) ∙ ap (λ xs. operation Op.Equal (terms_of xs)) h.1
equality_applied s head ts (call f us) leaf h = let e = one_symbol s head _ _ leaf h.0 in absurd cc
equality_applied s head ts (let_in bs u) leaf h = absurd h

-- two arguments
record AreTwo (s : Table) (v : TermsView) (args : List ℕ) (ts : List Term) : Type 0 where
  pub first : Term
  pub second : Term
  pub are : ts ≡ first ∷ second ∷ []
  pub first_refers : (d : ℕ) → RefersTo s v (get_or args 0 d) first
  pub second_refers : (d : ℕ) → RefersTo s v (get_or args 1 d) second

two_arguments : (s : Table) (v : TermsView) (args : List ℕ) (ts : List Term) → length args ≡ 2 → ReferToAll s v args ts → AreTwo s v args ts
two_arguments s v [] ts two h = absurd (omega (arith, two))
two_arguments s v (x ∷ []) ts two h = absurd (omega (arith, two))
two_arguments s v (x ∷ y ∷ z ∷ zs) ts two h = absurd (omega (arith, two))
two_arguments s v (x ∷ y ∷ []) [] two h = absurd h
two_arguments s v (x ∷ y ∷ []) (t ∷ []) two h = absurd h.1
two_arguments s v (x ∷ y ∷ []) (t ∷ u ∷ w ∷ ws) two h = absurd h.1.1
two_arguments s v (x ∷ y ∷ []) (t ∷ u ∷ []) two h = record {
  first = t;
  second = u;
  are = refl;
  first_refers = λ d. h.0;
  second_refers = λ d. h.1.0;
}

-- an application that has its sides in order
equal_sides : (s : Table) (head : ℕ) (ts : List Term) (t a b : Term) → t ≡ equality a b → IsAppliedLeaf s head ts t → (a ∷ b ∷ []) ≡ ts
equal_sides s head ts t a b e applied = (subst (IsAppliedLeaf s head ts) e applied).1

-- two items of the list, the first not greater than the second
pub record AreRising (args : List ℕ) : Type 0 where
  pub first : ℕ
  pub second : ℕ
  pub first_is : first ≡ get_or args 0 first
  pub second_is : second ≡ get_or args 1 second
  pub low : first ≤ second

pub ordered_itself : (s : Table) (v : TermsView) → IsTable s → (head equal : ℕ) (args : List ℕ) (r : ℕ) → IsLeaf s equal (operator Op.Equal)
    → IsApplicationOf s v head args r → (head ≡ equal → length args ≡ 2 → AreRising args) → IsOrdered s v r r
ordered_itself s v table head equal args r leaf h low = record {
  form = h.term;
  refers = h.refers;
  is = record { inner = h.term; refers = h.refers; order = in_order_itself (StandsBefore s v) h.term before };
}
  where
    before : (a b : Term) → h.term ≡ equality a b → StandsBefore s v a b
    before a b e =
        let is = equality_head s table head equal h.ts h.term a b leaf h.applied e in
        let two : length args ≡ 2 = zip_length (RefersTo s v) args h.ts h.refer ∙ is.1 in
        let pair = two_arguments s v args h.ts two h.refer in
        let same : (a ∷ b ∷ []) ≡ (pair.first ∷ pair.second ∷ []) = equal_sides s head h.ts h.term a b e h.applied ∙ pair.are in
        let first : pair.first ≡ a = cc in
        let second : pair.second ≡ b = cc in
        let rising = low is.0 two in
        record {
          left = rising.first;
          right = rising.second;
          left_refers = subst (RefersTo s v rising.first) first (subst (λ x. RefersTo s v x pair.first) (sym rising.first_is) (pair.first_refers rising.first));
          right_refers = subst (RefersTo s v rising.second) second
              (subst (λ x. RefersTo s v x pair.second) (sym rising.second_is) (pair.second_refers rising.second));
          order = rising.low;
        }

-- an equality whose sides are exchanged: the references of the second side and of the first one
pub record IsExchanged (s : Table) (v : TermsView) (head r x y : ℕ) : Type 0 where
  pub first : Term
  pub second : Term
  pub refer : ReferToAll s v (y ∷ x ∷ []) (second ∷ first ∷ [])
  pub applied : IsAppliedLeaf s head (second ∷ first ∷ []) (equality second first)
  pub is : IsInOrderOf s v r (equality second first)

pub exchanged : (s : Table) (v : TermsView) (head : ℕ) (args : List ℕ) (r x y : ℕ) → IsLeaf s head (operator Op.Equal) → IsApplicationOf s v head args r
    → length args ≡ 2 → x ≡ get_or args 0 x → y ≡ get_or args 1 y → y ≤ x → IsExchanged s v head r x y
exchanged s v head args r x y leaf h two first_is second_is high =
    let pair = two_arguments s v args h.ts two h.refer in
    let whole : h.term ≡ equality pair.first pair.second =
    equality_applied s head h.ts h.term leaf h.applied ∙ ap (λ xs. operation Op.Equal (terms_of xs)) pair.are in
    let left : RefersTo s v x pair.first = subst (λ z. RefersTo s v z pair.first) (sym first_is) (pair.first_refers x) in
    let right : RefersTo s v y pair.second = subst (λ z. RefersTo s v z pair.second) (sym second_is) (pair.second_refers y) in
    record {
      first = pair.first;
      second = pair.second;
      refer = (right, (left, tt));
      applied = (leaf, refl);
      is = record {
        inner = equality pair.first pair.second;
        refers = subst (RefersTo s v r) whole h.refers;
        order = inr (record { left = y; right = x; left_refers = right; right_refers = left; order = high }, refl);
      };
    }

abbrev pub in_order_later : (s : Table) (v w : TermsView) (r : ℕ) (x : Term) → KeepsTerms v w → IsInOrderOf s v r x → IsInOrderOf s w r x
in_order_later s v w r x keeps h = record {
  inner = h.inner;
  refers = refers_later s v w r h.inner keeps h.refers;
  order = order_later (StandsBefore s v) (StandsBefore s w) (before_grown s v w keeps.pass.grows) h.inner x h.order;
}

-- the form of an application, by that over the forms of its arguments
pub form_of_refilled : (before : Term → Term → Type 0) (s : Table) (head : ℕ) (t : Term) (us : Terms) (f : Term) → IsAppliedLeaf s head (arguments_of t) t
    → AreFormsOf before (terms_of (arguments_of t)) us → HasSidesInOrder before (with_arguments t us) f → IsFormOf before t f
form_of_refilled before s head (numeral n) us f applied are order = order
form_of_refilled before s head (variable x) us f applied are order = order
form_of_refilled before s head (operation op ts) us f applied are order =
    (us, subst (λ xs. AreFormsOf before xs us) (terms_of-list_of ts) are, order)
form_of_refilled before s head (call g ts) us f applied are order = (us, subst (λ xs. AreFormsOf before xs us) (terms_of-list_of ts) are, order)
form_of_refilled before s head (let_in bs u) us f applied are order = absurd applied

-- what is made for an application
pub made_refilling : (s : Table) (v : TermsView) (whole : ℕ) (x : Term) → IsRefillingOf s v whole x → IsMadeAt s v whole x
made_refilling s v whole x h = record {
  term = h.term;
  refers = h.refers;
  made = stage x (subst (IsStage s v h.term) (sym h.is) (refilled h.us h.are));
}

pub application_of : (s : Table) (v : TermsView) (whole head : ℕ) (forms : List ℕ) (r : ℕ) → IsRefilled s v whole head forms r
    → IsApplicationOf s v head forms r
application_of s v whole head forms r h = record {
  term = with_arguments h.given.term (terms_of h.given.us);
  refers = h.refers;
  ts = h.given.us;
  refer = h.given.refer;
  applied = refilled_applied (StandsBefore s v) s head h.given.term h.given.us h.given.applied h.given.are;
}

abbrev pub refilled_later : (s : Table) (v w : TermsView) (whole head : ℕ) (forms : List ℕ) (r : ℕ) → KeepsTerms v w → IsRefilled s v whole head forms r
    → IsRefilled s w whole head forms r
refilled_later s v w whole head forms r keeps h = record {
  given = argument_forms_later s v w whole head forms keeps h.given;
  refers = refers_later s v w r (with_arguments h.given.term (terms_of h.given.us)) keeps h.refers;
}

-- what a refilled application with its sides in order is
pub ordered_refilling : (s : Table) (v : TermsView) → IsTable s → IsOneToOne v.pass → (whole head : ℕ) (forms : List ℕ) (r : ℕ)
    → (h : IsRefilled s v whole head forms r)
    → (x : Term) → IsInOrderOf s v r x → HasSidesInOrder (StandsBefore s v) (with_arguments h.given.term (terms_of h.given.us)) x
ordered_refilling s v table one whole head forms r h x k =
    subst (λ y. HasSidesInOrder (StandsBefore s v) y x) ((equal_where s v table one r r k.inner _ k.refers h.refers).0 refl) k.order

pub made_ordered : (s : Table) (v : TermsView) → IsTable s → IsOneToOne v.pass → (whole head : ℕ) (forms : List ℕ) (r : ℕ) → IsRefilled s v whole head forms r
    → (x : Term) → IsInOrderOf s v r x → IsMadeAt s v whole x
made_ordered s v table one whole head forms r h x k = record {
  term = h.given.term;
  refers = h.given.refers;
  made = stage x (formed x (form_of_refilled (StandsBefore s v) s head h.given.term (terms_of h.given.us) x h.given.applied h.given.are
      (ordered_refilling s v table one whole head forms r h x k)));
}

pub stages_of : (s : Table) (v : TermsView) → IsTable s → IsOneToOne v.pass → (whole head : ℕ) (forms : List ℕ) (r f : ℕ) → IsRefilled s v whole head forms r
    → IsOrdered s v r f → AreStages s v head forms (record { whole = whole; refilled = r; form = f })
stages_of s v table one whole head forms r f h k = record {
  given = h.given;
  refilled_refers = h.refers;
  last = k.form;
  form_refers = k.refers;
  order = ordered_refilling s v table one whole head forms r h k.form k.is;
}

-- over the same arguments it is the application
pub same_arguments : (t : Term) → with_arguments t (terms_of (arguments_of t)) ≡ t
same_arguments (numeral n) = refl
same_arguments (variable x) = refl
same_arguments (operation op ts) = ap (operation op) (terms_of-list_of ts)
same_arguments (call f ts) = ap (call f) (terms_of-list_of ts)
same_arguments (let_in bs u) = refl
