-- Cited by crates above. What is asked of the steps that say that an application is equal to its form.
use Rattle.std.proofs.Common.{◌≡◌, ◌≢◌, ◌≤◌, ◌+◌, ◌⊎◌, inl, inr, ℕ, Bool, true, ◌&&◌, List, [], ◌∷◌, Option, Some, refl, sym, ◌∙◌, ap, subst, arith}
use Rattle.pair_pool.specs.Views.{IsOneToOne}
use Rattle.proof_store.specs.AddedSteps.{AddedStep}
use Rattle.proof_store.specs.declared.added.Link.{Link}
use Rattle.rule_model.specs.Congruence.{AreDifferences, Head, operator, function, applied}
use Rattle.sym_table.specs.Table.{Table, IsTable}
use Rattle.term_model.specs.declared.symbols.Op.{Op}
use Rattle.term_model.specs.declared.symbols.Sort.{Sort}
use Rattle.term_model.specs.Flips.{equality}
use Rattle.term_model.specs.FreeVariables.{IsFree}
use Rattle.term_model.specs.Sorts.{IsOf, AreOf, application_sort, when}
use Rattle.term_model.specs.Terms.{Var, Term, numeral, variable, operation, call, let_in, Terms, no_terms, term, terms_of, sort_eq}
use Rattle.term_model.proofs.Lists.{terms_of-list_of}
use Rattle.term_model.proofs.Flips.{operation_flipped}
use Rattle.term_pool.specs.Reading.{arguments_of}
use Rattle.term_pool.specs.Placing.{PlacesCellsOf}
use Rattle.term_pool.specs.Views.{TermsView, KeepsTerms, RefersTo, ReferToAll}
use Rattle.term_pool.proofs.PlacedCells.{places_more, places_more_then}
use Rattle.term_pool.proofs.TermLemmas.{equal_where}
use Rattle.equality_steps.specs.Blocks.{Adds, Extends, IsBlockAt}
use Rattle.equality_steps.specs.Given.{AreChained, AreLinkedArguments, AreTurned}
use Rattle.equality_steps.specs.Links.{LinkSays, LinksSay, LinkEquates}
use Rattle.equality_steps.specs.Sites.{AreSidesAt, IsSideAt}
use Rattle.equality_steps.specs.declared.site.Site.{Site}
use Rattle.flip_steps.specs.declared.refilling.Stages.{Stages}
use Rattle.flip_steps.specs.Forms.{IsFormOf, AreFormsOf}
use Rattle.flip_steps.specs.Refilling.{AreStages, IsRefilled}
use Rattle.flip_steps.specs.Memory.{IsEquatedBy, IsFormedAs}
use Rattle.flip_steps.specs.Remembering.{GrowsBy, IsGatheredFor, IsReadyFor}
use Rattle.flip_steps.specs.Stages.{StandsBefore, IsStage, itself, refilled, formed, equated, IsMadeAt}
use Rattle.flip_steps.specs.Subterms.{with_arguments}
use Rattle.flip_steps.proofs.FormLemmas.{IsTurned, order_cases, forms_sorts, forms_free, forms_equal}
use Rattle.flip_steps.proofs.MemoryLemmas.{LinksStay, say_later}
use Rattle.flip_steps.proofs.OrderLemmas.{before_grown, form_later, made_at_later, order_later, refers_later, stage_later}
use Rattle.flip_steps.proofs.UnitLemmas.{extends_itself, one_longer, units_more, units_none, units_one, units_then}
use Rattle.flip_steps.proofs.RefillLemmas.{all_refer_later, argument_forms_later, form_of_refilled, same_arguments}

-- the sides of an equality
pub record AreSorted (l r : Term) : Type 0 where
  pub sort : Sort
  pub left : IsOf l sort
  pub right : IsOf r sort

sort_same : (x y : Sort) → sort_eq x y ≡ true → x ≡ y
sort_same Sort.Bool Sort.Bool e = refl
sort_same Sort.Int Sort.Int e = refl
sort_same (Sort.Declared m) (Sort.Declared n) e = let same : m ≡ n = grind arith in ap Sort.Declared same
sort_same Sort.Bool Sort.Int e = absurd cc
sort_same Sort.Bool (Sort.Declared n) e = absurd cc
sort_same Sort.Int Sort.Bool e = absurd cc
sort_same Sort.Int (Sort.Declared n) e = absurd cc
sort_same (Sort.Declared m) Sort.Bool e = absurd cc
sort_same (Sort.Declared m) Sort.Int e = absurd cc

when_true : (b : Bool) (s x : Sort) → when (b && true) s ≡ Some x → b ≡ true
when_true true s x e = refl
when_true b s x e = grind arith

pub sides_sorted : (l r : Term) (s : Sort) → IsOf (equality l r) s → AreSorted l r
sides_sorted l r s h = go h.sorts h.arguments h.is
  where
    go : (ss : List Sort) → AreOf (term l (term r no_terms)) ss → application_sort Op.Equal ss ≡ Some s → AreSorted l r
    go (x ∷ y ∷ []) have e =
        let same : x ≡ y = sort_same x y (when_true (sort_eq x y) Sort.Bool s e) in
        record { sort = x; left = have.0; right = subst (IsOf r) (sym same) have.1.0 }
    go (x ∷ y ∷ z ∷ ss) have e = absurd have.1.1
    go (x ∷ []) have e = absurd have.1
    go [] have e = absurd have

-- a term over forms of its arguments
refilled_sort : (before : Term → Term → Type 0) (t : Term) (us : Terms) (s : Sort) → AreFormsOf before (terms_of (arguments_of t)) us → IsOf t s
    → IsOf (with_arguments t us) s
refilled_sort before (numeral n) us s are h = h
refilled_sort before (variable x) us s are h = h
refilled_sort before (operation op ts) us s are h =
    let forms = subst (λ xs. AreFormsOf before xs us) (terms_of-list_of ts) are in
    record {
      sorts = h.sorts;
      arguments = forms_sorts before ts us h.sorts forms h.arguments;
      is = operation_flipped op ts us h.sorts s (forms_equal before ts us forms) h.is;
    }
refilled_sort before (call f ts) us s are h = record {
  sorts = h.sorts;
  arguments = forms_sorts before ts us h.sorts (subst (λ xs. AreFormsOf before xs us) (terms_of-list_of ts) are) h.arguments;
  is = h.is;
}
refilled_sort before (let_in bs u) us s are h = h

refilled_free : (before : Term → Term → Type 0) (x : Var) (t : Term) (us : Terms) → AreFormsOf before (terms_of (arguments_of t)) us
    → IsFree x (with_arguments t us) → IsFree x t
refilled_free before x (numeral n) us are h = h
refilled_free before x (variable y) us are h = h
refilled_free before x (operation op ts) us are h = forms_free before x ts us (subst (λ xs. AreFormsOf before xs us) (terms_of-list_of ts) are) h
refilled_free before x (call f ts) us are h = forms_free before x ts us (subst (λ xs. AreFormsOf before xs us) (terms_of-list_of ts) are) h
refilled_free before x (let_in bs u) us are h = h

-- its head
record HasHead (t : Term) (us : List Term) : Type 0 where
  pub head : Head
  pub whole : t ≡ applied head (arguments_of t)
  pub refilled_is : with_arguments t (terms_of us) ≡ applied head us

data HeadOf (t : Term) (us : List Term) : Type 0 where
  headed : HasHead t us → HeadOf t us
  leaf_alone : with_arguments t (terms_of us) ≡ t → HeadOf t us

head_of : (t : Term) (us : List Term) → HeadOf t us
head_of (numeral n) us = leaf_alone refl
head_of (variable x) us = leaf_alone refl
head_of (operation op ts) us = headed (record { head = operator op; whole = ap (operation op) (sym (terms_of-list_of ts)); refilled_is = refl })
head_of (call f ts) us = headed (record { head = function f; whole = ap (call f) (sym (terms_of-list_of ts)); refilled_is = refl })
head_of (let_in bs u) us = leaf_alone refl

-- without arguments there are no forms of them
no_forms : (before : Term → Term → Type 0) (ts us : List Term) → AreFormsOf before (terms_of ts) (terms_of us) → ts ≡ [] → us ≡ ts
no_forms before [] [] are e = refl
no_forms before [] (u ∷ us) are e = absurd (let f : term u (terms_of us) ≡ no_terms = are in absurd cc)
no_forms before (t ∷ ts) us are e = absurd cc

module _ (p : Site) (v : TermsView) (steps : List AddedStep) (table : IsTable p.symbols.now) (one : IsOneToOne v.pass)
    (links : List Link) (x : Stages) (h : IsReadyFor p v steps links x) where
  abbrev Before : Term → Term → Type 0
  Before = StandsBefore p.symbols.now v

  abbrev whole_term : Term
  whole_term = h.stages.given.term

  abbrev refilled_term : Term
  refilled_term = with_arguments h.stages.given.term (terms_of h.stages.given.us)

  side_is : h.side.term ≡ whole_term
  side_is = (equal_where p.symbols.now v table one x.whole x.whole h.side.term whole_term h.side.refers h.stages.given.refers).0 refl

  whole_side : IsSideAt p h.side.sort whole_term
  whole_side = subst (IsSideAt p h.side.sort) side_is h.side.fits

  refilled_side : IsSideAt p h.side.sort refilled_term
  refilled_side = (
    refilled_sort Before whole_term (terms_of h.stages.given.us) h.side.sort h.stages.given.are whole_side.0,
    λ y free. whole_side.1 y (refilled_free Before y whole_term (terms_of h.stages.given.us) h.stages.given.are free),
  )

  pub stages_sides : AreSidesAt p v x.whole x.refilled
  stages_sides = record {
    left = whole_term;
    right = refilled_term;
    left_refers = h.stages.given.refers;
    right_refers = h.stages.refilled_refers;
    sides = record { sort = h.side.sort; left = whole_side; right = refilled_side };
  }

  -- the references differ where the terms do
  apart_terms : x.whole ≢ x.refilled → refilled_term ≢ whole_term
  apart_terms apart e =
      apart ((equal_where p.symbols.now v table one x.whole x.refilled whole_term refilled_term h.stages.given.refers h.stages.refilled_refers).1 (sym e))

  pub stages_linked : x.whole ≢ x.refilled → AreLinkedArguments p v steps links x.whole x.refilled
  stages_linked apart = go (head_of whole_term h.stages.given.us)
    where
      go : HeadOf whole_term h.stages.given.us → AreLinkedArguments p v steps links x.whole x.refilled
      go (leaf_alone e) = absurd (apart_terms apart e)
      go (headed k) = record {
        head = k.head;
        ts = arguments_of whole_term;
        us = h.stages.given.us;
        some = λ none. apart_terms apart
            (k.refilled_is ∙ ap (applied k.head) (no_forms Before (arguments_of whole_term) h.stages.given.us h.stages.given.are none) ∙ sym k.whole);
        left_refers = subst (RefersTo p.symbols.now v x.whole) k.whole h.stages.given.refers;
        right_refers = subst (RefersTo p.symbols.now v x.refilled) k.refilled_is h.stages.refilled_refers;
        clauses = h.clauses;
        say = h.say;
        differences = h.differences;
      }

  pub stages_turned : x.refilled ≢ x.form → AreTurned p v x.refilled x.form
  stages_turned apart = go (order_cases Before refilled_term h.stages.last h.stages.order)
    where
      go : (h.stages.last ≡ refilled_term) ⊎ IsTurned Before refilled_term h.stages.last → AreTurned p v x.refilled x.form
      go (inl e) = absurd (apart
          ((equal_where p.symbols.now v table one x.refilled x.form refilled_term h.stages.last h.stages.refilled_refers h.stages.form_refers).1 (sym e)))
      go (inr k) =
          let side = subst (IsSideAt p h.side.sort) k.is refilled_side in
          let sorts = sides_sorted k.left k.right h.side.sort side.0 in
          record {
            left = k.left;
            right = k.right;
            whole_refers = subst (RefersTo p.symbols.now v x.refilled) k.is h.stages.refilled_refers;
            turned_refers = subst (RefersTo p.symbols.now v x.form) k.turned h.stages.form_refers;
            sides = record {
              sort = sorts.sort;
              left = (sorts.left, λ y free. side.1 y (inl free));
              right = (sorts.right, λ y free. side.1 y (inr (inl free)));
            };
          }

  pub stages_form : IsFormOf Before whole_term h.stages.last
  stages_form =
      form_of_refilled Before p.symbols.now h.head whole_term
      (terms_of h.stages.given.us) h.stages.last h.stages.given.applied h.stages.given.are h.stages.order

  whole_stage : IsStage p.symbols.now v whole_term whole_term
  whole_stage = itself

  refilled_stage : IsStage p.symbols.now v whole_term refilled_term
  refilled_stage = refilled (terms_of h.stages.given.us) h.stages.given.are

  form_stage : IsStage p.symbols.now v whole_term h.stages.last
  form_stage = formed h.stages.last stages_form

  -- equalities of these are made for the application
  module _ (w : TermsView) (keeps : KeepsTerms v w) where
    made_equality : (a b : Term) → IsStage p.symbols.now v whole_term a → IsStage p.symbols.now v whole_term b → IsMadeAt p.symbols.now w x.whole (equality a b)
    made_equality a b k l = record {
      term = whole_term;
      refers = refers_later p.symbols.now v w x.whole whole_term keeps h.stages.given.refers;
      made = equated a b (stage_later p.symbols.now v w keeps.pass.grows whole_term a k) (stage_later p.symbols.now v w keeps.pass.grows whole_term b l);
    }

    pub made_inner : IsMadeAt p.symbols.now w x.whole (equality whole_term refilled_term)
    made_inner = made_equality whole_term refilled_term whole_stage refilled_stage

    pub made_turned : IsMadeAt p.symbols.now w x.whole (equality refilled_term h.stages.last)
    made_turned = made_equality refilled_term h.stages.last refilled_stage form_stage

    pub made_whole : IsMadeAt p.symbols.now w x.whole (equality whole_term h.stages.last)
    made_whole = made_equality whole_term h.stages.last whole_stage form_stage

-- a link that was added for an equality of two terms
pub equates_of : (p : Site) (v w : TermsView) (old new : List AddedStep) (link : Link) (a b : ℕ) (t u : Term) → KeepsTerms v w → RefersTo p.symbols.now v a t
    → RefersTo p.symbols.now v b u → Adds p w old new link (equality t u ∷ []) → LinkEquates p w new link a b
equates_of p v w old new link a b t u keeps left right h = record {
  left = t;
  right = u;
  left_refers = refers_later p.symbols.now v w a t keeps left;
  right_refers = refers_later p.symbols.now v w b u keeps right;
  says = h.says;
}

pub grows_one : (p : Site) (v : TermsView) (old new : List AddedStep) (link : Link) (t : Term) (P : Term → Type 0) → IsBlockAt p v new
    → Adds p v old new link (t ∷ []) → P t → GrowsBy p v old new P 1
grows_one p v old new link t P block h k = record {
  block = block;
  units = units_one p v old new link t P h k;
  few = let e = one_longer p v old new link (t ∷ []) h in omega arith;
}

pub grows_none : (p : Site) (v : TermsView) (old : List AddedStep) (P : Term → Type 0) (n : ℕ) → IsBlockAt p v old → GrowsBy p v old old P n
grows_none p v old P n block = record { block = block; units = units_none p v old old P refl; few = omega arith }

pub grows_more : (p : Site) (v : TermsView) (old new : List AddedStep) (P : Term → Type 0) (m n : ℕ) → m ≤ n → GrowsBy p v old new P m → GrowsBy p v old new P n
grows_more p v old new P m n low h = record { block = h.block; units = h.units; few = let f = h.few in omega arith }

pub grows_then : (p : Site) (v w : TermsView) (a b c : List AddedStep) (P Q : Term → Type 0) (m n k : ℕ) → KeepsTerms v w → ((x : Term) → P x → Q x)
    → m + n ≤ k → GrowsBy p v a b P m → GrowsBy p w b c Q n → GrowsBy p w a c Q k
grows_then p v w a b c P Q m n k keeps more low h l = record {
  block = l.block;
  units = units_then p w a b c Q (units_more p v w a b P Q keeps more h.units) l.units;
  few = let f = h.few in let g = l.few in omega arith;
}

-- two links, one behind the other
pub chained_two : (p : Site) (v : TermsView) (steps : List AddedStep) → IsTable p.symbols.now → IsOneToOne v.pass → (inner turned : Link) (links : List Link)
    (a b c : ℕ) → links ≡ inner ∷ turned ∷ [] → LinkEquates p v steps inner a b → LinkEquates p v steps turned b c → AreChained p v steps links a c
chained_two p v steps table one inner turned links a b c e h k =
    let same = (equal_where p.symbols.now v table one b b k.left h.right k.left_refers h.right_refers).0 refl in
    record {
      left = h.left;
      right = k.right;
      left_refers = h.left_refers;
      right_refers = k.right_refers;
      clauses = (equality h.left h.right ∷ []) ∷ (equality h.right k.right ∷ []) ∷ [];
      say = subst (λ xs. LinksSay p v steps xs ((equality h.left h.right ∷ []) ∷ (equality h.right k.right ∷ []) ∷ [])) (sym e)
          (h.says, (subst (λ y. LinkSays p v steps turned (equality y k.right ∷ [])) same k.says, tt));
      some = λ none. absurd cc;
      chain = (h.right, refl, (k.right, refl, refl));
    }

-- what is ready stays so
pub ready_later : LinksStay → (p : Site) (v w : TermsView) (old new : List AddedStep) (links : List Link) (x : Stages) → KeepsTerms v w → Extends old new
    → IsReadyFor p v old links x → IsReadyFor p w new links x
ready_later stay p v w old new links x keeps more h = record {
  head = h.head;
  forms = h.forms;
  side = record { sort = h.side.sort; term = h.side.term; refers = refers_later p.symbols.now v w x.whole h.side.term keeps h.side.refers; fits = h.side.fits };
  stages = record {
    given = argument_forms_later p.symbols.now v w x.whole h.head h.forms keeps h.stages.given;
    refilled_refers = refers_later p.symbols.now v w x.refilled
        (with_arguments h.stages.given.term (terms_of h.stages.given.us)) keeps h.stages.refilled_refers;
    last = h.stages.last;
    form_refers = refers_later p.symbols.now v w x.form h.stages.last keeps h.stages.form_refers;
    order = order_later (StandsBefore p.symbols.now v) (StandsBefore p.symbols.now w) (before_grown p.symbols.now v w keeps.pass.grows)
        (with_arguments h.stages.given.term (terms_of h.stages.given.us)) h.stages.last h.stages.order;
  };
  clauses = h.clauses;
  say = say_later stay p v w old new keeps more links h.clauses h.say;
  differences = h.differences;
}

-- what is placed by one call and then another
pub placed_through : (s : Table) (u v w : TermsView) (r : ℕ) → KeepsTerms v w → PlacesCellsOf s u.pass v.pass (IsMadeAt s v r)
    → PlacesCellsOf s v.pass w.pass (IsMadeAt s w r)
    → PlacesCellsOf s u.pass w.pass (IsMadeAt s w r)
placed_through s u v w r keeps h k =
    places_more_then s u.pass v.pass w.pass (IsMadeAt s w r) keeps.pass
    (places_more s u.pass v.pass (IsMadeAt s v r) (IsMadeAt s w r) (made_at_later s v w keeps.pass.grows r) h) k

-- references stand for one list of terms
pub refer_one : (s : Table) (v : TermsView) → IsTable s → IsOneToOne v.pass → (rs : List ℕ) (ts us : List Term) → ReferToAll s v rs ts → ReferToAll s v rs us
    → ts ≡ us
refer_one s v table one [] [] [] h k = refl
refer_one s v table one [] [] (u ∷ us) h k = absurd k
refer_one s v table one [] (t ∷ ts) us h k = absurd h
refer_one s v table one (r ∷ rs) [] us h k = absurd h
refer_one s v table one (r ∷ rs) (t ∷ ts) [] h k = absurd k
refer_one s v table one (r ∷ rs) (t ∷ ts) (u ∷ us) h k =
    ap (λ x. x ∷ ts) ((equal_where s v table one r r t u h.0 k.0).0 refl) ∙ ap (λ xs. u ∷ xs) (refer_one s v table one rs ts us h.1 k.1)

-- where there are no links, an application is that over the forms of its arguments
pub same_refilled : (p : Site) (v : TermsView) (steps : List AddedStep) (whole head : ℕ) (forms : List ℕ) (links : List Link)
    → IsGatheredFor p v steps whole head forms links → links ≡ [] → IsRefilled p.symbols.now v whole head forms whole
same_refilled p v steps whole head forms links h none = record {
  given = h.given;
  refers = subst (RefersTo p.symbols.now v whole)
      (sym (ap (λ xs. with_arguments h.given.term (terms_of xs)) (h.same none) ∙ same_arguments h.given.term)) h.given.refers;
}

pub gathered_as : (p : Site) (v : TermsView) (steps : List AddedStep) (whole head : ℕ) (forms more : List ℕ) (links others : List Link) → more ≡ forms
    → others ≡ links
    → IsGatheredFor p v steps whole head forms links → IsGatheredFor p v steps whole head more others
gathered_as p v steps whole head forms more links others d e h =
    subst (λ xs. IsGatheredFor p v steps whole head xs others) (sym d) (subst (λ xs. IsGatheredFor p v steps whole head forms xs) (sym e) h)

-- what was gathered for an application is ready for its form
module _ (stay : LinksStay) (p : Site) (v w : TermsView) (steps : List AddedStep) (table : IsTable p.symbols.now) (one : IsOneToOne w.pass)
    (keeps : KeepsTerms v w)
    (whole head : ℕ) (forms : List ℕ) (links : List Link) (h : IsGatheredFor p v steps whole head forms links) (x : Stages) (is : x.whole ≡ whole)
    (stages : AreStages p.symbols.now w head forms x) where
  one_application : h.given.term ≡ stages.given.term
  one_application =
      (equal_where p.symbols.now w table one whole whole h.given.term stages.given.term (refers_later p.symbols.now v w whole h.given.term keeps h.given.refers)
      (subst (λ r. RefersTo p.symbols.now w r stages.given.term) is stages.given.refers)).0 refl

  one_list : h.given.us ≡ stages.given.us
  one_list =
      refer_one p.symbols.now w table one forms h.given.us stages.given.us (all_refer_later p.symbols.now v w keeps forms h.given.us h.given.refer)
      stages.given.refer

  pub gathered_ready : IsReadyFor p w steps links x
  gathered_ready = record {
    head = head;
    forms = forms;
    side = record {
      sort = h.side.sort;
      term = h.side.term;
      refers = subst (λ r. RefersTo p.symbols.now w r h.side.term) (sym is) (refers_later p.symbols.now v w whole h.side.term keeps h.side.refers);
      fits = h.side.fits;
    };
    stages = stages;
    clauses = h.clauses;
    say = say_later stay p v w steps steps keeps (extends_itself steps) links h.clauses h.say;
    differences = subst (λ us. AreDifferences h.clauses (arguments_of stages.given.term) us) one_list
        (subst (λ t. AreDifferences h.clauses (arguments_of t) h.given.us) one_application h.differences);
  }

-- the form of an application, once the steps are added that say that they are equal
pub formed_of : (p : Site) (v w : TermsView) (old new : List AddedStep) (links : List Link) (x : Stages) (link : Option Link) (whole : ℕ) → x.whole ≡ whole
    → KeepsTerms v w → IsReadyFor p v old links x → IsEquatedBy p w new link x.whole x.form → IsFormedAs p w new whole (record { form = x.form; link = link })
formed_of p v w old new links x link whole is keeps h linked = subst (λ r. IsFormedAs p w new r (record { form = x.form; link = link })) is (record {
  term = h.stages.given.term;
  form = h.stages.last;
  refers = refers_later p.symbols.now v w x.whole h.stages.given.term keeps h.stages.given.refers;
  form_refers = refers_later p.symbols.now v w x.form h.stages.last keeps h.stages.form_refers;
  is = form_later p.symbols.now v w keeps.pass.grows h.stages.given.term h.stages.last
      (form_of_refilled (StandsBefore p.symbols.now v) p.symbols.now h.head h.stages.given.term
      (terms_of h.stages.given.us) h.stages.last h.stages.given.applied
      h.stages.given.are h.stages.order);
  link = linked;
})
