-- Cited by crates above. The laws of forms over a relation: one form, and what a form has of its term.
use Rattle.std.proofs.Common.{◌≡◌, ◌⊎◌, inl, inr, refl, sym, ◌∙◌, ap, subst, arith, max, ◌+◌, List, [], ◌∷◌, Bool, true, ◌&&◌, Some}
use Rattle.term_model.specs.declared.symbols.Op.{Op}
use Rattle.term_model.specs.declared.symbols.Sort.{Sort}
use Rattle.term_model.specs.Flips.{equality, EqualUpToFlips, same, operations, calls, flipped, AllEqualUpToFlips, none, each}
use Rattle.term_model.specs.FreeVariables.{IsFree, IsFreeAmong}
use Rattle.term_model.specs.Heights.{height, highest}
use Rattle.term_model.specs.Sorts.{IsOf, AreOf, application_sort, when}
use Rattle.term_model.specs.Terms.{Var, Fun, Term, numeral, variable, operation, call, let_in, Terms, no_terms, term, sort_eq}
use Rattle.term_model.proofs.Flips.{operation_flipped}
use Rattle.flip_steps.specs.Forms.{IsAntisymmetric, HasSidesInOrder, IsFormOf, AreFormsOf}

-- an equality turned round has its sort, its free variables and its height
flip_sort : (a b : Sort) → sort_eq a b ≡ sort_eq b a
flip_sort Sort.Bool Sort.Bool = refl
flip_sort Sort.Bool Sort.Int = refl
flip_sort Sort.Bool (Sort.Declared n) = refl
flip_sort Sort.Int Sort.Bool = refl
flip_sort Sort.Int Sort.Int = refl
flip_sort Sort.Int (Sort.Declared n) = refl
flip_sort (Sort.Declared m) Sort.Bool = refl
flip_sort (Sort.Declared m) Sort.Int = refl
flip_sort (Sort.Declared m) (Sort.Declared n) = grind arith

pub turned_sort : (a b : Term) (s : Sort) → IsOf (equality a b) s → IsOf (equality b a) s
turned_sort a b s h = go h.sorts h.arguments h.is
  where
    go : (ss : List Sort) → AreOf (term a (term b no_terms)) ss → application_sort Op.Equal ss ≡ Some s → IsOf (equality b a) s
    go (x ∷ y ∷ []) have e = record {
      sorts = y ∷ x ∷ [];
      arguments = (have.1.0, (have.0, tt));
      is = subst (λ (z : Bool). when (z && true) Sort.Bool ≡ Some s) (flip_sort x y) e;
    }
    go (x ∷ y ∷ z ∷ ss) have e = absurd have.1.1
    go (x ∷ []) have e = absurd have.1
    go [] have e = absurd have

pub turned_free : (a b : Term) (x : Var) → IsFree x (equality b a) → IsFree x (equality a b)
turned_free a b x (inl h) = inr (inl h)
turned_free a b x (inr (inl h)) = inl h
turned_free a b x (inr (inr h)) = absurd h

pub turned_height : (a b : Term) → height (equality b a) ≡ height (equality a b)
unfolding height highest
turned_height a b = omega arith

module _ (before : Term → Term → Type 0) where
  -- a term with its sides in order is the term, or an equality turned round
  pub record IsTurned (v f : Term) : Type 0 where
    pub left : Term
    pub right : Term
    pub is : v ≡ equality left right
    pub turned : f ≡ equality right left

  pub order_cases : (v f : Term) → HasSidesInOrder before v f → (f ≡ v) ⊎ IsTurned v f
  order_cases (operation Op.Equal (term a (term b no_terms))) f (inl h) = inl h.1
  order_cases (operation Op.Equal (term a (term b no_terms))) f (inr h) = inr (record { left = a; right = b; is = refl; turned = h.1 })
  order_cases v f h = inl h

  one_order : IsAntisymmetric before → (v f g : Term) → HasSidesInOrder before v f → HasSidesInOrder before v g → f ≡ g
  one_order alone (operation Op.Equal (term a (term b no_terms))) f g (inl h) (inl k) = h.1 ∙ sym k.1
  one_order alone (operation Op.Equal (term a (term b no_terms))) f g (inr h) (inr k) = h.1 ∙ sym k.1
  one_order alone (operation Op.Equal (term a (term b no_terms))) f g (inl h) (inr k) =
      let e = alone a b h.0 k.0 in h.1 ∙ ap (λ x. equality a x) (sym e) ∙ ap (λ x. equality x a) e ∙ sym k.1
  one_order alone (operation Op.Equal (term a (term b no_terms))) f g (inr h) (inl k) =
      let e = alone a b k.0 h.0 in h.1 ∙ ap (λ x. equality x a) (sym e) ∙ ap (λ x. equality a x) e ∙ sym k.1
  one_order alone v f g h k = h ∙ sym k

  mutual
    pub unique_form : IsAntisymmetric before → (t f g : Term) → IsFormOf before t f → IsFormOf before t g → f ≡ g
    unique_form alone (numeral n) f g h k = h ∙ sym k
    unique_form alone (variable x) f g h k = h ∙ sym k
    unique_form alone (let_in bs t) f g h k = h ∙ sym k
    unique_form alone (call c ts) f g (us, h, e) (ws, k, d) = e ∙ ap (call c) (unique_forms alone ts us ws h k) ∙ sym d
    unique_form alone (operation op ts) f g (us, h, e) (ws, k, d) =
        one_order alone (operation op ws) f g
        (subst (λ xs. HasSidesInOrder before (operation op xs) f) (unique_forms alone ts us ws h k) e) d

    pub unique_forms : IsAntisymmetric before → (ts us ws : Terms) → AreFormsOf before ts us → AreFormsOf before ts ws → us ≡ ws
    unique_forms alone no_terms us ws h k = h ∙ sym k
    unique_forms alone (term t ts) no_terms ws h k = absurd h
    unique_forms alone (term t ts) (term u us) no_terms h k = absurd k
    unique_forms alone (term t ts) (term u us) (term w ws) h k =
        ap (λ x. term x us) (unique_form alone t u w h.0 k.0) ∙ ap (term w) (unique_forms alone ts us ws h.1 k.1)

  -- equalities of the same two terms, crosswise, have one form
  crossed_order : IsAntisymmetric before → (a b f g : Term) → HasSidesInOrder before (equality a b) f → HasSidesInOrder before (equality b a) g → f ≡ g
  crossed_order alone a b f g (inl h) (inl k) =
      let e = alone a b h.0 k.0 in h.1 ∙ ap (λ x. equality a x) (sym e) ∙ ap (λ x. equality x a) e ∙ sym k.1
  crossed_order alone a b f g (inr h) (inr k) =
      let e = alone a b k.0 h.0 in h.1 ∙ ap (λ x. equality x a) (sym e) ∙ ap (λ x. equality a x) e ∙ sym k.1
  crossed_order alone a b f g (inl h) (inr k) = h.1 ∙ sym k.1
  crossed_order alone a b f g (inr h) (inl k) = h.1 ∙ sym k.1

  crossed_forms : IsAntisymmetric before → (us ws : Terms) (f g : Term) (a b : Term) → us ≡ term a (term b no_terms) → ws ≡ term b (term a no_terms) →
      HasSidesInOrder before (operation Op.Equal us) f → HasSidesInOrder before (operation Op.Equal ws) g → f ≡ g
  crossed_forms alone us ws f g a b d e h k =
      crossed_order alone a b f g
      (subst (λ xs. HasSidesInOrder before (operation Op.Equal xs) f) d h) (subst (λ xs. HasSidesInOrder before (operation Op.Equal xs) g) e k)

  -- two terms and their forms
  record AreTwo (a b : Term) (us : Terms) : Type 0 where
    first : Term
    second : Term
    is : us ≡ term first (term second no_terms)
    first_form : IsFormOf before a first
    second_form : IsFormOf before b second

  two_forms : (a b : Term) (us : Terms) → AreFormsOf before (term a (term b no_terms)) us → AreTwo a b us
  two_forms a b no_terms h = absurd h
  two_forms a b (term u no_terms) h = absurd h.1
  two_forms a b (term u (term w ws)) h = record {
    first = u;
    second = w;
    is = ap (λ xs. term u (term w xs)) h.1.1;
    first_form = h.0;
    second_form = h.1.0;
  }

  mutual
    pub one_form : IsAntisymmetric before → (t u f g : Term) → EqualUpToFlips t u → IsFormOf before t f → IsFormOf before u g → f ≡ g
    one_form alone _ _ f g (same t) h k = unique_form alone t f g h k
    one_form alone _ _ f g (operations op ts us all) (xs, h, e) (ys, k, d) =
        one_order alone (operation op ys) f g
        (subst (λ zs. HasSidesInOrder before (operation op zs) f) (one_forms alone ts us xs ys all h k) e) d
    one_form alone _ _ f g (calls c ts us all) (xs, h, e) (ys, k, d) = e ∙ ap (call c) (one_forms alone ts us xs ys all h k) ∙ sym d
    one_form alone _ _ f g (flipped a b c d outer inner) (xs, h, e) (ys, k, i) =
        let one = two_forms a b xs h in
        let other = two_forms c d ys k in
        let first = one_form alone a d one.first other.second outer one.first_form other.second_form in
        let second = one_form alone b c one.second other.first inner one.second_form other.first_form in
        crossed_forms alone xs ys f g one.first one.second one.is
        (other.is ∙ ap (λ x. term x (term other.second no_terms)) (sym second) ∙ ap (λ x. term one.second (term x no_terms)) (sym first)) e i

    pub one_forms : IsAntisymmetric before → (ts us xs ys : Terms) → AllEqualUpToFlips ts us → AreFormsOf before ts xs → AreFormsOf before us ys → xs ≡ ys
    one_forms alone _ _ xs ys none h k = h ∙ sym k
    one_forms alone _ _ no_terms ys (each t u ts us here rest) h k = absurd h
    one_forms alone _ _ (term x xs) no_terms (each t u ts us here rest) h k = absurd k
    one_forms alone _ _ (term x xs) (term y ys) (each t u ts us here rest) h k =
        ap (λ z. term z xs) (one_form alone t u x y here h.0 k.0) ∙ ap (term y) (one_forms alone ts us xs ys rest h.1 k.1)

  -- a form is equal to its term up to flips
  argument_equal : (op : Op) (ts us : Terms) (f : Term) → AllEqualUpToFlips ts us → HasSidesInOrder before (operation op us) f
      → EqualUpToFlips (operation op ts) f
  argument_equal Op.Equal _ _ f (each a x _ _ h (each b y _ _ k none)) (inl e) =
      subst (λ z. EqualUpToFlips (equality a b) z) (sym e.1)
      (operations Op.Equal (term a (term b no_terms)) (term x (term y no_terms))
      (each a x (term b no_terms) (term y no_terms) h (each b y no_terms no_terms k none)))
  argument_equal Op.Equal _ _ f (each a x _ _ h (each b y _ _ k none)) (inr e) =
      subst (λ z. EqualUpToFlips (equality a b) z) (sym e.1) (flipped a b y x h k)
  argument_equal op ts us f all e = subst (λ z. EqualUpToFlips (operation op ts) z) (sym e) (operations op ts us all)

  mutual
    pub form_equal : (t f : Term) → IsFormOf before t f → EqualUpToFlips t f
    form_equal (numeral n) f h = subst (λ z. EqualUpToFlips (numeral n) z) (sym h) (same (numeral n))
    form_equal (variable x) f h = subst (λ z. EqualUpToFlips (variable x) z) (sym h) (same (variable x))
    form_equal (let_in bs t) f h = subst (λ z. EqualUpToFlips (let_in bs t) z) (sym h) (same (let_in bs t))
    form_equal (call c ts) f (us, h, e) = subst (λ z. EqualUpToFlips (call c ts) z) (sym e) (calls c ts us (forms_equal ts us h))
    form_equal (operation op ts) f (us, h, e) = argument_equal op ts us f (forms_equal ts us h) e

    pub forms_equal : (ts us : Terms) → AreFormsOf before ts us → AllEqualUpToFlips ts us
    forms_equal no_terms us h = subst (λ zs. AllEqualUpToFlips no_terms zs) (sym h) none
    forms_equal (term t ts) no_terms h = absurd h
    forms_equal (term t ts) (term u us) h = each t u ts us (form_equal t u h.0) (forms_equal ts us h.1)

  -- sorts
  order_sort : (v f : Term) (s : Sort) → HasSidesInOrder before v f → IsOf v s → IsOf f s
  order_sort v f s h k = go (order_cases v f h)
    where
      go : (f ≡ v) ⊎ IsTurned v f → IsOf f s
      go (inl e) = subst (λ x. IsOf x s) (sym e) k
      go (inr t) = subst (λ x. IsOf x s) (sym t.turned) (turned_sort t.left t.right s (subst (λ x. IsOf x s) t.is k))

  mutual
    pub form_sort : (t f : Term) (s : Sort) → IsFormOf before t f → IsOf t s → IsOf f s
    form_sort (numeral n) f s h k = subst (λ x. IsOf x s) (sym h) k
    form_sort (variable x) f s h k = subst (λ y. IsOf y s) (sym h) k
    form_sort (let_in bs t) f s h k = subst (λ x. IsOf x s) (sym h) k
    form_sort (call c ts) f s (us, h, e) k =
        subst (λ x. IsOf x s) (sym e) (record { sorts = k.sorts; arguments = forms_sorts ts us k.sorts h k.arguments; is = k.is })
    form_sort (operation op ts) f s (us, h, e) k =
        order_sort (operation op us) f s e (record {
          sorts = k.sorts;
          arguments = forms_sorts ts us k.sorts h k.arguments;
          is = operation_flipped op ts us k.sorts s (forms_equal ts us h) k.is;
        })

    pub forms_sorts : (ts us : Terms) (ss : List Sort) → AreFormsOf before ts us → AreOf ts ss → AreOf us ss
    forms_sorts no_terms us ss h k = subst (λ xs. AreOf xs ss) (sym h) k
    forms_sorts (term t ts) no_terms ss h k = absurd h
    forms_sorts (term t ts) (term u us) [] h k = absurd k
    forms_sorts (term t ts) (term u us) (s ∷ ss) h k = (form_sort t u s h.0 k.0, forms_sorts ts us ss h.1 k.1)

  -- free variables
  order_free : (x : Var) (v f : Term) → HasSidesInOrder before v f → IsFree x f → IsFree x v
  order_free x v f h k = go (order_cases v f h)
    where
      go : (f ≡ v) ⊎ IsTurned v f → IsFree x v
      go (inl e) = subst (λ y. IsFree x y) e k
      go (inr t) = subst (λ y. IsFree x y) (sym t.is) (turned_free t.left t.right x (subst (λ y. IsFree x y) t.turned k))

  mutual
    pub form_free : (x : Var) (t f : Term) → IsFormOf before t f → IsFree x f → IsFree x t
    form_free x (numeral n) f h k = subst (λ y. IsFree x y) h k
    form_free x (variable y) f h k = subst (λ z. IsFree x z) h k
    form_free x (let_in bs t) f h k = subst (λ y. IsFree x y) h k
    form_free x (call c ts) f (us, h, e) k = forms_free x ts us h (subst (λ y. IsFree x y) e k)
    form_free x (operation op ts) f (us, h, e) k = forms_free x ts us h (order_free x (operation op us) f e k)

    pub forms_free : (x : Var) (ts us : Terms) → AreFormsOf before ts us → IsFreeAmong x us → IsFreeAmong x ts
    forms_free x no_terms us h k = subst (λ ys. IsFreeAmong x ys) h k
    forms_free x (term t ts) no_terms h k = absurd h
    forms_free x (term t ts) (term u us) h (inl k) = inl (form_free x t u h.0 k)
    forms_free x (term t ts) (term u us) h (inr k) = inr (forms_free x ts us h.1 k)

  -- heights
  order_height : (v f : Term) → HasSidesInOrder before v f → height f ≡ height v
  order_height v f h = go (order_cases v f h)
    where
      go : (f ≡ v) ⊎ IsTurned v f → height f ≡ height v
      go (inl e) = ap height e
      go (inr t) = ap height t.turned ∙ turned_height t.left t.right ∙ ap height (sym t.is)

  call_height : (c : Fun) (ts us : Terms) → highest us ≡ highest ts → height (call c us) ≡ height (call c ts)
  unfolding height
  call_height c ts us e = ap (λ n. 1 + n) e

  operation_height : (op : Op) (ts us : Terms) → highest us ≡ highest ts → height (operation op us) ≡ height (operation op ts)
  unfolding height
  operation_height op ts us e = ap (λ n. 1 + n) e

  term_highest : (t u : Term) (ts us : Terms) → height u ≡ height t → highest us ≡ highest ts → highest (term u us) ≡ highest (term t ts)
  unfolding highest
  term_highest t u ts us d e = ap (λ n. max n (highest us)) d ∙ ap (λ n. max (height t) n) e

  mutual
    pub form_height : (t f : Term) → IsFormOf before t f → height f ≡ height t
    form_height (numeral n) f h = ap height h
    form_height (variable x) f h = ap height h
    form_height (let_in bs t) f h = ap height h
    form_height (call c ts) f (us, h, e) = ap height e ∙ call_height c ts us (forms_highest ts us h)
    form_height (operation op ts) f (us, h, e) = order_height (operation op us) f e ∙ operation_height op ts us (forms_highest ts us h)

    pub forms_highest : (ts us : Terms) → AreFormsOf before ts us → highest us ≡ highest ts
    forms_highest no_terms us h = ap highest h
    forms_highest (term t ts) no_terms h = absurd h
    forms_highest (term t ts) (term u us) h = term_highest t u ts us (form_height t u h.0) (forms_highest ts us h.1)
