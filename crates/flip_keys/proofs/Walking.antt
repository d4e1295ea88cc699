-- The walk that numbers terms: the items on the way, and what is remembered.
use Rattle.std.proofs.Common.{◌≡◌, ◌≢◌, ◌⊎◌, inl, inr, ℕ, List, [], ◌∷◌, ◌++◌, Option, Some, None, refl, sym, ◌∙◌, subst, arith}
use Rattle.pair_pool.specs.Trees.{Tree}
use Rattle.pair_pool.specs.Views.{PassView, Knows, IsKnown, Grows}
use Rattle.sym_table.proofs.Lists.{AreApart-PlacesItem}
use Rattle.term_pool.proofs.Ways.{IsWay, way_start, way_unmet, way_here, way_end, way_down, way_up}
use Rattle.flip_keys.specs.declared.classes.Class.{Class}
use Rattle.flip_keys.specs.declared.memory.Item.{Item}
use Rattle.flip_keys.specs.declared.memory.Item.TheVariants.{Term, List as ListOf}
use Rattle.flip_keys.specs.declared.numbering.Keys.{Keys}
use Rattle.flip_keys.specs.declared.visiting.Visit.TheVariants as Visit
use Rattle.flip_keys.specs.KeyTables.{AreClassKeys, HasMore, Settles}
use Rattle.flip_keys.specs.Numbers.{KeepsNumbers}
use Rattle.flip_keys.specs.Walks.{item_reference, IsClassNumber, HasClassNumber, Memo, number_remembered, AreNumbers, RemembersItem, IsItemBelow, IsItemVisit}
use Rattle.flip_keys.proofs.ClassKeys.{same_item}
use Rattle.flip_keys.proofs.EqualNumbers.{term_later, list_later}
use Rattle.flip_keys.proofs.Places.{place_keeps, place_here}

-- numbers stay
number_later : (p q : PassView) (C D : List Class) → Grows p q → KeepsNumbers C D → (x : Item) (t : Tree) (k : ℕ) → IsClassNumber p C x t k → IsClassNumber q D x t k
number_later p q C D grows keeps (Term r) t k h = term_later (Knows p) (Knows q) C D grows keeps t k h
number_later p q C D grows keeps (ListOf r) t k h = list_later (Knows p) (Knows q) C D grows keeps t k h

pub has_later : (p q : PassView) (C D : List Class) → Grows p q → KeepsNumbers C D → (x : Item) (k : ℕ) → HasClassNumber p C x k → HasClassNumber q D x k
has_later p q C D grows keeps x k h = record {
  tree = h.tree;
  known = grows (item_reference x) h.tree h.known;
  number = number_later p q C D grows keeps x h.tree k h.number;
}

pub same_grows : (p : PassView) → Grows p p
same_grows p r t h = h

pub same_keeps : (C : List Class) → KeepsNumbers C C
same_keeps C k x h = h

pub are_later : (p q : PassView) (C D : List Class) → Grows p q → KeepsNumbers C D → (memo : Memo) → AreNumbers p C memo → AreNumbers q D memo
are_later p q C D grows keeps memo h x k found = has_later p q C D grows keeps x k (h x k found)

pub keys_later : (p q : PassView) (keys : Keys) → Grows p q → AreClassKeys p keys → AreClassKeys q keys
keys_later p q keys grows h = record {
  apart = h.apart;
  numbers = are_later p q keys.classes.keys keys.classes.keys grows (same_keeps keys.classes.keys) keys.memo h.numbers;
}

-- items that have been met
IsMet : Memo → Item → Type 0
IsMet memo x = (k : ℕ) × (number_remembered memo x ≡ Some k)

none_unmet : (memo : Memo) (x : Item) → number_remembered memo x ≡ None → IsMet memo x → ⊥
unfolding IsMet
none_unmet memo x e (k, f) = let g : None ≡ Some k = sym e ∙ f in absurd (cc)

unmet_none : (memo : Memo) (x : Item) → (IsMet memo x → ⊥) → number_remembered memo x ≡ None
unfolding IsMet
unmet_none memo x h = go (number_remembered memo x) refl
  where
    go : (o : Option ℕ) → number_remembered memo x ≡ o → number_remembered memo x ≡ None
    go None e = e
    go (Some k) e = absurd (h (k, e))

met_more : (old new : Memo) (at : Item) (k : ℕ) → RemembersItem old new at k → (x : Item) → IsMet new x → IsMet old x ⊎ (x ≡ at)
unfolding IsMet
met_more old new at k h x (n, e) = go (same_item x at)
  where
    go : (x ≡ at) ⊎ (x ≢ at) → ((m : ℕ) × (number_remembered old x ≡ Some m)) ⊎ (x ≡ at)
    go (inl same) = inr same
    go (inr other) = inl (n, sym (h.others x other) ∙ e)

below_further : (p : PassView) (x y z : Item) → IsItemBelow p x y → IsItemBelow p y z → IsItemBelow p x z
below_further p x y z h k = record {
  known = k.known;
  less = λ s t left right.
      let a = h.less s h.known.tree left h.known.stands in
      let b = k.less h.known.tree t h.known.stands right in
      omega (arith, a, b);
}

below_never : (p : PassView) (x : Item) → IsItemBelow p x x → ⊥
below_never p x h = let a = h.less h.known.tree h.known.tree h.known.stands h.known.stands in omega (arith, a)

-- where the walk is
pub record IsWalk (p : PassView) (memo : Memo) (root : Item) (items : List Item) : Type 0 where
  root_known : IsKnown p (item_reference root)
  way : IsWay (IsItemBelow p) (IsMet memo) root items

pub walk_known : (p : PassView) (memo : Memo) (root at : Item) (way : List Item) → IsWalk p memo root (way ++ at ∷ []) → IsKnown p (item_reference at)
walk_known p memo root at way h =
    way_here (IsItemBelow p) (λ x. IsKnown p (item_reference x)) (λ x y b. b.known) (IsMet memo) root at way h.root_known h.way

pub walk_new : (p : PassView) (memo : Memo) (root at : Item) (way : List Item) → IsWalk p memo root (way ++ at ∷ []) → number_remembered memo at ≡ None
walk_new p memo root at way h = unmet_none memo at (way_unmet (IsItemBelow p) (IsMet memo) root at way h.way)

pub walk_start : (p : PassView) (memo : Memo) (root : Item) → IsKnown p (item_reference root) → number_remembered memo root ≡ None → IsWalk p memo root (root ∷ [])
walk_start p memo root known unmet = record {
  root_known = known;
  way = way_start (IsItemBelow p) (IsMet memo) root (none_unmet memo root unmet);
}

pub walk_down : (p : PassView) (memo : Memo) (root at part : Item) (way : List Item) → IsWalk p memo root (way ++ at ∷ []) → IsItemBelow p at part → number_remembered memo part ≡ None → IsWalk p memo root ((way ++ at ∷ []) ++ part ∷ [])
walk_down p memo root at part way h k e = record {
  root_known = h.root_known;
  way = way_down (IsItemBelow p) (below_further p) (IsMet memo) root at part way h.way k (none_unmet memo part e);
}

pub walk_up : (p : PassView) (old new : Memo) (root at above : Item) (k : ℕ) (way : List Item) → IsWalk p old root ((way ++ above ∷ []) ++ at ∷ []) → RemembersItem old new at k → IsWalk p new root (way ++ above ∷ [])
walk_up p old new root at above k way h more = record {
  root_known = h.root_known;
  way = way_up (IsItemBelow p) (below_never p) (IsMet old) (IsMet new) root above at way (met_more old new at k more) h.way;
}

pub walk_end : (p : PassView) (memo : Memo) (root at : Item) (way : List Item) → way ≡ [] → IsWalk p memo root (way ++ at ∷ []) → at ≡ root
walk_end p memo root at way e h = way_end (IsItemBelow p) (IsMet memo) root at way e h.way

-- an item gets the number of its class
module _ (p : PassView) (old new : Keys) (x : Item) (class : Class) (k : ℕ) (keys : AreClassKeys p old) (visit : IsItemVisit p old.memo x (Visit.Done class)) (known : IsKnown p (item_reference x)) (settles : Settles old new x class k) where
  pub settled_more : HasMore old new
  settled_more = place_keeps old.classes.keys new.classes.keys k class settles.found

  later : AreNumbers p new.classes.keys old.memo
  later = are_later p p old.classes.keys new.classes.keys (same_grows p) settled_more old.memo keys.numbers

  pub settled_here : HasClassNumber p new.classes.keys x k
  settled_here = record {
    tree = known.tree;
    known = known.stands;
    number = visit new.classes.keys later k (place_here old.classes.keys new.classes.keys k class settles.found) known.tree known.stands;
  }

  pub settled_keys : AreClassKeys p new
  settled_keys = record {
    apart = AreApart-PlacesItem old.classes.keys new.classes.keys k class keys.apart settles.found;
    numbers = λ y n found. go y n found (same_item y x);
  }
    where
      go : (y : Item) (n : ℕ) → number_remembered new.memo y ≡ Some n → (y ≡ x) ⊎ (y ≢ x) → HasClassNumber p new.classes.keys y n
      go y n found (inr other) = later y n (sym (settles.noted.others y other) ∙ found)
      go y n found (inl same) =
          let f : Some k ≡ Some n = sym settles.noted.here ∙ subst (λ z. number_remembered new.memo z ≡ Some n) same found in
          let is : k ≡ n = cc in
          subst (λ z. HasClassNumber p new.classes.keys z n) (sym same) (subst (HasClassNumber p new.classes.keys x) is settled_here)
