-- The values of a list of bindings, one by one.
use Rattle.std.proofs.Common.{◌≡◌, ℕ, suc, ◌<◌, ◌≤◌, ◌^◌, ◌⊎◌, ◌↔◌, inl, inr, max, List, [], ◌∷◌, ◌++◌, Bool, false, IsTrue, refl, sym, ◌∙◌, ap, subst, Contains, arith, append_assoc}
use Rattle.std.proofs.lemmas.List.Elements.{Contains-append_left, Contains-push, Contains-push_cases}
use Rattle.pair_pool.specs.Trees.{Tree, leaf, cell}
use Rattle.pair_pool.specs.Views.{PassView, Knows, IsOneToOne, HasPartsOfTrees}
use Rattle.term_model.proofs.Lists.{contains_none}
use Rattle.term_pool.specs.Trees.{depth}
use Rattle.term_pool.specs.Views.{IsKnownCell}
use Rattle.contexts.specs.Shapes.{HasShape, HasListShape, IsBindingList}
use Rattle.contexts.specs.FreeLeaves.{IsFreeInValues, BindsLeaf}
use Rattle.contexts.specs.Searching.{IsFine, HasFree, ArePartsOf, LeavesValues}

pub free_among : (p : PassView) (k : ℕ) (a b : List ℕ) (m n : ℕ) → ((c : ℕ) → Contains a c → Contains b c) → m ≤ n → HasFree p k a m → HasFree p k b n
free_among p k a b m n inside less h = record {
  reference = h.reference;
  here = inside h.reference h.here;
  tree = h.tree;
  known = h.known;
  free = h.free;
  less = let l = h.less in omega arith;
}

-- how far the list has been gone through
pub record IsLeaving (p : PassView) (k list rest : ℕ) (old now : List ℕ) (hidden : Bool) : Type 0 where
  pub whole : Tree
  pub whole_known : Knows p list whole
  pub left : Tree
  pub left_known : Knows p rest left
  pub left_shape : HasListShape left
  pub parts : List ℕ
  pub added : now ≡ old ++ parts
  pub each : (c : ℕ) → Contains parts c → IsFine p k (IsFreeInValues k whole) c
  pub some : IsFreeInValues k whole → HasFree p k parts (depth whole) ⊎ IsFreeInValues k left
  pub back : IsFreeInValues k left → IsFreeInValues k whole
  pub low : depth left ≤ depth whole
  pub hides_there : BindsLeaf k whole → IsTrue hidden ⊎ BindsLeaf k left
  pub hides_back : IsTrue hidden ⊎ BindsLeaf k left → BindsLeaf k whole

pub leaving_start : (p : PassView) (k list : ℕ) (old : List ℕ) → IsBindingList p list → IsLeaving p k list list old old false
leaving_start p k list old h = record {
  whole = h.tree;
  whole_known = h.known;
  left = h.tree;
  left_known = h.known;
  left_shape = h.shape;
  parts = [];
  added = nothing old;
  each = λ c i. absurd (contains_none c i);
  some = λ f. inr f;
  back = λ f. f;
  low = omega arith;
  hides_there = λ b. inr b;
  hides_back = λ b. elim b [ inl e ↦ absurd cc | inr c ↦ c ];
}
  where
    nothing : (xs : List ℕ) → xs ≡ xs ++ []
    nothing [] = refl
    nothing (x ∷ xs) = ap (λ u. x ∷ u) (nothing xs)

pub leaving_cell : (p : PassView) → HasPartsOfTrees p → (k list rest : ℕ) (old now : List ℕ) (hidden : Bool) → IsLeaving p k list rest old now hidden → 2 ^ 30 ≤ rest → IsKnownCell p rest
leaving_cell p parts k list rest old now hidden h high = go h.left h.left_known
  where
    go : (t : Tree) → Knows p rest t → IsKnownCell p rest
    go (leaf j) known = let e = parts.leaf_number rest j known in absurd (omega (arith, e.0, e.1))
    go (cell a b) known = record { first = a; second = b; stands = known }

-- a binding that the list begins with
pub record IsBinding (p : PassView) (rest binding next : ℕ) (left : Tree) : Type 0 where
  pub var : ℕ
  pub value : Tree
  pub others : Tree
  pub is : left ≡ cell (cell (leaf var) value) others
  pub binding_known : Knows p binding (cell (leaf var) value)
  pub next_known : Knows p next others
  pub value_shape : HasShape value
  pub others_shape : HasListShape others

pub leaving_binding : (p : PassView) → HasPartsOfTrees p → (rest binding next : ℕ) (left : Tree) → Knows p rest left → HasListShape left → 2 ^ 30 ≤ rest → ((s t : Tree) → Knows p rest (cell s t) → Knows p binding s) → ((s t : Tree) → Knows p rest (cell s t) → Knows p next t) → IsBinding p rest binding next left
leaving_binding p parts rest binding next (leaf j) known shape high first second = let e = parts.leaf_number rest j known in absurd (omega (arith, e.0, e.1))
leaving_binding p parts rest binding next (cell (leaf j) b) known shape high first second = absurd shape.0
leaving_binding p parts rest binding next (cell (cell (cell c d) t) b) known shape high first second = absurd shape.0
leaving_binding p parts rest binding next (cell (cell (leaf j) t) b) known shape high first second = record {
  var = j;
  value = t;
  others = b;
  is = refl;
  binding_known = first (cell (leaf j) t) b known;
  next_known = second (cell (leaf j) t) b known;
  value_shape = shape.0;
  others_shape = shape.1;
}

pub binding_cell : (p : PassView) (rest binding next : ℕ) (left : Tree) → IsBinding p rest binding next left → IsKnownCell p binding
binding_cell p rest binding next left h = record { first = leaf h.var; second = h.value; stands = h.binding_known }

same_leaf : (i j : ℕ) → leaf i ≡ leaf j → i ≡ j
same_leaf i j e = cc

pub leaving_more : (p : PassView) → HasPartsOfTrees p → (k list rest binding next var value : ℕ) (old now new : List ℕ) (hidden hides : Bool) (h : IsLeaving p k list rest old now hidden) → IsBinding p rest binding next h.left → ((s t : Tree) → Knows p binding (cell s t) → Knows p var s) → ((s t : Tree) → Knows p binding (cell s t) → Knows p value t) → new ≡ now ++ value ∷ [] → (IsTrue hides ↔ (IsTrue hidden ⊎ (var ≡ k))) → IsLeaving p k list next old new hides
leaving_more p parts k list rest binding next var value old now new hidden hides h b first second added hiding = record {
  whole = h.whole;
  whole_known = h.whole_known;
  left = b.others;
  left_known = b.next_known;
  left_shape = b.others_shape;
  parts = h.parts ++ value ∷ [];
  added = added ∙ ap (λ u. u ++ value ∷ []) h.added ∙ append_assoc old h.parts (value ∷ []);
  each = λ c i. elim (Contains-push_cases h.parts value c i) [ inl before ↦ h.each c before | inr same ↦ subst (IsFine p k (IsFreeInValues k h.whole)) same here ];
  some = λ f. later (h.some f);
  back = λ f. h.back (subst (IsFreeInValues k) (sym b.is) (inr f));
  low = let l = h.low in let e : depth h.left ≡ suc (max (suc (max 0 (depth b.value))) (depth b.others)) = ap depth b.is in omega arith;
  hides_there = λ w. there (h.hides_there w);
  hides_back = back_again;
}
  where
    value_known : Knows p value b.value
    value_known = second (leaf b.var) b.value b.binding_known

    var_is : var ≡ b.var
    var_is = (parts.leaf_number var b.var (first (leaf b.var) b.value b.binding_known)).0

    here : IsFine p k (IsFreeInValues k h.whole) value
    here = record {
      tree = b.value;
      known = value_known;
      shape = b.value_shape;
      sound = λ f. h.back (subst (IsFreeInValues k) (sym b.is) (inl f));
    }

    deep : depth b.value < depth h.whole
    deep = let l = h.low in let e : depth h.left ≡ suc (max (suc (max 0 (depth b.value))) (depth b.others)) = ap depth b.is in omega arith

    split : IsFreeInValues k (cell (cell (leaf b.var) b.value) b.others) → HasFree p k (h.parts ++ value ∷ []) (depth h.whole) ⊎ IsFreeInValues k b.others
    split (inl f) = inl (record { reference = value; here = Contains-push h.parts value; tree = b.value; known = value_known; free = f; less = deep })
    split (inr f) = inr f

    later : HasFree p k h.parts (depth h.whole) ⊎ IsFreeInValues k h.left → HasFree p k (h.parts ++ value ∷ []) (depth h.whole) ⊎ IsFreeInValues k b.others
    later (inl f) = inl (free_among p k h.parts (h.parts ++ value ∷ []) (depth h.whole) (depth h.whole) (λ c i. Contains-append_left h.parts (value ∷ []) c i) (omega arith) f)
    later (inr f) = split (subst (IsFreeInValues k) b.is f)

    bound : BindsLeaf k (cell (cell (leaf b.var) b.value) b.others) → IsTrue hides ⊎ BindsLeaf k b.others
    bound (inl e) = inl (hiding.1 (inr (var_is ∙ same_leaf b.var k e)))
    bound (inr c) = inr c

    there : IsTrue hidden ⊎ BindsLeaf k h.left → IsTrue hides ⊎ BindsLeaf k b.others
    there (inl e) = inl (hiding.1 (inl e))
    there (inr c) = bound (subst (BindsLeaf k) b.is c)

    from : IsTrue hidden ⊎ (var ≡ k) → BindsLeaf k h.whole
    from (inl e) = h.hides_back (inl e)
    from (inr e) = h.hides_back (inr (subst (BindsLeaf k) (sym b.is) (inl (ap leaf (sym var_is ∙ e)))))

    back_again : IsTrue hides ⊎ BindsLeaf k b.others → BindsLeaf k h.whole
    back_again (inl e) = from (hiding.0 e)
    back_again (inr c) = h.hides_back (inr (subst (BindsLeaf k) (sym b.is) (inr c)))

pub leaving_end : (p : PassView) → IsOneToOne p → (k list rest : ℕ) (old now : List ℕ) (hidden : Bool) → IsLeaving p k list rest old now hidden → rest < 2 ^ 30 → LeavesValues p k list old now hidden
leaving_end p one k list rest old now hidden h low = go h.left h.left_known h.some h.hides_there
  where
    go : (left : Tree) → Knows p rest left → (IsFreeInValues k h.whole → HasFree p k h.parts (depth h.whole) ⊎ IsFreeInValues k left) → (BindsLeaf k h.whole → IsTrue hidden ⊎ BindsLeaf k left) → LeavesValues p k list old now hidden
    go (cell a b) known some there = let high = one.high rest a b known in absurd (omega arith)
    go (leaf j) known some there = record {
      parts = h.parts;
      added = h.added;
      are = λ t known shape. subst (λ (u : Tree). ArePartsOf p k (IsFreeInValues k u) (depth u) h.parts) (one.one_tree list h.whole t h.whole_known known)
          (record { each = h.each; some = λ f. elim (some f) [ inl g ↦ g | inr n ↦ absurd n ] });
      hides = λ t known shape. subst (λ (u : Tree). IsTrue hidden ↔ BindsLeaf k u) (one.one_tree list h.whole t h.whole_known known)
          (λ e. h.hides_back (inl e), λ b. elim (there b) [ inl e ↦ e | inr n ↦ absurd n ]);
    }
