-- Which leaves a let hides.
use Rattle.std.proofs.Common.{◌≡◌, ℕ, ◌<◌, ◌≤◌, ◌^◌, ◌⊎◌, inl, inr, List, [], ◌∷◌, ◌++◌, Bool, true, false, nat_eq, Option, Some, None, if◌then◌else◌, refl, sym, ◌∙◌, ap, subst, Contains, arith, append_assoc}
use Rattle.std.specs.HashMap.{get}
use Rattle.std.specs.List.{list_any}
use Rattle.std.proofs.lemmas.List.Elements.{Contains-append_left, Contains-append_right, Contains-append_cases, Contains-push, Contains-push_cases}
use Rattle.pair_pool.specs.Trees.{Tree, leaf, cell}
use Rattle.pair_pool.specs.Views.{PassView, Knows, IsOneToOne, HasPartsOfTrees}
use Rattle.term_model.proofs.Lists.{contains_none, has_number}
use Rattle.term_pool.specs.Trees.{pair_leaves}
use Rattle.term_pool.specs.Views.{IsKnownCell}
use Rattle.contexts.specs.Becoming.{image, Images, IsImageAt, AreImages}
use Rattle.contexts.specs.FreeLeaves.{IsFreeLeaf}
use Rattle.contexts.specs.Hiding.{IsReplacedLeaf, AddsHidden, AddsFree, Hides}
use Rattle.contexts.specs.Shapes.{HasListShape, IsBindingList}
use Rattle.contexts.proofs.LeavingValues.{IsBinding}

-- the leaves of a list of bindings, as far as it has been gone through
pub record IsListing (p : PassView) (list rest : ℕ) (leaves : List ℕ) : Type 0 where
  pub whole : Tree
  pub whole_known : Knows p list whole
  pub left : Tree
  pub left_known : Knows p rest left
  pub left_shape : HasListShape left
  pub so_far : leaves ++ pair_leaves left ≡ pair_leaves whole

pub listing_start : (p : PassView) (list : ℕ) (leaves : List ℕ) → leaves ≡ [] → IsBindingList p list → IsListing p list list leaves
listing_start p list leaves e h = rw e (record {
  whole = h.tree;
  whole_known = h.known;
  left = h.tree;
  left_known = h.known;
  left_shape = h.shape;
  so_far = refl;
})

pub listing_cell : (p : PassView) → HasPartsOfTrees p → (list rest : ℕ) (leaves : List ℕ) → IsListing p list rest leaves → 2 ^ 30 ≤ rest → IsKnownCell p rest
listing_cell p parts list rest leaves h high = go h.left h.left_known
  where
    go : (t : Tree) → Knows p rest t → IsKnownCell p rest
    go (leaf j) known = let e = parts.leaf_number rest j known in absurd (omega (arith, e.0, e.1))
    go (cell a b) known = record { first = a; second = b; stands = known }

pub listing_more : (p : PassView) → HasPartsOfTrees p → (list rest binding next var number : ℕ) (old new : List ℕ) (h : IsListing p list rest old) → IsBinding p rest binding next h.left → ((s t : Tree) → Knows p binding (cell s t) → Knows p var s) → number ≡ var → new ≡ old ++ number ∷ [] → IsListing p list next new
listing_more p parts list rest binding next var number old new h b first same added = record {
  whole = h.whole;
  whole_known = h.whole_known;
  left = b.others;
  left_known = b.next_known;
  left_shape = b.others_shape;
  so_far = ap (λ u. u ++ pair_leaves b.others) (added ∙ ap (λ k. old ++ k ∷ []) (same ∙ is)) ∙ append_assoc old (b.var ∷ []) (pair_leaves b.others) ∙ ap (λ t. old ++ pair_leaves t) (sym b.is) ∙ h.so_far;
}
  where
    is : var ≡ b.var
    is = (parts.leaf_number var b.var (first (leaf b.var) b.value b.binding_known)).0

nothing_behind : (xs : List ℕ) → xs ++ [] ≡ xs
nothing_behind [] = refl
nothing_behind (x ∷ xs) = ap (λ u. x ∷ u) (nothing_behind xs)

pub listing_end : (p : PassView) → IsOneToOne p → (list rest : ℕ) (leaves : List ℕ) → IsListing p list rest leaves → rest < 2 ^ 30 → (t : Tree) → Knows p list t → leaves ≡ pair_leaves t
listing_end p one list rest leaves h low t known =
    go h.left h.left_known h.so_far ∙ ap pair_leaves (one.one_tree list h.whole t h.whole_known known)
  where
    go : (left : Tree) → Knows p rest left → leaves ++ pair_leaves left ≡ pair_leaves h.whole → leaves ≡ pair_leaves h.whole
    go (cell a b) known e = let high = one.high rest a b known in absurd (omega arith)
    go (leaf j) known e = sym (nothing_behind leaves) ∙ e

-- new ones among leaves
pub hidden_start : (images : Images) (hidden leaves none new : List ℕ) → none ≡ [] → new ≡ [] → AddsHidden images hidden none [] new
hidden_start images hidden leaves none new e f = record {
  kept = λ k i. absurd (contains_none k i);
  all = λ k i. absurd (contains_none k (subst (λ (z : List ℕ). Contains z k) e i));
  only = λ k i. absurd (contains_none k (subst (λ (z : List ℕ). Contains z k) f i));
}

pub hidden_more : (images : Images) (hidden before leaves old new : List ℕ) (k : ℕ) → AddsHidden images hidden before [] old → leaves ≡ before ++ k ∷ [] → new ≡ old ++ k ∷ [] → AddsHidden images hidden leaves [] new
hidden_more images hidden before leaves old new k h e f = rw (e, f) (record {
  kept = λ j i. absurd (contains_none j i);
  all = all;
  only = only;
})
  where
    all : (j : ℕ) → Contains (before ++ k ∷ []) j → IsReplacedLeaf images j → Contains hidden j ⊎ Contains (old ++ k ∷ []) j
    all j i is =
        elim (Contains-push_cases before k j i)
        [ inl was ↦ elim (h.all j was is) [ inl a ↦ inl a | inr b ↦ inr (Contains-append_left old (k ∷ []) j b) ] | inr same ↦ inr (subst (Contains (old ++ k ∷ [])) same (Contains-push old k)) ]

    only : (j : ℕ) → Contains (old ++ k ∷ []) j → Contains {X = ℕ} [] j ⊎ Contains (before ++ k ∷ []) j
    only j i =
        elim (Contains-push_cases old k j i)
        [ inl was ↦ elim (h.only j was) [ inl n ↦ inl n | inr b ↦ inr (Contains-append_left before (k ∷ []) j b) ] | inr same ↦ inr (subst (Contains (before ++ k ∷ [])) same (Contains-push before k)) ]

pub hidden_skip : (images : Images) (hidden before leaves now : List ℕ) (k : ℕ) → AddsHidden images hidden before [] now → leaves ≡ before ++ k ∷ [] → (IsReplacedLeaf images k → Contains hidden k) → AddsHidden images hidden leaves [] now
hidden_skip images hidden before leaves now k h e skip = rw e (record {
  kept = λ j i. absurd (contains_none j i);
  all = λ j i is. elim (Contains-push_cases before k j i) [ inl was ↦ h.all j was is | inr same ↦ inl (subst (Contains hidden) same (skip (subst (IsReplacedLeaf images) (sym same) is))) ];
  only = λ j i. elim (h.only j i) [ inl n ↦ inl n | inr b ↦ inr (Contains-append_left before (k ∷ []) j b) ];
})

-- those that stand free
pub free_start : (p : PassView) (none : List ℕ) (r : ℕ) (old : List ℕ) → none ≡ [] → AddsFree p none r old old
free_start p none r old e = record {
  kept = λ k i. i;
  all = λ t known k i. absurd (contains_none k (subst (λ (z : List ℕ). Contains z k) e i));
  only = λ k i. inl i;
}

pub free_more : (p : PassView) (before leaves : List ℕ) (r : ℕ) (old now new : List ℕ) (k : ℕ) → AddsFree p before r old now → leaves ≡ before ++ k ∷ [] → new ≡ now ++ k ∷ [] → AddsFree p leaves r old new
free_more p before leaves r old now new k h e f = rw (e, f) (record {
  kept = λ j i. Contains-append_left now (k ∷ []) j (h.kept j i);
  all = λ t known j i is. elim (Contains-push_cases before k j i) [ inl was ↦ Contains-append_left now (k ∷ []) j (h.all t known j was is) | inr same ↦ subst (Contains (now ++ k ∷ [])) same (Contains-push now k) ];
  only = only;
})
  where
    only : (j : ℕ) → Contains (now ++ k ∷ []) j → Contains old j ⊎ Contains (before ++ k ∷ []) j
    only j i =
        elim (Contains-push_cases now k j i)
        [ inl was ↦ elim (h.only j was) [ inl n ↦ inl n | inr b ↦ inr (Contains-append_left before (k ∷ []) j b) ] | inr same ↦ inr (subst (Contains (before ++ k ∷ [])) same (Contains-push before k)) ]

pub free_skip : (p : PassView) (before leaves : List ℕ) (r : ℕ) (old now : List ℕ) (k : ℕ) → AddsFree p before r old now → leaves ≡ before ++ k ∷ [] → ((t : Tree) → Knows p r t → ¬ IsFreeLeaf k t) → AddsFree p leaves r old now
free_skip p before leaves r old now k h e never = rw e (record {
  kept = h.kept;
  all = λ t known j i is. elim (Contains-push_cases before k j i) [ inl was ↦ h.all t known j was is | inr same ↦ absurd (never t known (subst (λ l. IsFreeLeaf l t) (sym same) is)) ];
  only = λ j i. elim (h.only j i) [ inl n ↦ inl n | inr b ↦ inr (Contains-append_left before (k ∷ []) j b) ];
})

-- what matters below the let
image_agrees : (p : PassView) (images : Images) (f : ℕ → Tree) → AreImages p images f → (under all : List ℕ) (k : ℕ) → (Contains under k → Contains all k) → (Contains all k → IsReplacedLeaf images k → Contains under k) → image f under k ≡ image f all k
image_agrees p images f are under all k there back =
    go (list_any (nat_eq k) under) (list_any (nat_eq k) all) (get nat_eq images k) refl (are k)
    (λ e. (has_number all k).1 (there ((has_number under k).0 e)))
    (λ e is. (has_number under k).1 (back ((has_number all k).0 e) is))
  where
    go : (a b : Bool) (o : Option ℕ) → get nat_eq images k ≡ o → IsImageAt p o k (f k) → (a ≡ true → b ≡ true) → (b ≡ true → IsReplacedLeaf images k → a ≡ true) → (if a then leaf k else f k) ≡ (if b then leaf k else f k)
    go true true o e at h g = refl
    go true false o e at h g = absurd (let x = h refl in cc)
    go false false o e at h g = refl
    go false true None e at h g = at
    go false true (Some r) e at h g = absurd (let x = g refl (r, e) in cc)

pub hides_same : (p : PassView) (images : Images) (hidden leaves new : List ℕ) (list body : ℕ) → new ≡ [] → AddsHidden images hidden leaves [] new → ((t : Tree) → Knows p list t → HasListShape t → leaves ≡ pair_leaves t) → Hides p images hidden list body hidden
hides_same p images hidden leaves new list body e h are f images_are t u known shape known_u k free =
    image_agrees p images f images_are hidden (hidden ++ pair_leaves t) k
    (λ i. Contains-append_left hidden (pair_leaves t) k i)
    (λ i is. elim (Contains-append_cases hidden (pair_leaves t) k i) [ inl a ↦ a | inr b ↦ back (h.all k (subst (λ (z : List ℕ). Contains z k) (sym (are t known shape)) b) is) ])
  where
    back : Contains hidden k ⊎ Contains new k → Contains hidden k
    back (inl a) = a
    back (inr b) = absurd (contains_none k (subst (λ (z : List ℕ). Contains z k) e b))

pub hides_under : (p : PassView) (images : Images) (hidden leaves new first second under : List ℕ) (list body : ℕ) → AddsHidden images hidden leaves [] new → ((t : Tree) → Knows p list t → HasListShape t → leaves ≡ pair_leaves t) → AddsFree p hidden body [] first → AddsFree p new body first second → ((k : ℕ) → Contains second k → Contains under k) → ((k : ℕ) → Contains under k → Contains second k) → Hides p images hidden list body under
hides_under p images hidden leaves new first second under list body h are one two into from f images_are t u known shape known_u k free =
    image_agrees p images f images_are under (hidden ++ pair_leaves t) k there back
  where
    listed : Contains leaves k → Contains (pair_leaves t) k
    listed i = subst (λ (z : List ℕ). Contains z k) (are t known shape) i

    of_new : Contains {X = ℕ} [] k ⊎ Contains leaves k → Contains (hidden ++ pair_leaves t) k
    of_new (inl n) = absurd (contains_none k n)
    of_new (inr b) = Contains-append_right hidden (pair_leaves t) k (listed b)

    of_first : Contains {X = ℕ} [] k ⊎ Contains hidden k → Contains (hidden ++ pair_leaves t) k
    of_first (inl n) = absurd (contains_none k n)
    of_first (inr b) = Contains-append_left hidden (pair_leaves t) k b

    there : Contains under k → Contains (hidden ++ pair_leaves t) k
    there i = elim (two.only k (from k i)) [ inl a ↦ of_first (one.only k a) | inr b ↦ of_new (h.only k b) ]

    was : Contains hidden k → Contains under k
    was i = into k (two.kept k (one.all u known_u k i free))

    is_new : Contains hidden k ⊎ Contains new k → Contains under k
    is_new (inl a) = was a
    is_new (inr b) = into k (two.all u known_u k b free)

    back : Contains (hidden ++ pair_leaves t) k → IsReplacedLeaf images k → Contains under k
    back i is =
        elim (Contains-append_cases hidden (pair_leaves t) k i)
        [ inl a ↦ was a | inr b ↦ is_new (h.all k (subst (λ (z : List ℕ). Contains z k) (sym (are t known shape)) b) is) ]

pub hides_at : (p : PassView) (images : Images) (hidden under found : List ℕ) (list body : ℕ) → found ≡ under → Hides p images hidden list body under → Hides p images hidden list body found
hides_at p images hidden under found list body e h = subst (Hides p images hidden list body) (sym e) h
