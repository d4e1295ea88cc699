-- The walk that numbers terms: the items on the way, and what has been met.
use Rattle.std.proofs.Common.{◌≡◌, ◌≢◌, ◌⊎◌, inl, inr, ℕ, Bool, true, false, List, [], ◌∷◌, ◌++◌, Option, Some, None, refl, sym, ap, ◌∙◌, Decides, arith}
use Rattle.std.proofs.lemmas.Bool.Decides.{Decides-eqb}
use Rattle.std.specs.List.{AllByRecursion}
use Rattle.pair_pool.specs.Trees.{Tree}
use Rattle.pair_pool.specs.Views.{Knows}
use Rattle.sym_table.specs.Table.{Table}
use Rattle.term_model.specs.Terms.{Terms}
use Rattle.term_pool.specs.Views.{TermsView}
use Rattle.term_pool.proofs.Ways.{IsWay, Descends, way_start, way_unmet, way_here, way_end, way_down, way_up}
use Rattle.linear_forms.specs.contracts.memory.ItemPartialEq.TheImpl as items
use Rattle.linear_forms.specs.declared.memory.Item.{Item}
use Rattle.linear_forms.specs.declared.memory.Memo.{Memo}
use Rattle.linear_forms.specs.declared.memory.Item.TheVariants.{Term as TermItem, List as ListItem}
use Rattle.linear_forms.specs.Graphs.{item_reference, IsItemMeant, IsItem, IsItemBelow}
use Rattle.linear_forms.specs.Memos.{number_remembered, RemembersItem}

pub decides_item : (x y : Item) → Decides ((items.ghosts).eq x y) (x ≡ y)
decides_item (TermItem a) (TermItem c) = (λ h. ap TermItem ((Decides-eqb a c).0 h), λ h. (Decides-eqb a c).1 (cc))
decides_item (ListItem a) (ListItem c) = (λ h. ap ListItem ((Decides-eqb a c).0 h), λ h. (Decides-eqb a c).1 (cc))
decides_item (TermItem a) (ListItem c) = (λ h. cc, λ h. cc)
decides_item (ListItem a) (TermItem c) = (λ h. cc, λ h. cc)

pub same_item : (x y : Item) → (x ≡ y) ⊎ (x ≢ y)
same_item x y = go ((items.ghosts).eq x y) (decides_item x y)
  where
    go : (b : Bool) → Decides b (x ≡ y) → (x ≡ y) ⊎ (x ≢ y)
    go true d = inl (d.0 refl)
    go false d = inr (λ e. absurd (let f = d.1 e in cc))

-- items that have been met
IsRecalled : Memo → Item → Type 0
IsRecalled memo x = (k : ℕ) × (number_remembered memo x ≡ Some k)

none_unmet : (memo : Memo) (x : Item) → number_remembered memo x ≡ None → IsRecalled memo x → ⊥
unfolding IsRecalled
none_unmet memo x e (k, f) = let g : None ≡ Some k = sym e ∙ f in absurd (cc)

unmet_none : (memo : Memo) (x : Item) → (IsRecalled memo x → ⊥) → number_remembered memo x ≡ None
unfolding IsRecalled
unmet_none memo x h = go (number_remembered memo x) refl
  where
    go : (o : Option ℕ) → number_remembered memo x ≡ o → number_remembered memo x ≡ None
    go None e = e
    go (Some k) e = absurd (h (k, e))

met_more : (old new : Memo) (at : Item) (k : ℕ) → RemembersItem old new at k → (x : Item) → IsRecalled new x → IsRecalled old x ⊎ (x ≡ at)
unfolding IsRecalled
met_more old new at k h x (n, e) = go (same_item x at)
  where
    go : (x ≡ at) ⊎ (x ≢ at) → ((m : ℕ) × (number_remembered old x ≡ Some m)) ⊎ (x ≡ at)
    go (inl same) = inr same
    go (inr other) = inl (n, sym (h.others x other) ∙ e)

last_of : (P : Item → Type 0) (xs : List Item) (at : Item) → AllByRecursion P (xs ++ at ∷ []) → P at
last_of P [] at h = h.0
last_of P (x ∷ xs) at h = last_of P xs at h.1

module _ (s : Table) (v : TermsView) where
  -- an item has a tree
  record HasTree (x : Item) : Type 0 where
    tree : Tree
    known : Knows v.pass (item_reference x) tree

  item_tree : (x : Item) (ts : Terms) → IsItemMeant s v x ts → HasTree x
  item_tree (TermItem r) ts h = record { tree = h.refers.tree; known = h.refers.known }
  item_tree (ListItem r) ts h = record { tree = h.tree; known = h.known }

  below_further : (x y z : Item) → IsItemBelow s v x y → IsItemBelow s v y z → IsItemBelow s v x z
  below_further x y z h k =
      let middle = item_tree y h.item.terms h.item.meant in
      record {
        item = k.item;
        less = λ a b left right.
            let one = h.less a middle.tree left middle.known in
            let other = k.less middle.tree b middle.known right in
            omega (arith, one, other);
      }

  below_never : (x : Item) → IsItemBelow s v x x → ⊥
  below_never x h =
      let own = item_tree x h.item.terms h.item.meant in
      let e = h.less own.tree own.tree own.known own.known in
      omega (arith, e)

  -- where the walk is
  pub record IsWalk (memo : Memo) (root : Item) (items : List Item) : Type 0 where
    root_item : IsItem s v root
    way : IsWay (IsItemBelow s v) (IsRecalled memo) root items

  pub walk_item : (memo : Memo) (root at : Item) (way : List Item) → IsWalk memo root (way ++ at ∷ []) → IsItem s v at
  walk_item memo root at way h = way_here (IsItemBelow s v) (IsItem s v) (λ x y b. b.item) (IsRecalled memo) root at way h.root_item h.way

  pub walk_new : (memo : Memo) (root at : Item) (way : List Item) → IsWalk memo root (way ++ at ∷ []) → number_remembered memo at ≡ None
  walk_new memo root at way h = unmet_none memo at (way_unmet (IsItemBelow s v) (IsRecalled memo) root at way h.way)

  pub walk_start : (memo : Memo) (root : Item) → IsItem s v root → number_remembered memo root ≡ None → IsWalk memo root (root ∷ [])
  walk_start memo root item unmet = record {
    root_item = item;
    way = way_start (IsItemBelow s v) (IsRecalled memo) root (none_unmet memo root unmet);
  }

  pub walk_down : (memo : Memo) (root at part : Item) (way : List Item) → IsWalk memo root (way ++ at ∷ []) → IsItemBelow s v at part → number_remembered memo part ≡ None → IsWalk memo root ((way ++ at ∷ []) ++ part ∷ [])
  walk_down memo root at part way h k e = record {
    root_item = h.root_item;
    way = way_down (IsItemBelow s v) below_further (IsRecalled memo) root at part way h.way k (none_unmet memo part e);
  }

  pub walk_up : (old new : Memo) (root at above : Item) (k : ℕ) (way : List Item) → IsWalk old root ((way ++ above ∷ []) ++ at ∷ []) → RemembersItem old new at k → IsWalk new root (way ++ above ∷ [])
  walk_up old new root at above k way h more = record {
    root_item = h.root_item;
    way = way_up (IsItemBelow s v) below_never (IsRecalled old) (IsRecalled new) root above at way (met_more old new at k more) h.way;
  }

  unmet_kept : (Old New : Item → Type 0) (xs : List Item) (at : Item) → ((x : Item) → New x → Old x ⊎ IsItemBelow s v at x) → Descends (IsItemBelow s v) (xs ++ at ∷ []) → AllByRecursion (λ x. Old x → ⊥) (xs ++ at ∷ []) → AllByRecursion (λ x. New x → ⊥) (xs ++ at ∷ [])
  unmet_kept Old New [] at more h k = ((λ met. elim (more at met) [ inl before ↦ k.0 before | inr under ↦ below_never at under ]), tt)
  unmet_kept Old New (x ∷ xs) at more h k = (
    λ met. elim (more x met) [ inl before ↦ k.0 before | inr under ↦ below_never x (below_further x at x (last_of (IsItemBelow s v x) xs at h.0) under) ],
    unmet_kept Old New xs at more h.1 k.1,
  )

  -- more is met below where the walk is
  pub walk_on : (old new : Memo) (root at : Item) (way : List Item) → ((y : Item) → (number_remembered new y ≡ number_remembered old y) ⊎ IsItemBelow s v at y) → IsWalk old root (way ++ at ∷ []) → IsWalk new root (way ++ at ∷ [])
  unfolding IsRecalled
  walk_on old new root at way more h = record {
    root_item = h.root_item;
    way = record {
      descends = h.way.descends;
      unmet = unmet_kept (IsRecalled old) (IsRecalled new) way at recalled h.way.descends h.way.unmet;
      starts = h.way.starts;
    };
  }
    where
      recalled : (x : Item) → IsRecalled new x → IsRecalled old x ⊎ IsItemBelow s v at x
      recalled x (k, e) = elim (more x) [ inl same ↦ inl (k, sym same ∙ e) | inr under ↦ inr under ]

  pub walk_end : (memo : Memo) (root at : Item) (way : List Item) → way ≡ [] → IsWalk memo root (way ++ at ∷ []) → at ≡ root
  walk_end memo root at way e h = way_end (IsItemBelow s v) (IsRecalled memo) root at way e h.way
