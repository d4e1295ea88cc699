-- Cited by crates above. The item at a node, and items one after another.
use Rattle.std.proofs.Common.{◌≡◌, ℕ, zero, suc, ◌+◌, ◌-◌, ◌*◌, ◌<◌, ◌≤◌, arith, Bool, true, false, List, length, slice_get, Option, Some, None, refl, sym, ap, ◌∙◌}
use Rattle.std.specs.Prelude.{nat_lt, if◌then◌else◌}
use Rattle.std.proofs.lemmas.Bool.Decides.{nat_tests}
use Rattle.sexpr.specs.Items.{Item, Items, no_items, item}
use Rattle.text_items.specs.declared.nodes.Node.{Node}
use Rattle.text_items.specs.Stepping.{EndBy, IsItemNode}
use Rattle.text_items.specs.ItemsAt.{ItemsView, end_by, end_in, item_of_node, item_by, items_by, end_at, item_at, items_at}

-- an item ends behind its first node
pub ends_behind : (items : ItemsView) (k : ℕ) → k < end_at items k
ends_behind items k = go (slice_get items.nodes k)
  where
    go : (o : Option Node) → k < end_by (length items.nodes) k o
    go None = omega arith
    go (Some node) = omega arith

pub ends_inside : (items : ItemsView) (k : ℕ) → k < length items.nodes → end_at items k ≤ length items.nodes
ends_inside items k less = go (slice_get items.nodes k)
  where
    go : (o : Option Node) → end_by (length items.nodes) k o ≤ length items.nodes
    go None = omega arith
    go (Some node) = omega arith

module _ (source : List ℕ) (nodes : List Node) where
  abbrev view : ItemsView
  view = record { source = source; nodes = nodes }

  ends_later : (k : ℕ) → k < end_in nodes k
  ends_later k = ends_behind view k

  -- more steps than are needed change nothing
  mutual
    unfolding item_by items_by

    same_item : (f g k : ℕ) → k < length nodes → 2 * (length nodes - k) < f → 2 * (length nodes - k) < g → item_by source nodes f k ≡ item_by source nodes g k
    same_item zero g k inside few more = absurd (omega arith)
    same_item (suc f) zero k inside few more = absurd (omega arith)
    same_item (suc f) (suc g) k inside few more =
        ap (item_of_node source (slice_get nodes k)) (same_items f g (k + 1) (end_in nodes k) (ends_inside view k inside) (omega arith) (omega arith))

    same_items : (f g k m : ℕ) → m ≤ length nodes → 2 * (length nodes - k) + 1 < f → 2 * (length nodes - k) + 1 < g → items_by source nodes f k m ≡ items_by source nodes g k m
    same_items zero g k m inside few more = absurd (omega arith)
    same_items (suc f) zero k m inside few more = absurd (omega arith)
    same_items (suc f) (suc g) k m inside few more =
        go (nat_lt k m) refl (λ less. same_item f g k (omega arith) (omega arith) (omega arith))
        (λ less. let later = ends_later k in same_items f g (end_in nodes k) m inside (omega arith) (omega arith))
      where
        go : (b : Bool) → nat_lt k m ≡ b → (k < m → item_by source nodes f k ≡ item_by source nodes g k) → (k < m → items_by source nodes f (end_in nodes k) m ≡ items_by source nodes g (end_in nodes k) m)
            → (if b then item (item_by source nodes f k) (items_by source nodes f (end_in nodes k) m) else no_items)
            ≡ (if b then item (item_by source nodes g k) (items_by source nodes g (end_in nodes k) m) else no_items)
        go true e first others =
            let less : k < m = grind (arith, nat_tests) in
            ap (λ (i : Item). item i (items_by source nodes f (end_in nodes k) m)) (first less) ∙ ap (item (item_by source nodes g k)) (others less)
        go false e first others = refl

  item_by_parts : (k : ℕ) → k < length nodes → item_at view k ≡ item_of_node source (slice_get nodes k) (items_at view (k + 1) (end_in nodes k))
  unfolding item_by item_at items_at
  item_by_parts k inside =
      ap (item_of_node source (slice_get nodes k))
      (same_items (2 * (length nodes - k)) (suc (suc (2 * (length nodes - (k + 1))))) (k + 1) (end_in nodes k) (ends_inside view k inside) (omega arith) (omega arith))

  items_by_parts : (k m : ℕ) → k < m → m ≤ length nodes → items_at view k m ≡ item (item_at view k) (items_at view (end_in nodes k) m)
  unfolding items_by item_at items_at
  items_by_parts k m less inside =
      let later = ends_later k in
      let is : nat_lt k m ≡ true = grind (arith, nat_tests) in
      ap (λ b. if b then item (item_by source nodes (suc (2 * (length nodes - k))) k) (items_by source nodes (suc (2 * (length nodes - k))) (end_in nodes k) m) else no_items) is
      ∙ ap (item (item_by source nodes (suc (2 * (length nodes - k))) k))
      (same_items (suc (2 * (length nodes - k))) (suc (suc (2 * (length nodes - end_in nodes k)))) (end_in nodes k) m inside (omega arith) (omega arith))

-- the item at a node, by its node and what stands in it
pub item_is : (items : ItemsView) (k : ℕ) → k < length items.nodes → item_at items k ≡ item_of_node items.source (slice_get items.nodes k) (items_at items (k + 1) (end_at items k))
item_is items k inside = item_by_parts items.source items.nodes k inside

-- the first of the items, and the others
pub items_are : (items : ItemsView) (k m : ℕ) → k < m → m ≤ length items.nodes → items_at items k m ≡ item (item_at items k) (items_at items (end_at items k) m)
items_are items k m less inside = items_by_parts items.source items.nodes k m less inside

pub no_items_are : (items : ItemsView) (k m : ℕ) → m ≤ k → items_at items k m ≡ no_items
unfolding items_by items_at
no_items_are items k m less =
    let is : nat_lt k m ≡ false = grind (arith, nat_tests) in
    ap (λ b. if b then item (item_by items.source items.nodes (suc (2 * (length items.nodes - k))) k) (items_by items.source items.nodes (suc (2 * (length items.nodes - k))) (end_in items.nodes k) m) else no_items) is

module _ (items : ItemsView) (k m : ℕ) (node : Node) (read : IsItemNode items k node) (less : k < m) (inside : m ≤ length items.nodes) where
  -- the items from a node on: the one there, whose node was read, and the others
  pub first_and_others : items_at items k m ≡ item (item_at items k) (items_at items node.next m)
  first_and_others = items_are items k m less inside ∙ ap (λ n. item (item_at items k) (items_at items n m)) (sym read.next)

  -- what is told of the items from the first one
  pub told_on : {A : Type 0} (value : Items → A) (whole : A) → whole ≡ value (items_at items k m) → whole ≡ value (item (item_at items k) (items_at items node.next m))
  told_on value whole h = h ∙ ap value first_and_others

-- and where none is left
pub told_at_end : {A : Type 0} (items : ItemsView) (k m : ℕ) (value : Items → A) (whole : A) → whole ≡ value (items_at items k m) → m ≤ k → value no_items ≡ whole
told_at_end items k m value whole h none = sym (h ∙ ap value (no_items_are items k m none))

-- behind the first of some items the others end there too
pub end_by_rest : (items : ItemsView) (k n m : ℕ) → EndBy items k m → k ≤ n → EndBy items n m
end_by_rest items k n m h later = λ j low high. h j (omega arith) high

-- no item ends behind the nodes
pub end_by_all : (items : ItemsView) (k : ℕ) → EndBy items k (length items.nodes)
end_by_all items k = λ j low high. ends_inside items j high
