-- Public. The item at a node, and the items of a range of nodes. A list stands before what is in it, and each node says where
-- the next item after its own begins.
use Rattle.std.specs.Prelude.{ℕ, zero, suc, ◌+◌, ◌-◌, ◌*◌, max, min, nat_lt, if◌then◌else◌, List, length, slice_get, Option, Some, None}
use Rattle.sexpr.specs.declared.lexing.TokenKind.{TokenKind}
use Rattle.sexpr.specs.declared.lexing.TokenKind.TheVariants.{Open, Close, Text, Quoted, Word}
use Rattle.sexpr.specs.Tokens.{token_text}
use Rattle.sexpr.specs.Items.{Item, word, quoted, string, list, Items, no_items, item}
use Rattle.text_items.specs.declared.nodes.Node.{Node}

-- a text, and the nodes of an item of it
pub record ItemsView : Type 0 where
  pub source : List ℕ
  pub nodes : List Node

-- Where the item at node k ends, of so many nodes: where its node says, but behind the node and at the end of the nodes at most.
abbrev pub end_by : ℕ → ℕ → Option Node → ℕ
end_by last k None = k + 1
end_by last k (Some node) = max (k + 1) (min node.next last)

abbrev pub end_in : List Node → ℕ → ℕ
end_in nodes k = end_by (length nodes) k (slice_get nodes k)

-- the item that begins with a token of this kind, at this place, spelled so; in a list these items stand
abbrev pub item_of_token : TokenKind → ℕ → List ℕ → Items → Item
item_of_token Word place spelling inside = word place spelling
item_of_token Quoted place spelling inside = quoted place spelling
item_of_token Text place spelling inside = string place spelling
item_of_token Open place spelling inside = list place inside
item_of_token Close place spelling inside = list place inside

abbrev pub item_of_node : List ℕ → Option Node → Items → Item
item_of_node source None inside = list 0 no_items
item_of_node source (Some node) inside = item_of_token node.token.kind node.token.start (token_text source node.token) inside

-- By recursion on a bound of the steps, which is as large as it has to be below.
unfoldable mutual
  pub item_by : List ℕ → List Node → ℕ → ℕ → Item
  item_by source nodes zero k = list 0 no_items
  item_by source nodes (suc steps) k = item_of_node source (slice_get nodes k) (items_by source nodes steps (k + 1) (end_in nodes k))

  pub items_by : List ℕ → List Node → ℕ → ℕ → ℕ → Items
  items_by source nodes zero k m = no_items
  items_by source nodes (suc steps) k m =
      if nat_lt k m then item (item_by source nodes steps k) (items_by source nodes steps (end_in nodes k) m) else no_items

-- where the item at node k ends
abbrev pub end_at : ItemsView → ℕ → ℕ
end_at items k = end_in items.nodes k

-- the item at node k
unfoldable pub item_at : ItemsView → ℕ → Item
item_at items k = item_by items.source items.nodes (suc (2 * (length items.nodes - k))) k

-- the items from node k on, to before node m
unfoldable pub items_at : ItemsView → ℕ → ℕ → Items
items_at items k m = items_by items.source items.nodes (suc (suc (2 * (length items.nodes - k)))) k m
