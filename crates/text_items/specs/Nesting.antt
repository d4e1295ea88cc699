-- Public. What the nodes of a text's item always keep, each for itself.
use Rattle.std.specs.Prelude.{◌≡◌, ℕ, ◌+◌, ◌<◌, ◌≤◌, List, length, slice_get, Some}
use Rattle.sexpr.specs.declared.lexing.TokenKind.TheVariants.{Open, Close}
use Rattle.sexpr.specs.Items.{Item}
use Rattle.text_items.specs.declared.nodes.Node.{Node}
use Rattle.sexpr.specs.Spans.{IsListAt}
use Rattle.text_items.specs.ItemsAt.{end_in, item_at, items_at}

-- The node's token has a byte, lies in the text and begins an item, which ends behind the node, at the end of the nodes at most;
-- right behind it where it is no list. What begins in it ends in it. The token of a list in another one goes to its closing bracket.
pub record IsNested (source : List ℕ) (nodes : List Node) (k : ℕ) (node : Node) : Type 0 where
  pub some : node.token.start < node.token.end
  pub within : node.token.end ≤ length source
  pub begins : node.token.kind ≡ Close → ⊥
  pub behind : k < node.next
  pub inside : node.next ≤ length nodes
  pub alone : (node.token.kind ≡ Open → ⊥) → node.next ≡ k + 1
  pub nested : (j : ℕ) → k < j → j < node.next → end_in nodes j ≤ node.next
  pub list_here : 0 < k → node.token.kind ≡ Open
      → IsListAt source node.token.start node.token.end (items_at (record { source = source; nodes = nodes }) (k + 1) node.next)

abbrev pub AreNested : List ℕ → List Node → Type 0
AreNested source nodes = (k : ℕ) (node : Node) → slice_get nodes k ≡ Some node → IsNested source nodes k node

-- all the nodes are those of this item
pub record AreItsNodes (source : List ℕ) (nodes : List Node) (i : Item) : Type 0 where
  pub nested : AreNested source nodes
  pub some : 0 < length nodes
  pub item : item_at (record { source = source; nodes = nodes }) 0 ≡ i
  pub whole : end_in nodes 0 ≡ length nodes
