-- Private. Which nodes are those of an item, and of items one after another, as a relation: what reading an item owes. A list stands
-- before what is in it, and each node says where the next item after its own begins.
use Rattle.std.specs.Prelude.{◌≡◌, ℕ, ◌+◌, ◌<◌, ◌≤◌, List, length, slice_get, Some}
use Rattle.sexpr.specs.declared.lexing.TokenKind.{TokenKind}
use Rattle.sexpr.specs.declared.lexing.TokenKind.TheVariants.{Open, Text, Quoted, Word}
use Rattle.sexpr.specs.Tokens.{token_text}
use Rattle.sexpr.specs.Items.{Item, word, quoted, string, list, Items, no_items, item}
use Rattle.sexpr.specs.Spans.{IsListAt}
use Rattle.text_items.specs.declared.nodes.Node.{Node}

-- Node k is a token of this kind that begins at this place, lies in the text, and is the first of an item that ends
-- before node m.
pub record HasNode (source : List ℕ) (nodes : List Node) (k : ℕ) (kind : TokenKind) (place m : ℕ) (node : Node) : Type 0 where
  pub here : slice_get nodes k ≡ Some node
  pub same_kind : node.token.kind ≡ kind
  pub same_place : node.token.start ≡ place
  pub some : node.token.start < node.token.end
  pub within : node.token.end ≤ length source
  pub next : node.next ≡ m
  pub behind : k < m
  pub inside : m ≤ length nodes

-- Node k is an item by itself, spelled so.
pub record IsTokenNode (source : List ℕ) (nodes : List Node) (k : ℕ) (kind : TokenKind) (place : ℕ) (spelling : List ℕ) (m : ℕ) : Type 0 where
  pub node : Node
  pub has : HasNode source nodes k kind place m node
  pub alone : m ≡ k + 1
  pub spelled : token_text source node.token ≡ spelling

abbrev mutual
  -- the nodes from k on, up to m, are those of the item
  pub IsNode : List ℕ → List Node → ℕ → Item → ℕ → Type 0
  IsNode source nodes k (word place spelling) m = IsTokenNode source nodes k Word place spelling m
  IsNode source nodes k (quoted place spelling) m = IsTokenNode source nodes k Quoted place spelling m
  IsNode source nodes k (string place spelling) m = IsTokenNode source nodes k Text place spelling m
  IsNode source nodes k (list place items) m =
      (node : Node) × HasNode source nodes k Open place m node × AreNodes source nodes (k + 1) items m
      × (0 < k → IsListAt source place node.token.end items)

  -- the nodes from k on, up to m, are those of the items, one after another
  pub AreNodes : List ℕ → List Node → ℕ → Items → ℕ → Type 0
  AreNodes source nodes k no_items m = k ≡ m
  AreNodes source nodes k (item first others) m =
      (n : ℕ) × IsNode source nodes k first n × AreNodes source nodes n others m
