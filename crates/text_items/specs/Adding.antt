-- Private. How nodes are added to those of a text.
use Rattle.std.specs.Prelude.{◌≡◌, ℕ, ◌+◌, ◌-◌, List, [], ◌∷◌, ◌++◌, length, slice_get, slice_set, Option, Some, None}
use Rattle.sexpr.specs.declared.lexing.Token.{Token}
use Rattle.sexpr.specs.declared.lexing.TokenKind.{TokenKind}
use Rattle.sexpr.specs.declared.lexing.TokenKind.TheVariants.{Open, Close, Text, Quoted, Word}
use Rattle.text_items.specs.declared.nodes.Node.{Node}

-- The nodes with one more behind them.
abbrev pub pushed : List Node → Token → ℕ → List Node
pushed nodes t next = nodes ++ record { token = t; next = next } ∷ []

-- What the node of a token of this kind says of the item after its own, and what the innermost open list is behind it:
-- its bracket is the last of the first `inner` nodes. None for a closing bracket.
abbrev pub placed : TokenKind → ℕ → ℕ → Option (ℕ × ℕ)
placed Open inner behind = Some (inner, behind)
placed Close inner behind = None
placed Text inner behind = Some (behind, inner)
placed Quoted inner behind = Some (behind, inner)
placed Word inner behind = Some (behind, inner)

-- An open list ends before node `end`, and in the text before `stop`. Until then its node said how many were open around it.
pub record IsListClosed (nodes : List Node) (k end stop : ℕ) (after : List Node) (around : ℕ) : Type 0 where
  pub node : Node
  pub here : slice_get nodes k ≡ Some node
  pub set : after ≡ slice_set nodes k (record { token = record { kind = node.token.kind; start = node.token.start; end = stop }; next = end })
  pub was : node.next ≡ around

-- The nodes after one token more of this kind. The opening bracket of the innermost open list is the last of the
-- first `inner` nodes, and of the first `now` nodes afterwards: 0 where no list is open.
abbrev pub IsAdded : List Node → ℕ → Token → TokenKind → List Node → ℕ → Type 0
IsAdded nodes inner t Open after now = (after ≡ pushed nodes t inner) × (now ≡ length nodes + 1)
IsAdded nodes inner t Close after now = IsListClosed nodes (inner - 1) (length nodes) t.end after now
IsAdded nodes inner t Text after now = (after ≡ pushed nodes t (length nodes + 1)) × (now ≡ inner)
IsAdded nodes inner t Quoted after now = (after ≡ pushed nodes t (length nodes + 1)) × (now ≡ inner)
IsAdded nodes inner t Word after now = (after ≡ pushed nodes t (length nodes + 1)) × (now ≡ inner)
