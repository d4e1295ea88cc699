-- Public. A proof's text that is being read, item by item: its commands stand by themselves or in one list.
use Rattle.std.specs.Prelude.{◌≡◌, ℕ, Bool, true, false, if◌then◌else◌, List, []}
use Rattle.sexpr.specs.declared.lexing.Token.{Token}
use Rattle.sexpr.specs.declared.lexing.TokenKind.TheVariants.{Close}
use Rattle.sexpr.specs.Items.{Item, Items, no_items, item, IsBracket, AreItems}
use Rattle.sexpr.specs.Tokens.{AreTokens}
use Rattle.text_items.specs.Nesting.{AreItsNodes}
use Rattle.text_items.specs.declared.nodes.Node.{Node}
use Rattle.alethe_text.specs.ProofTexts.{is_list_of_commands}

-- what stands behind the list of the commands
abbrev pub behind_list : Items → Items
behind_list no_items = no_items
behind_list (item i rest) = if is_list_of_commands i then rest else no_items

-- Behind the commands their list is closed, and these items follow; or the text is at its end.
abbrev pub IsListEnd : List ℕ → Bool → List Token → Items → Type 0
IsListEnd source false after behind = (after ≡ []) × (behind ≡ no_items)
IsListEnd source true after behind = (bracket : Token) × (rest : List Token) × IsBracket after Close bracket rest × AreItems source rest behind []

-- From this place on these items stand, inside of a list or by themselves, and those behind the list.
pub record HasCommandItems (source : List ℕ) (in_list : Bool) (at : ℕ) (items behind : Items) : Type 0 where
  pub tokens : List Token
  pub after : List Token
  pub read : AreTokens source at tokens
  pub nested : AreItems source tokens items after
  pub end : IsListEnd source in_list after behind

-- The nodes are those of the first of the items, and the others stand from this place on.
pub record IsFirst (source : List ℕ) (in_list : Bool) (nodes : List Node) (at : ℕ) (items behind : Items) : Type 0 where
  pub first : Item
  pub others : Items
  pub split : items ≡ item first others
  pub here : AreItsNodes source nodes first
  pub left : HasCommandItems source in_list at others behind

-- There was an item; or there was none, and what stands behind the list stands from this place on.
abbrev pub IsItemRead : List ℕ → Bool → List Node → ℕ → Items → Items → Bool → Type 0
IsItemRead source in_list nodes at items behind true = IsFirst source in_list nodes at items behind
IsItemRead source in_list nodes at items behind false = (items ≡ no_items) × HasCommandItems source false at behind no_items
