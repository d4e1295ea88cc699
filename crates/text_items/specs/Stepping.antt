-- Public. Items where nodes stand, one after another.
use Rattle.std.specs.Prelude.{◌≡◌, ℕ, ◌+◌, ◌<◌, ◌≤◌, if◌then◌else◌, List, length, slice_range, Bool, true, false, Option, Some, None, Result, Ok, Err}
use Rattle.sexpr.specs.declared.causes.Cause.TheVariants.{BadCommand}
use Rattle.sexpr.specs.declared.causes.Refusal.{Refusal}
use Rattle.sexpr.specs.declared.lexing.TokenKind.{TokenKind}
use Rattle.sexpr.specs.declared.lexing.TokenKind.TheVariants.{Open, Text, Quoted, Word}
use Rattle.sexpr.specs.Tokens.{token_text}
use Rattle.sexpr.specs.Words.{is_symbol}
use Rattle.sexpr.specs.Items.{Item, word, quoted, string, list, Items, no_items, item, place_of}
use Rattle.sexpr.specs.Spans.{IsListAt}
use Rattle.text_items.specs.declared.nodes.Node.{Node}
use Rattle.text_items.specs.ItemShapes.{Name, name_at, symbol_fault, items_of}
use Rattle.text_items.specs.ItemsAt.{ItemsView, end_at, item_at, items_at}
use Rattle.text_items.specs.Spelling.{is_list_item}

-- a token of this kind and spelling begins the item
abbrev pub BeginsItem : TokenKind → List ℕ → Item → Type 0
BeginsItem kind spelling (word place s) = (kind ≡ Word) × (spelling ≡ s)
BeginsItem kind spelling (quoted place s) = (kind ≡ Quoted) × (spelling ≡ s)
BeginsItem kind spelling (string place s) = (kind ≡ Text) × (spelling ≡ s)
BeginsItem kind spelling (list place items) = kind ≡ Open

-- what begins from node k on, to before node m, ends there at the latest
abbrev pub EndBy : ItemsView → ℕ → ℕ → Type 0
EndBy items k m = (j : ℕ) → k ≤ j → j < m → end_at items j ≤ m

-- What begins in an item ends where it does, or before; and what is no list is one node.
pub record AreInside (items : ItemsView) : Type 0 where
  pub ends : (k j : ℕ) → k < j → j < end_at items k → end_at items j ≤ end_at items k
  pub alone : (k : ℕ) → k < length items.nodes → is_list_item (item_at items k) ≡ false → end_at items k ≡ k + 1

-- A list stands at the node, in these bytes.
pub record IsListThere (items : ItemsView) (k : ℕ) (bytes : List ℕ) : Type 0 where
  pub at : ℕ
  pub end : ℕ
  pub inside : Items
  pub there : IsListAt items.source at end inside
  pub same : slice_range items.source at end ≡ bytes
  pub is : item_at items k ≡ list at inside

-- The node is the first of the item at k.
pub record IsItemNode (items : ItemsView) (k : ℕ) (node : Node) : Type 0 where
  pub next : node.next ≡ end_at items k
  pub behind : k < node.next
  pub inside : node.next ≤ length items.nodes
  pub start : node.token.start ≡ place_of (item_at items k)
  pub some : node.token.start < node.token.end
  pub within : node.token.end ≤ length items.source
  pub begins : BeginsItem node.token.kind (token_text items.source node.token) (item_at items k)
  pub children : items_of (item_at items k) ≡ items_at items (k + 1) node.next
  pub alone : is_list_item (item_at items k) ≡ false → node.next ≡ k + 1
  pub nested : EndBy items (k + 1) node.next

-- there are two items or more
abbrev pub has_two : Items → Bool
has_two no_items = false
has_two (item i no_items) = false
has_two (item i (item j rest)) = true

-- The items from the first on, up to the end, are two or more, and the second is at node `second`.
pub record HasSecond (items : ItemsView) (first second end : ℕ) : Type 0 where
  pub later : first < second
  pub less : second < end
  pub here : second ≡ end_at items first
  pub split : items_at items first end ≡ item (item_at items first) (item (item_at items second) (items_at items (end_at items second) end))

abbrev pub IsSecond : ItemsView → ℕ → ℕ → Option ℕ → Type 0
IsSecond items first end (Some k) = HasSecond items first k end
IsSecond items first end None = has_two (items_at items first end) ≡ false

-- The first of the items from node k on, up to the end, was taken, and the others begin at node `next`.
pub record HasTaken (items : ItemsView) (k next end : ℕ) : Type 0 where
  pub less : k < end
  pub here : next ≡ end_at items k
  pub later : k < next
  pub inside : next ≤ length items.nodes
  pub split : items_at items k end ≡ item (item_at items k) (items_at items next end)

-- The first of the items was taken, or there is none, which is a bad command at this place.
abbrev pub IsTaken : ItemsView → ℕ → ℕ → ℕ → ℕ → Result ℕ Refusal → Type 0
IsTaken items place k next end (Ok taken) = (taken ≡ k) × HasTaken items k next end
IsTaken items place k next end (Err r) = (items_at items k end ≡ no_items) × (r ≡ record { cause = BadCommand; at = place })

-- the item at node k is a symbol
pub record IsSymbolAt (items : ItemsView) (k : ℕ) : Type 0 where
  pub inside : k < length items.nodes
  pub symbol : symbol_fault (item_at items k) ≡ None

-- its name, where it stands
abbrev pub name_in : ItemsView → ℕ → Name
name_in items k = name_at (item_at items k)

-- the word of a symbol without bars
abbrev pub head_word : Item → Option (List ℕ)
head_word (word place spelling) = if is_symbol spelling then Some spelling else None
head_word (quoted place spelling) = None
head_word (string place spelling) = None
head_word (list place items) = None
