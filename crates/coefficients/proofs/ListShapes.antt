-- The shapes of items, by the tokens that they begin with and the items that stand in them.
use Rattle.std.proofs.Common.{◌≡◌, ℕ, List, false, Option, Some, None, refl, ap, ◌∙◌, if◌then◌else◌}
use Rattle.std.specs.Prelude.{codes}
use Rattle.sexpr.specs.Items.{Item, word, quoted, string, list, Items, no_items, item, place_of}
use Rattle.sexpr.specs.declared.lexing.TokenKind.{TokenKind}
use Rattle.sexpr.specs.declared.lexing.TokenKind.TheVariants.{Word}
use Rattle.sexpr.specs.Tokens.{token_text}
use Rattle.text_items.specs.declared.nodes.Node.{Node}
use Rattle.text_items.specs.ItemShapes.{items_of}
use Rattle.text_items.specs.ItemsAt.{ItemsView, item_at}
use Rattle.text_items.specs.Stepping.{BeginsItem, IsItemNode, has_two}
use Rattle.text_items.proofs.ItemsAtLemmas.{items_are, no_items_are}
use Rattle.alethe_text.specs.Commands.{is_symbol_of}
use Rattle.alethe_text.specs.Coefficients.{opposite_of}
use Rattle.coefficients.specs.Three.{three_of}

-- what stands behind a minus, by what stands in the list
abbrev pub opposite_among : Items → Option Item
opposite_among (item minus (item i no_items)) = if is_symbol_of (codes "-") minus then Some i else None
opposite_among other = None

pub opposite_by : (i : Item) → opposite_of i ≡ opposite_among (items_of i)
opposite_by (word p s) = refl
opposite_by (quoted p s) = refl
opposite_by (string p s) = refl
opposite_by (list p no_items) = refl
opposite_by (list p (item minus no_items)) = refl
opposite_by (list p (item minus (item i no_items))) = refl
opposite_by (list p (item minus (item i (item j rest)))) = refl

-- an item that begins with a word
word_is : (i : Item) (kind : TokenKind) (spelling : List ℕ) → BeginsItem kind spelling i → kind ≡ Word → word (place_of i) spelling ≡ i
word_is (word place s) kind spelling h e = ap (word place) h.1
word_is (quoted place s) kind spelling h e = cc
word_is (string place s) kind spelling h e = cc
word_is (list place items) kind spelling h e = cc

pub word_at : (items : ItemsView) (k : ℕ) (node : Node) → IsItemNode items k node → node.token.kind ≡ Word → (spelling : List ℕ) → spelling ≡ token_text items.source node.token → word node.token.start spelling ≡ item_at items k
word_at items k node read e spelling same =
    ap (λ place. word place spelling) read.start ∙ ap (word (place_of (item_at items k))) same ∙ word_is (item_at items k) node.token.kind _ read.begins e

-- fewer than two items behind another
pub three_behind : (i : Item) (items : Items) → has_two items ≡ false → three_of (item i items) ≡ None
three_behind i no_items e = refl
three_behind i (item j no_items) e = refl
three_behind i (item j (item k rest)) e = cc

-- what tells how many items stand in a list
pub ruleset list_shapes = (opposite_by, three_behind, items_are, no_items_are)
