-- Public. How items are printed: brackets around a list, a space between items, and each item of a text on a line of its own.
use Rattle.std.specs.Prelude.{◌+◌, length, Some, ◌≡◌, ℕ, List, [], ◌∷◌, ◌++◌, if◌then◌else◌}
use Rattle.sexpr.specs.declared.lexing.TokenKind.TheVariants.{Text, Quoted, Word}
use Rattle.sexpr.specs.Grammar.{IsSpelling}
use Rattle.sexpr.specs.Items.{Item, word, quoted, string, list, Items, no_items, item, symbol_name}
use Rattle.sexpr.specs.Printing.{is_plain_symbol, printed_symbol}

abbrev mutual
  -- each token of the item is spelled as its kind says
  pub IsSpelledItem : Item → Type 0
  IsSpelledItem (word place spelling) = IsSpelling Word spelling
  IsSpelledItem (quoted place spelling) = IsSpelling Quoted spelling
  IsSpelledItem (string place spelling) = IsSpelling Text spelling
  IsSpelledItem (list place items) = AreSpelledItems items

  pub AreSpelledItems : Items → Type 0
  AreSpelledItems no_items = Unit {0}
  AreSpelledItems (item i rest) = IsSpelledItem i × AreSpelledItems rest

abbrev mutual
  -- the bytes of an item; its places count for nothing
  pub printed : Item → List ℕ
  printed (word place spelling) = spelling
  printed (quoted place spelling) = spelling
  printed (string place spelling) = spelling
  printed (list place items) = 40 ∷ (printed_all [] items ++ 41 ∷ [])

  -- items with `before` in front of the first and a space in front of each other one
  pub printed_all : List ℕ → Items → List ℕ
  printed_all before no_items = []
  printed_all before (item i rest) = before ++ (printed i ++ printed_all (32 ∷ []) rest)

abbrev mutual
  -- the item as it is read where it is printed at this place
  pub placed : ℕ → Item → Item
  placed at (word place spelling) = word at spelling
  placed at (quoted place spelling) = quoted at spelling
  placed at (string place spelling) = string at spelling
  placed at (list place items) = list at (placed_all (at + 1) [] items)

  pub placed_all : ℕ → List ℕ → Items → Items
  placed_all at before no_items = no_items
  placed_all at before (item i rest) = item (placed (at + length before) i) (placed_all (at + length before + length (printed i)) (32 ∷ []) rest)

abbrev pub placed_lines : ℕ → List ℕ → Items → Items
placed_lines at before no_items = no_items
placed_lines at before (item i rest) = item (placed (at + length before) i) (placed_lines (at + length before + length (printed i)) (10 ∷ []) rest)

-- each item on a line of its own
abbrev pub printed_lines : Items → List ℕ
printed_lines no_items = []
printed_lines (item i rest) = printed i ++ 10 ∷ printed_lines rest

-- the symbol of a name
abbrev pub symbol_item : List ℕ → Item
symbol_item name = if is_plain_symbol name then word 0 name else quoted 0 (124 ∷ (name ++ 124 ∷ []))

-- The symbol of a name is spelled well, printed as `print_symbol` does, and has the name.
pub record IsSymbolItem (name : List ℕ) : Type 0 where
  pub spelled : IsSpelledItem (symbol_item name)
  pub same : printed (symbol_item name) ≡ printed_symbol name
  pub named : (at : ℕ) → symbol_name (placed at (symbol_item name)) ≡ Some name
