-- Public. Items by the bytes that they stand in, from their first byte to before a place.
use Rattle.std.specs.Prelude.{◌≡◌, ℕ, ◌+◌, ◌≤◌, List, [], ◌∷◌, length, Ok, Some, Result}
use Rattle.sexpr.specs.declared.lexing.Token.{Token}
use Rattle.sexpr.specs.Tokens.{next_token, IsSpanFrom}
use Rattle.sexpr.specs.Items.{Item, word, quoted, string, list, Items, no_items, item, place_of, IsItem}

-- an item with 0 for each place
abbrev mutual
  pub unplaced : Item → Item
  unplaced (word place spelling) = word 0 spelling
  unplaced (quoted place spelling) = quoted 0 spelling
  unplaced (string place spelling) = string 0 spelling
  unplaced (list place items) = list 0 (all_unplaced items)

  pub all_unplaced : Items → Items
  all_unplaced no_items = no_items
  all_unplaced (item i rest) = item (unplaced i) (all_unplaced rest)

-- Two items are one but for their places.
abbrev pub AreAlike : Item → Item → Type 0
AreAlike i j = unplaced i ≡ unplaced j

-- From the place `at` on, the text is read as these tokens, and the last of them ends at `end`.
abbrev pub ReadsTo : List ℕ → ℕ → List Token → ℕ → Type 0
ReadsTo text at [] end = at ≡ end
ReadsTo text at (t ∷ ts) end = (next_token text at ≡ Ok (Some t)) × IsSpanFrom at (length text) t × ReadsTo text t.end ts end

-- The list stands in the text from the place `at` to before `end`.
pub record IsListAt (text : List ℕ) (at end : ℕ) (items : Items) : Type 0 where
  pub tokens : List Token
  pub read : ReadsTo text at tokens end
  pub is : IsItem text tokens (list at items) []
  pub within : end ≤ length text
