-- Public. The nested items that the tokens of a text stand for (SMT-LIB 2.6, "S-expressions").
use Rattle.std.specs.Prelude.{◌≡◌, ℕ, if◌then◌else◌, Option, Some, None, List, [], ◌∷◌}
use Rattle.sexpr.specs.declared.lexing.Token.{Token}
use Rattle.sexpr.specs.declared.lexing.TokenKind.{TokenKind}
use Rattle.sexpr.specs.declared.lexing.TokenKind.TheVariants.{Open, Close, Text, Quoted, Word}
use Rattle.sexpr.specs.Words.{is_symbol, between_bars}
use Rattle.sexpr.specs.Tokens.{AreTokens, token_text}

-- An item has the place of its first byte, and how it is spelled: a string with its quotes and a quoted symbol with
-- its bars. The place of a list is that of its opening bracket.
mutual
  pub data Item : Type 0 where
    word : ℕ → List ℕ → Item
    quoted : ℕ → List ℕ → Item
    string : ℕ → List ℕ → Item
    list : ℕ → Items → Item

  pub data Items : Type 0 where
    no_items : Items
    item : Item → Items → Items

-- the place of the first byte of an item
abbrev pub place_of : Item → ℕ
place_of (word place spelling) = place
place_of (quoted place spelling) = place
place_of (string place spelling) = place
place_of (list place items) = place

-- The name of the symbol that a token of this kind spells, which is the same with and without bars. None of what is no symbol.
abbrev pub name_spelled : TokenKind → List ℕ → Option (List ℕ)
name_spelled Word spelling = if is_symbol spelling then Some spelling else None
name_spelled Quoted spelling = Some (between_bars spelling)
name_spelled Text spelling = None
name_spelled Open spelling = None
name_spelled Close spelling = None

-- the name of an item that is a symbol
abbrev pub symbol_name : Item → Option (List ℕ)
symbol_name (word place spelling) = name_spelled Word spelling
symbol_name (quoted place spelling) = name_spelled Quoted spelling
symbol_name (string place spelling) = None
symbol_name (list place items) = None

-- The tokens are one of this kind, at this place and with this spelling in the source, and then the rest.
pub record IsToken (source : List ℕ) (tokens : List Token) (kind : TokenKind) (place : ℕ) (spelling : List ℕ) (rest : List Token) : Type 0 where
  pub token : Token
  pub first : tokens ≡ token ∷ rest
  pub same_kind : token.kind ≡ kind
  pub same_place : token.start ≡ place
  pub same_spelling : token_text source token ≡ spelling

-- The tokens are a bracket of this kind, and then the rest.
pub record IsBracket (tokens : List Token) (kind : TokenKind) (bracket : Token) (rest : List Token) : Type 0 where
  pub first : tokens ≡ bracket ∷ rest
  pub same_kind : bracket.kind ≡ kind

abbrev mutual
  -- the tokens are those of the item, and then the rest
  pub IsItem : List ℕ → List Token → Item → List Token → Type 0
  IsItem source tokens (word place spelling) rest = IsToken source tokens Word place spelling rest
  IsItem source tokens (quoted place spelling) rest = IsToken source tokens Quoted place spelling rest
  IsItem source tokens (string place spelling) rest = IsToken source tokens Text place spelling rest
  IsItem source tokens (list place items) rest =
      (open_bracket : Token) × (inside : List Token) × (after : List Token) × (close_bracket : Token)
      × IsBracket tokens Open open_bracket inside × (open_bracket.start ≡ place)
      × AreItems source inside items after × IsBracket after Close close_bracket rest

  -- the tokens are those of the items, one after another, and then the rest
  pub AreItems : List ℕ → List Token → Items → List Token → Type 0
  AreItems source tokens no_items rest = tokens ≡ rest
  AreItems source tokens (item first others) rest = (after : List Token) × IsItem source tokens first after × AreItems source after others rest

-- The whole text stands for these items.
pub record StandsForItems (source : List ℕ) (items : Items) : Type 0 where
  pub tokens : List Token
  pub read : AreTokens source 0 tokens
  pub nested : AreItems source tokens items []
