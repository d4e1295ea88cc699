-- Public. Where a lexer stands among the items of a text.
use Rattle.std.specs.Prelude.{◌≡◌, ◌<◌, ◌≤◌, List, ◌∷◌, length, Ok, Some}
use Rattle.sexpr.specs.declared.lexing.Lexer.{Lexer}
use Rattle.sexpr.specs.declared.lexing.Token.{Token}
use Rattle.sexpr.specs.declared.lexing.TokenKind.TheVariants.{Close}
use Rattle.sexpr.specs.Source.{source, position}
use Rattle.sexpr.specs.Tokens.{ReadsAs, AreTokens}
use Rattle.sexpr.specs.Items.{Item, IsItem}

-- The token is the one that the lexer gave last, and it begins an item.
pub record IsFirstOfItem (l : Lexer) (t : Token) : Type 0 where
  pub before : List Token
  pub read : ReadsAs (source l) 0 before (Ok (Some t))
  pub behind : position l ≡ t.end
  pub some : t.start < t.end
  pub within : t.end ≤ length (source l)
  pub begins : t.kind ≡ Close → ⊥

-- The token and those that the lexer has still to give begin with this item, and the rest stands behind it.
pub record GoesOnWith (l : Lexer) (t : Token) (i : Item) (rest : List Token) : Type 0 where
  pub after : List Token
  pub read : AreTokens (source l) (position l) after
  pub item : IsItem (source l) (t ∷ after) i rest
