-- Private. What is known of the tokens that were read so far: how many lists they leave open, and where the outermost began.
use Rattle.std.specs.Prelude.{◌≡◌, ℕ, suc, ◌≤◌, Some, List, ◌∷◌, ◌++◌}
use Rattle.sexpr.specs.declared.brackets.OpenLists.{OpenLists}
use Rattle.sexpr.specs.declared.lexing.Token.{Token}
use Rattle.sexpr.specs.declared.lexing.TokenKind.TheVariants.{Open}
use Rattle.sexpr.specs.Tokens.{next_token, ReadsAs}
use Rattle.sexpr.specs.Depths.{depth_of}

-- the tokens leave k lists open inside one that began at this place
pub record IsOutermost (ts : List Token) (k place : ℕ) : Type 0 where
  pub front : List Token
  pub bracket : Token
  pub back : List Token
  pub split : ts ≡ front ++ bracket ∷ back
  pub is_open : bracket.kind ≡ Open
  pub start : bracket.start ≡ place
  pub before : depth_of 0 front ≡ Some 0
  pub after : depth_of 0 back ≡ Some k

-- the tokens of the text before this place are read, and leave these lists open
pub record IsOpenAfter (bytes text : List ℕ) (place : ℕ) (lists : OpenLists) : Type 0 where
  pub same_text : text ≡ bytes
  pub tokens : List Token
  pub read : ReadsAs text 0 tokens (next_token text place)
  pub few : lists.depth ≤ place
  pub depth : depth_of 0 tokens ≡ Some lists.depth
  pub outermost : (k : ℕ) → lists.depth ≡ suc k → IsOutermost tokens k lists.outermost
