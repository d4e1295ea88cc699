-- Public. When a text has the form of nested items, and its first fault where it hasn't.
use Rattle.std.specs.Prelude.{◌≡◌, ℕ, List, [], ◌∷◌, ◌++◌, Ok, Some}
use Rattle.sexpr.specs.declared.causes.Cause.{Cause}
use Rattle.sexpr.specs.declared.causes.Cause.TheVariants.{BadByte, OpenList, StrayClose, UnknownCommand, BadCommand, UnknownName, Repeated, SortMismatch}
use Rattle.sexpr.specs.declared.causes.Cause.TheVariants.{LeftOut, WideNumber, TooHigh, NoStep, BadAnchor}
use Rattle.sexpr.specs.declared.causes.Refusal.{Refusal}
use Rattle.sexpr.specs.declared.lexing.Token.{Token}
use Rattle.sexpr.specs.declared.lexing.TokenKind.TheVariants.{Open, Close}
use Rattle.sexpr.specs.Tokens.{ReadsAs, AreTokens, bad_byte}
use Rattle.sexpr.specs.Items.{Items, AreItems, StandsForItems}

-- the tokens are those of items, none of them in part
abbrev pub AreNested : List ℕ → List Token → Type 0
AreNested source tokens = (items : Items) × AreItems source tokens items []

-- No closing bracket stands in the tokens with nothing but whole items before it.
abbrev pub NeverClose : List ℕ → List Token → Type 0
NeverClose source tokens =
    (front : List Token) (bracket : Token) (back : List Token) → tokens ≡ front ++ bracket ∷ back → bracket.kind ≡ Close → AreNested source front → ⊥

-- A closing bracket stands at this place with no list open: whole items stand before it.
pub record IsStrayClose (source : List ℕ) (place : ℕ) : Type 0 where
  pub before : List Token
  pub bracket : Token
  pub read : ReadsAs source 0 before (Ok (Some bracket))
  pub is_close : bracket.kind ≡ Close
  pub start : bracket.start ≡ place
  pub nested : AreNested source before

-- The text is read as tokens up to a byte that no token can have there, and no closing bracket before it is stray.
pub record IsBadByte (source : List ℕ) (place : ℕ) : Type 0 where
  pub before : List Token
  pub read : ReadsAs source 0 before (bad_byte place)
  pub none_stray : NeverClose source before

-- An opening bracket stands at this place with no list open, and nothing closes its list to the end of the text.
pub record IsOpenList (source : List ℕ) (place : ℕ) : Type 0 where
  pub before : List Token
  pub bracket : Token
  pub after : List Token
  pub read : AreTokens source 0 (before ++ bracket ∷ after)
  pub is_open : bracket.kind ≡ Open
  pub start : bracket.start ≡ place
  pub nested : AreNested source before
  pub unclosed : NeverClose source after

abbrev pub IsFault : List ℕ → Cause → ℕ → Type 0
IsFault source BadByte place = IsBadByte source place
IsFault source StrayClose place = IsStrayClose source place
IsFault source OpenList place = IsOpenList source place
IsFault source UnknownCommand place = ⊥
IsFault source BadCommand place = ⊥
IsFault source UnknownName place = ⊥
IsFault source Repeated place = ⊥
IsFault source SortMismatch place = ⊥
IsFault source LeftOut place = ⊥
IsFault source WideNumber place = ⊥
IsFault source TooHigh place = ⊥
IsFault source NoStep place = ⊥
IsFault source BadAnchor place = ⊥

-- The refusal is the first fault of form of the text. An open list counts only where there is no other fault.
abbrev pub IsFormFault : List ℕ → Refusal → Type 0
IsFormFault source refusal = IsFault source refusal.cause refusal.at

-- the text is that of nested items
abbrev pub HasForm : List ℕ → Type 0
HasForm source = (items : Items) × StandsForItems source items
