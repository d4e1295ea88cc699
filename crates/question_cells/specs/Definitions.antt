-- Public. Texts that define functions or have terms with attributes (SMT-LIB 2.6, "Scripts" and "Terms and Formulas"), by their
-- tokens: an opening bracket, and behind it the word `define-fun` or the symbol `!`.
use Rattle.std.specs.Prelude.{◌≡◌, ℕ, Bool, true, false, ◌||◌, ◌&&◌, List, [], ◌∷◌, codes}
use Rattle.std.specs.Option.{option_map_or}
use Rattle.sexpr.specs.declared.lexing.Token.{Token}
use Rattle.sexpr.specs.declared.lexing.TokenKind.{TokenKind}
use Rattle.sexpr.specs.declared.lexing.TokenKind.TheVariants.{Open, Close, Text, Quoted, Word}
use Rattle.sexpr.specs.Items.{name_spelled}
use Rattle.sexpr.specs.Tokens.{AreTokens, token_text}
use Rattle.problem_text.specs.Words.{is_among}

abbrev pub is_open : TokenKind → Bool
is_open Open = true
is_open Close = false
is_open Text = false
is_open Quoted = false
is_open Word = false

-- the symbols that begin a definition of a function and a term with attributes
abbrev pub defining_words : List (List ℕ)
defining_words = codes "define-fun" ∷ codes "!" ∷ []

-- the token spells one of them
abbrev pub is_defining : List ℕ → Token → Bool
is_defining text t = option_map_or (is_among defining_words) (name_spelled t.kind (token_text text t)) false

-- one of the tokens stands right behind an opening bracket and spells one of these words; `opened` says that a bracket stands
-- before the first
abbrev pub defines_in : List ℕ → Bool → List Token → Bool
defines_in text opened [] = false
defines_in text opened (t ∷ ts) = (opened && is_defining text t) || defines_in text (is_open t.kind) ts

-- the text has such a token
pub record HasDefinitions (text : List ℕ) : Type 0 where
  pub tokens : List Token
  pub are : AreTokens text 0 tokens
  pub defines : defines_in text false tokens ≡ true
