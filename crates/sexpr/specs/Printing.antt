-- Public. How a symbol is printed (SMT-LIB 2.6, "Lexicon": symbols).
use Rattle.std.specs.Prelude.{◌≡◌, ℕ, Bool, ◌&&◌, if◌then◌else◌, Some, List, [], ◌∷◌, ◌++◌}
use Rattle.std.specs.List.{list_all}
use Rattle.sexpr.specs.declared.lexing.TokenKind.{TokenKind}
use Rattle.sexpr.specs.declared.lexing.TokenKind.TheVariants.{Quoted, Word}
use Rattle.sexpr.specs.Characters.{is_word_byte}
use Rattle.sexpr.specs.Words.{is_symbol}
use Rattle.sexpr.specs.Grammar.{IsSpelling}
use Rattle.sexpr.specs.Items.{name_spelled}

-- the name is a word, and one that is a symbol: it is spelled without bars
abbrev pub is_plain_symbol : List ℕ → Bool
is_plain_symbol name = is_symbol name && list_all is_word_byte name

-- The symbol of this name as it is printed: the name, between bars where it is no plain symbol word.
abbrev pub printed_symbol : List ℕ → List ℕ
printed_symbol name = if is_plain_symbol name then name else (124 ∷ (name ++ 124 ∷ []))

-- the kind of token that is printed
abbrev pub printed_kind : List ℕ → TokenKind
printed_kind name = if is_plain_symbol name then Word else Quoted

-- What is printed is spelled as a token of its kind, and the symbol that it spells has the name.
pub record ReadsBack (name : List ℕ) : Type 0 where
  pub spelled : IsSpelling (printed_kind name) (printed_symbol name)
  pub named : name_spelled (printed_kind name) (printed_symbol name) ≡ Some name
