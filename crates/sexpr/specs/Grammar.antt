-- Public. How a token is spelled, and what may stand before it (SMT-LIB 2.6, "Lexicon").
use Rattle.std.specs.Prelude.{◌≡◌, ℕ, ◌<◌, Bool, true, false, not, ◌==◌, List, [], ◌∷◌, ◌++◌, length, drop}
use Rattle.std.specs.List.{AllPass}
use Rattle.sexpr.specs.declared.lexing.Token.{Token}
use Rattle.sexpr.specs.declared.lexing.TokenKind.{TokenKind}
use Rattle.sexpr.specs.declared.lexing.TokenKind.TheVariants.{Open, Close, Text, Quoted, Word}
use Rattle.sexpr.specs.Characters.{is_white, ends_comment, is_word_byte, is_between_bars}
use Rattle.sexpr.specs.Words.{starts_with_digit, is_number}
use Rattle.sexpr.specs.Tokens.{token_text}

-- nothing follows, or a byte that passes
abbrev pub begins_with : (ℕ → Bool) → List ℕ → Bool
begins_with p [] = false
begins_with p (b ∷ rest) = p b

-- the end of the text, or a byte that ends a comment
abbrev pub ends_line : List ℕ → Bool
ends_line [] = true
ends_line (b ∷ rest) = ends_comment b

-- White space and comments, and then `after`. A comment runs from a semicolon to the end of its line.
pub data SkipsTo (after : List ℕ) : List ℕ → Type 0 where
  nothing : SkipsTo after after
  white : (b : ℕ) (rest : List ℕ) → is_white b ≡ true → SkipsTo after rest → SkipsTo after (b ∷ rest)
  comment : (line rest : List ℕ) → AllPass (λ b. not (ends_comment b)) line → ends_line rest ≡ true → SkipsTo after rest → SkipsTo after (59 ∷ (line ++ rest))

-- What may stand between the quotes of a string: any bytes, with a quote written twice.
pub data IsInString : List ℕ → Type 0 where
  empty : IsInString []
  other : (b : ℕ) (rest : List ℕ) → (b == 34) ≡ false → IsInString rest → IsInString (b ∷ rest)
  quote : (rest : List ℕ) → IsInString rest → IsInString (34 ∷ 34 ∷ rest)

pub record IsString (spelling : List ℕ) : Type 0 where
  pub inside : List ℕ
  pub in_quotes : spelling ≡ 34 ∷ (inside ++ 34 ∷ [])
  pub is_inside : IsInString inside

pub record IsQuoted (spelling : List ℕ) : Type 0 where
  pub inside : List ℕ
  pub in_bars : spelling ≡ 124 ∷ (inside ++ 124 ∷ [])
  pub is_inside : AllPass is_between_bars inside

-- one or more bytes of words, and a number where the first is a digit
pub record IsWord (spelling : List ℕ) : Type 0 where
  pub some : 0 < length spelling
  pub bytes : AllPass is_word_byte spelling
  pub number : starts_with_digit spelling ≡ true → is_number spelling ≡ true

abbrev pub IsSpelling : TokenKind → List ℕ → Type 0
IsSpelling Open spelling = spelling ≡ 40 ∷ []
IsSpelling Close spelling = spelling ≡ 41 ∷ []
IsSpelling Text spelling = IsString spelling
IsSpelling Quoted spelling = IsQuoted spelling
IsSpelling Word spelling = IsWord spelling

-- what follows would not make the token longer
abbrev pub goes_on : TokenKind → List ℕ → Bool
goes_on Open rest = false
goes_on Close rest = false
goes_on Text rest = begins_with (λ b. b == 34) rest
goes_on Quoted rest = false
goes_on Word rest = begins_with is_word_byte rest

-- From the place `at` on, white space and comments stand before the token, which is spelled as its kind says and is as long as it can be.
pub record IsSpelledNext (text : List ℕ) (at : ℕ) (t : Token) : Type 0 where
  pub before : SkipsTo (drop t.start text) (drop at text)
  pub spelled : IsSpelling t.kind (token_text text t)
  pub longest : goes_on t.kind (drop t.end text) ≡ false
