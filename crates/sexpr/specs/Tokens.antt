-- Public. The tokens of a text (SMT-LIB 2.6, "Lexicon"), each with the place of its first byte and of the byte after
-- it.
use Rattle.std.specs.Prelude.{◌≡◌, ℕ, ◌+◌, ◌<◌, ◌≤◌, Bool, true, false, not, ◌&&◌, ◌==◌, if◌then◌else◌, List, [], ◌∷◌, length, drop, take_while, slice_range}
use Rattle.std.specs.Prelude.{Option, Some, None, Result, Ok, Err}
use Rattle.std.specs.List.{prefix_len}
use Rattle.sexpr.specs.declared.causes.Cause.TheVariants.{BadByte}
use Rattle.sexpr.specs.declared.causes.Refusal.{Refusal}
use Rattle.sexpr.specs.declared.lexing.Token.{Token}
use Rattle.sexpr.specs.declared.lexing.TokenKind.{TokenKind}
use Rattle.sexpr.specs.declared.lexing.TokenKind.TheVariants.{Open, Close, Text, Quoted, Word}
use Rattle.sexpr.specs.Characters.{is_white, ends_comment, is_word_byte, is_between_bars}
use Rattle.sexpr.specs.Words.{starts_with_digit, is_number}

-- a token, or a fault of the text
abbrev pub Read : Type 0
Read = Result (Option Token) Refusal

abbrev pub bad_byte : ℕ → Read
bad_byte place = Err (record { cause = BadByte; at = place })

abbrev pub token : TokenKind → ℕ → ℕ → Read
token kind start end = Ok (Some (record { kind = kind; start = start; end = end }))

-- The place after the white space and the comments that stand at the front of the rest of a text, which begins
-- at `at`. A comment runs from a semicolon to the end of its line; `inside` says that one has begun.
unfoldable pub blanks_end : Bool → ℕ → List ℕ → ℕ
blanks_end inside at [] = at
blanks_end true at (b ∷ rest) = blanks_end (not (ends_comment b)) (at + 1) rest
blanks_end false at (b ∷ rest) =
    if is_white b then blanks_end false (at + 1) rest
    else if b == 59 then blanks_end true (at + 1) rest
    else at

-- The place after the quote that ends a string whose rest begins at `at`. Two quotes stand for one inside.
unfoldable pub string_end : ℕ → List ℕ → Option ℕ
string_end at [] = None
string_end at (b ∷ []) = if b == 34 then Some (at + 1) else None
string_end at (b ∷ c ∷ rest) =
    if b == 34 then (if c == 34 then string_end (at + 2) rest else Some (at + 1))
    else string_end (at + 1) (c ∷ rest)

-- A string whose opening quote stands at `at`, by the place after its closing quote.
abbrev pub string_token : ℕ → Option ℕ → Read
string_token at None = bad_byte at
string_token at (Some end) = token Text at end

-- A quoted symbol whose opening bar stands at `at`: `place` and `rest` are what stands after the bytes inside.
abbrev pub quoted_token : ℕ → ℕ → List ℕ → Read
quoted_token at place [] = bad_byte at
quoted_token at place (b ∷ rest) = if b == 124 then token Quoted at (place + 1) else bad_byte place

-- A word is the longest run of its bytes, and one that begins with a digit is a number.
abbrev pub word_token : ℕ → List ℕ → Read
word_token at word = if starts_with_digit word && not (is_number word) then bad_byte at else token Word at (at + length word)

-- the token that begins at `at`, at the front of the rest of a text
unfoldable pub token_at : ℕ → List ℕ → Read
token_at at [] = Ok None
token_at at (b ∷ rest) =
    if b == 40 then token Open at (at + 1)
    else if b == 41 then token Close at (at + 1)
    else if b == 34 then string_token at (string_end (at + 1) rest)
    else if b == 124 then quoted_token at (at + 1 + prefix_len is_between_bars rest) (drop (prefix_len is_between_bars rest) rest)
    else if is_word_byte b then word_token at (take_while is_word_byte (b ∷ rest))
    else bad_byte at

-- The next token of a text from the place `at` on: the one after the white space and the comments there. None at the end.
unfoldable pub next_token : List ℕ → ℕ → Read
next_token text at = let start = blanks_end false at (drop at text) in token_at start (drop start text)

-- From the place `at` on, the text is read as these tokens, and then `last` comes: the end or a fault.
abbrev pub ReadsAs : List ℕ → ℕ → List Token → Read → Type 0
ReadsAs text at [] last = next_token text at ≡ last
ReadsAs text at (t ∷ ts) last = (next_token text at ≡ Ok (Some t)) × ReadsAs text t.end ts last

-- the tokens of the text from the place `at` on are these
abbrev pub AreTokens : List ℕ → ℕ → List Token → Type 0
AreTokens text at tokens = ReadsAs text at tokens (Ok None)

-- the slice of the text that spells a token
abbrev pub token_text : List ℕ → Token → List ℕ
token_text text t = slice_range text t.start t.end

-- the place from which the next read goes on: a token's end, and else where it was
abbrev pub place_after : ℕ → Read → ℕ
place_after at (Ok (Some t)) = t.end
place_after at (Ok None) = at
place_after at (Err refusal) = at

-- The token begins at `at` or after it, has at least one byte, and ends within a text of this length.
pub record IsSpanFrom (at len : ℕ) (t : Token) : Type 0 where
  pub after : at ≤ t.start
  pub some : t.start < t.end
  pub within : t.end ≤ len
