-- Public. The kinds of words, by how they are spelled (SMT-LIB 2.6, "Lexicon").
use Rattle.std.specs.Prelude.{ℕ, ◌+◌, ◌-◌, ◌*◌, Bool, false, not, ◌&&◌, ◌||◌, ◌==◌, if◌then◌else◌, Option, Some, None, List, [], ◌∷◌, length, take, drop, fold}
use Rattle.std.specs.List.{list_all, before_first, after_first}
use Rattle.std.specs.Char.{is_ascii_digit}
use Rattle.sexpr.specs.declared.words.WordKind.{WordKind}
use Rattle.sexpr.specs.declared.words.WordKind.TheVariants.{Symbol, Keyword, BitLiteral, Numeral, Decimal, Ratio}

-- the word begins with a digit
abbrev pub starts_with_digit : List ℕ → Bool
starts_with_digit [] = false
starts_with_digit (b ∷ word) = is_ascii_digit b

-- one or more digits
abbrev pub is_digits : List ℕ → Bool
is_digits [] = false
is_digits (b ∷ word) = is_ascii_digit b && list_all is_ascii_digit word

-- `0`, or digits that don't begin with 0
abbrev pub is_numeral : List ℕ → Bool
is_numeral [] = false
is_numeral (b ∷ []) = is_ascii_digit b
is_numeral (b ∷ c ∷ word) = not (b == 48) && is_digits (b ∷ c ∷ word)

-- a numeral, a point, and one or more digits
abbrev pub is_decimal : List ℕ → Bool
is_decimal word = is_numeral (before_first (λ b. b == 46) word) && is_digits (after_first (λ b. b == 46) word)

-- a numeral, a slash, and a numeral
abbrev pub is_ratio : List ℕ → Bool
is_ratio word = is_numeral (before_first (λ b. b == 47) word) && is_numeral (after_first (λ b. b == 47) word)

-- A word that begins with a digit has one of these three forms.
unfoldable pub is_number : List ℕ → Bool
is_number word = is_numeral word || is_decimal word || is_ratio word

-- a keyword begins with a colon
abbrev pub is_keyword : List ℕ → Bool
is_keyword [] = false
is_keyword (b ∷ word) = b == 58

-- a bit literal, binary or hexadecimal, begins with a number sign
abbrev pub is_bit_literal : List ℕ → Bool
is_bit_literal [] = false
is_bit_literal (b ∷ word) = b == 35

-- Every other word that doesn't begin with a digit is a symbol.
abbrev pub is_symbol : List ℕ → Bool
is_symbol [] = false
is_symbol (b ∷ word) = not (is_ascii_digit b) && not (b == 58) && not (b == 35)

-- the number that digits stand for, in base ten
abbrev pub numeral_value : List ℕ → ℕ
numeral_value digits = fold (λ n b. 10 * n + (b - 48)) 0 digits

-- What stands between the bars of a quoted symbol. `|abc|` and `abc` are one symbol.
abbrev pub between_bars : List ℕ → List ℕ
between_bars spelling = take (length spelling - 2) (drop 1 spelling)

-- the kind of a word; None of what is no word
unfoldable pub word_kind : List ℕ → Option WordKind
word_kind word =
    if is_keyword word then Some Keyword
    else if is_bit_literal word then Some BitLiteral
    else if is_symbol word then Some Symbol
    else if is_numeral word then Some Numeral
    else if is_decimal word then Some Decimal
    else if is_ratio word then Some Ratio
    else None
