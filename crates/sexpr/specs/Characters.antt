-- Public. The characters of a text, as bytes (SMT-LIB 2.6, "Lexicon").
use Rattle.std.specs.Prelude.{ℕ, Bool, not, ◌&&◌, ◌||◌, ◌==◌, codes}
use Rattle.std.specs.List.{list_any}
use Rattle.std.specs.Char.{is_ascii_alphanumeric}

-- white space: tab, line feed, carriage return and space
unfoldable pub is_white : ℕ → Bool
is_white b = b == 9 || b == 10 || b == 13 || b == 32

-- what ends a comment: a line feed or a carriage return
unfoldable pub ends_comment : ℕ → Bool
ends_comment b = b == 10 || b == 13

-- The marks of symbols, and the three that begin keywords and literals or stand inside ratios and decimals.
unfoldable pub is_mark : ℕ → Bool
is_mark b = list_any (λ c. c == b) (codes "~!@$%^&*_-+=<>.?/:#")

-- a byte of a word: a letter, a digit or a mark
unfoldable pub is_word_byte : ℕ → Bool
is_word_byte b = is_ascii_alphanumeric b || is_mark b

-- A byte between the bars of a quoted symbol: any but the bar and the backslash.
abbrev pub is_between_bars : ℕ → Bool
is_between_bars b = not (b == 124) && not (b == 92)
