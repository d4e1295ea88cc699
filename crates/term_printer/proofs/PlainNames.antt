-- The name of a number is printed without bars.
use Rattle.std.proofs.Common.{◌≡◌, ℕ, ◌<◌, ◌^◌, true, List, [], ◌∷◌, decimal, refl, arith}
use Rattle.std.specs.List.{list_all}
use Rattle.std.proofs.lemmas.Bool.{and_parts}
use Rattle.std.specs.Char.{is_ascii_digit}
use Rattle.sexpr.specs.Characters.{is_word_byte, is_mark}
use Rattle.sexpr.specs.Printing.{is_plain_symbol, printed_symbol}
use Rattle.sexpr.proofs.PrintedNumerals.{decimal_is}
use Rattle.term_printer.specs.Names.{name_numbered}

digit_word : (b : ℕ) → is_ascii_digit b ≡ true → is_word_byte b ≡ true
unfolding is_word_byte
digit_word b e = rw e refl

words : (ds : List ℕ) → list_all is_ascii_digit ds ≡ true → list_all is_word_byte ds ≡ true
words [] e = refl
words (d ∷ ds) e =
    let both = and_parts (is_ascii_digit d) (list_all is_ascii_digit ds) e in
    let first = digit_word d both.0 in
    let others = words ds both.1 in
    rw (first, others) refl

plain_name : (k : ℕ) → k < 2 ^ 64 → is_plain_symbol (name_numbered k) ≡ true
unfolding is_word_byte is_mark
plain_name k few =
    let digits = words (decimal k) (decimal_is k (omega (arith, few))).digits in
    rw digits refl

pub name_bytes : (k : ℕ) → k < 2 ^ 64 → printed_symbol (name_numbered k) ≡ name_numbered k
name_bytes k few = let e = plain_name k few in rw e refl
