-- Private. Names of a letter and a number are printed without bars.
use Rattle.std.proofs.Common.{◌≡◌, ℕ, ◌+◌, ◌<◌, ◌^◌, true, false, Bool, List, [], ◌∷◌, codes, decimal, refl, arith}
use Rattle.std.specs.List.{list_all}
use Rattle.std.proofs.lemmas.Bool.{and_parts}
use Rattle.std.specs.Char.{is_ascii_digit}
use Rattle.sexpr.specs.Characters.{is_word_byte, is_mark}
use Rattle.sexpr.specs.Printing.{is_plain_symbol, printed_symbol}
use Rattle.sexpr.specs.Printed.{symbol_item, printed}
use Rattle.sexpr.proofs.PrintedNumerals.{decimal_is}
use Rattle.hole_fillers.specs.Questions.{name_with}

digit_word : (b : ℕ) → is_ascii_digit b ≡ true → is_word_byte b ≡ true
unfolding is_word_byte
digit_word b e = rw e refl

words : (ds : List ℕ) → list_all is_ascii_digit ds ≡ true → list_all is_word_byte ds ≡ true
words [] e = refl
words (d ∷ ds) e =
    let both = and_parts (is_ascii_digit d) (list_all is_ascii_digit ds) e in
    let first = digit_word d both.0 in
    let others = words ds both.1 in
    rw (first, others) refl

plain_f : (k : ℕ) → k + 1 < 2 ^ 64 → is_plain_symbol (name_with (codes "f") k) ≡ true
unfolding is_word_byte is_mark
plain_f k few =
    let digits = words (decimal (k + 1)) (decimal_is (k + 1) (omega (arith, few))).digits in
    rw digits refl

plain_v : (k : ℕ) → k + 1 < 2 ^ 64 → is_plain_symbol (name_with (codes "v") k) ≡ true
unfolding is_word_byte is_mark
plain_v k few =
    let digits = words (decimal (k + 1)) (decimal_is (k + 1) (omega (arith, few))).digits in
    rw digits refl

pub function_plain : (k : ℕ) → k + 1 < 2 ^ 64 → printed_symbol (name_with (codes "f") k) ≡ name_with (codes "f") k
function_plain k few = let e = plain_f k few in rw e refl

pub variable_plain : (k : ℕ) → k + 1 < 2 ^ 64 → printed_symbol (name_with (codes "v") k) ≡ name_with (codes "v") k
variable_plain k few = let e = plain_v k few in rw e refl

pub symbol_same : (name : List ℕ) → printed (symbol_item name) ≡ printed_symbol name
symbol_same name = go (is_plain_symbol name) refl
  where
    go : (b : Bool) → is_plain_symbol name ≡ b → printed (symbol_item name) ≡ printed_symbol name
    go true e = rw e refl
    go false e = rw e refl
