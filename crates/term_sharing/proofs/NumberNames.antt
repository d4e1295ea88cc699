-- The names of numbers: they are symbols that nobody else uses, and differ.
use Rattle.std.proofs.Common.{◌≡◌, ℕ, ◌<◌, ◌^◌, Bool, true, false, List, [], ◌∷◌, decimal, refl, sym, ap, ◌∙◌, subst, arith}
use Rattle.std.proofs.Common.{drop, ◌==◌, eqb-true}
use Rattle.std.specs.List.{list_all}
use Rattle.std.specs.Char.{is_ascii_digit}
use Rattle.std.proofs.lemmas.Bool.{and_parts}
use Rattle.std.proofs.lemmas.List.Sums.{AllPass-from_list_all}
use Rattle.sexpr.specs.Characters.{is_between_bars}
use Rattle.sexpr.specs.Printed.{IsSymbolItem}
use Rattle.sexpr.specs.Words.{numeral_value}
use Rattle.sexpr.proofs.PrintedItems.{symbol_is}
use Rattle.sexpr.proofs.PrintedNumerals.{decimal_is}
use Rattle.problem_text.specs.PrintedTerms.{IsUsable}
use Rattle.problem_text.specs.Words.{is_built_in}
use Rattle.term_printer.specs.Names.{name_numbered}

pub one_number : (a b : ℕ) → a < 2 ^ 64 → b < 2 ^ 64 → name_numbered a ≡ name_numbered b → a ≡ b
one_number a b few many e =
    let tails : decimal a ≡ decimal b = ap (drop 2) e in
    let first = decimal_is a (omega (arith, few)) in
    let second = decimal_is b (omega (arith, many)) in
    sym first.value ∙ ap numeral_value tails ∙ second.value

no_digit : (b c : ℕ) → is_ascii_digit c ≡ false → is_ascii_digit b ≡ true → (b == c) ≡ false
no_digit b c none is = go (b == c) refl
  where
    go : (test : Bool) → (b == c) ≡ test → test ≡ false
    go true e = let f : is_ascii_digit c ≡ true = subst (λ x. is_ascii_digit x ≡ true) (eqb-true b c e) is in absurd (cc)
    go false e = refl

digit_between : (b : ℕ) → is_ascii_digit b ≡ true → is_between_bars b ≡ true
digit_between b e =
    let bar = no_digit b 124 refl e in
    let slash = no_digit b 92 refl e in
    rw (bar, slash) refl

between : (ds : List ℕ) → list_all is_ascii_digit ds ≡ true → list_all is_between_bars ds ≡ true
between [] e = refl
between (d ∷ ds) e =
    let both = and_parts (is_ascii_digit d) (list_all is_ascii_digit ds) e in
    let first = digit_between d both.0 in
    let others = between ds both.1 in
    rw (first, others) refl

pub number_symbol : (a : ℕ) → a < 2 ^ 64 → IsSymbolItem (name_numbered a)
number_symbol a few =
    let digits = (decimal_is a (omega (arith, few))).digits in
    symbol_is (name_numbered a) (AllPass-from_list_all is_between_bars (name_numbered a) (between (decimal a) digits))

pub number_usable : (a : ℕ) → IsUsable (name_numbered a)
number_usable a = refl

pub number_no_word : (a : ℕ) → is_built_in (name_numbered a) ≡ false
number_no_word a = refl
