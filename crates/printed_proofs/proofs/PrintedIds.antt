-- Printed ids are symbols, and differ.
use Rattle.std.proofs.Common.{◌≡◌, ℕ, ◌+◌, ◌<◌, ◌^◌, Bool, true, false, List, [], ◌∷◌, decimal, bytes_eq, refl, sym, ap, ◌∙◌}
use Rattle.std.proofs.Common.{subst, arith, drop, ◌==◌, eqb-true}
use Rattle.std.specs.List.{list_all}
use Rattle.std.specs.Char.{is_ascii_digit}
use Rattle.std.proofs.lemmas.Bool.{and_parts}
use Rattle.std.proofs.lemmas.List.Sums.{AllPass-from_list_all}
use Rattle.std.proofs.lemmas.Slice.Eq.{bytes_eq-Decides}
use Rattle.sexpr.specs.Characters.{is_between_bars}
use Rattle.sexpr.specs.Printed.{IsSymbolItem}
use Rattle.sexpr.specs.Words.{numeral_value}
use Rattle.sexpr.proofs.PrintedItems.{symbol_is}
use Rattle.sexpr.proofs.PrintedNumerals.{decimal_is}
use Rattle.printed_proofs.specs.Numbered.{printed_id}

pub id_same : (a : ℕ) → bytes_eq (printed_id a) (printed_id a) ≡ true
id_same a = (bytes_eq-Decides (printed_id a) (printed_id a)).1 refl

one_index : (a b : ℕ) → a < 2 ^ 32 → b < 2 ^ 32 → printed_id a ≡ printed_id b → a ≡ b
one_index a b few many e =
    let tails : decimal (a + 1) ≡ decimal (b + 1) = ap (drop 1) e in
    let first = decimal_is (a + 1) (omega (arith, few)) in
    let second = decimal_is (b + 1) (omega (arith, many)) in
    let same : a + 1 ≡ b + 1 = sym first.value ∙ ap numeral_value tails ∙ second.value in
    omega (arith, same)

pub id_other : (a b : ℕ) → a < 2 ^ 32 → b < 2 ^ 32 → (a ≡ b → ⊥) → bytes_eq (printed_id a) (printed_id b) ≡ false
id_other a b few many differs = go (bytes_eq (printed_id a) (printed_id b)) refl
  where
    go : (test : Bool) → bytes_eq (printed_id a) (printed_id b) ≡ test → test ≡ false
    go true e = absurd (differs (one_index a b few many ((bytes_eq-Decides (printed_id a) (printed_id b)).0 e)))
    go false e = refl

pub no_digit : (b c : ℕ) → is_ascii_digit c ≡ false → is_ascii_digit b ≡ true → (b == c) ≡ false
no_digit b c none is = go (b == c) refl
  where
    go : (test : Bool) → (b == c) ≡ test → test ≡ false
    go true e = let f : is_ascii_digit c ≡ true = subst (λ x. is_ascii_digit x ≡ true) (eqb-true b c e) is in absurd (cc)
    go false e = refl

digit_between : (b : ℕ) → is_ascii_digit b ≡ true → is_between_bars b ≡ true
digit_between b e =
    let bar = no_digit b 124 refl e in
    let slash = no_digit b 92 refl e in
    rw (bar, slash) refl

between : (ds : List ℕ) → list_all is_ascii_digit ds ≡ true → list_all is_between_bars ds ≡ true
between [] e = refl
between (d ∷ ds) e =
    let both = and_parts (is_ascii_digit d) (list_all is_ascii_digit ds) e in
    let first = digit_between d both.0 in
    let others = between ds both.1 in
    rw (first, others) refl

pub id_symbol : (a : ℕ) → a < 2 ^ 32 → IsSymbolItem (printed_id a)
id_symbol a few =
    let digits = (decimal_is (a + 1) (omega (arith, few))).digits in
    symbol_is (printed_id a) (AllPass-from_list_all is_between_bars (printed_id a) (between (decimal (a + 1)) digits))
