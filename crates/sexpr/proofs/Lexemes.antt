-- The token that begins at a byte, by that byte.
use Rattle.std.proofs.Common.{◌≡◌, ◌≢◌, ℕ, ◌+◌, ◌-◌, ◌<◌, ◌≤◌, Bool, true, false, not, ◌&&◌, eqb, List, length, get_or, take, drop, suc, None, Ok, refl, sym, ap, ◌∙◌, subst, arith, eqb-true}
use Rattle.std.proofs.lemmas.Bool.Decides.{nat_tests}
use Rattle.std.proofs.lemmas.List.{drop_more, drop_all}
use Rattle.std.proofs.lemmas.List.Folds.{length-prefix_len}
use Rattle.std.specs.Char.{is_ascii_digit}
use Rattle.std.specs.List.{prefix_len, take_while}
use Rattle.sexpr.specs.declared.lexing.TokenKind.TheVariants.{Open, Close, Word}
use Rattle.sexpr.specs.Characters.{is_white, is_word_byte, is_mark, is_between_bars}
use Rattle.sexpr.specs.Words.{starts_with_digit, is_number}
use Rattle.sexpr.specs.Tokens.{bad_byte, token, string_end, string_token, quoted_token, word_token, token_at}
use Rattle.sexpr.proofs.ByteTable.{white_is_no_word}

pub nothing_left : (xs : List ℕ) (at : ℕ) → length xs ≤ at → token_at at (drop at xs) ≡ Ok None
unfolding token_at
nothing_left xs at past = rw (drop_all at xs past) refl

module _ (xs : List ℕ) (at : ℕ) (within : at < length xs) where
  pub opens : get_or xs at 0 ≡ 40 → token_at at (drop at xs) ≡ token Open at (at + 1)
  unfolding token_at
  opens here = rw (drop_more xs at 0 within, here) refl

  pub closes : get_or xs at 0 ≡ 41 → token_at at (drop at xs) ≡ token Close at (at + 1)
  unfolding token_at
  closes here = rw (drop_more xs at 0 within, here) refl

  pub string_begins : get_or xs at 0 ≡ 34 → token_at at (drop at xs) ≡ string_token at (string_end (at + 1) (drop (at + 1) xs))
  unfolding token_at
  string_begins here = rw (drop_more xs at 0 within, here) refl

  pub bars_begin : get_or xs at 0 ≡ 124 → token_at at (drop at xs)
      ≡ quoted_token at (at + 1 + prefix_len is_between_bars (drop (at + 1) xs)) (drop (prefix_len is_between_bars (drop (at + 1) xs)) (drop (at + 1) xs))
  unfolding token_at
  bars_begin here = rw (drop_more xs at 0 within, here) refl

  pub no_token : get_or xs at 0 ≢ 40 → get_or xs at 0 ≢ 41 → get_or xs at 0 ≢ 34 → get_or xs at 0 ≢ 124 → is_word_byte (get_or xs at 0) ≡ false
      → token_at at (drop at xs) ≡ bad_byte at
  unfolding token_at
  no_token a b c d word =
      let e : eqb (get_or xs at 0) 40 ≡ false = grind (arith, nat_tests) in
      let f : eqb (get_or xs at 0) 41 ≡ false = grind (arith, nat_tests) in
      let g : eqb (get_or xs at 0) 34 ≡ false = grind (arith, nat_tests) in
      let h : eqb (get_or xs at 0) 124 ≡ false = grind (arith, nat_tests) in
      rw (drop_more xs at 0 within, e, f, g, h, word) refl

pub no_word_byte : (b c : ℕ) → is_word_byte c ≡ false → is_word_byte b ≡ true → eqb b c ≡ false
no_word_byte b c none word = go (eqb b c) refl
  where
    go : (test : Bool) → eqb b c ≡ test → test ≡ false
    go true e = let other : is_word_byte c ≡ true = subst (λ x. is_word_byte x ≡ true) (eqb-true b c e) word in absurd (cc)
    go false e = refl

-- a byte of a word is no white space and begins no comment
pub word_is_no_white : (b : ℕ) → is_word_byte b ≡ true → is_white b ≡ false
word_is_no_white b word = go (is_white b) refl
  where
    go : (test : Bool) → is_white b ≡ test → test ≡ false
    go true white = let none = white_is_no_word b white in absurd (cc)
    go false white = refl

pub word_is_no_semicolon : (b : ℕ) → is_word_byte b ≡ true → b ≢ 59
unfolding is_word_byte is_mark
word_is_no_semicolon b word same = let other = no_word_byte b 59 refl word in absurd (grind (arith, nat_tests))

-- a byte of a word begins no other token
pub word_at_its_byte : (xs : List ℕ) (at : ℕ) → at < length xs → is_word_byte (get_or xs at 0) ≡ true
    → token_at at (drop at xs) ≡ word_token at (take_while is_word_byte (drop at xs))
unfolding token_at is_word_byte is_mark
word_at_its_byte xs at within word =
    let e : eqb (get_or xs at 0) 40 ≡ false = no_word_byte (get_or xs at 0) 40 refl word in
    let f : eqb (get_or xs at 0) 41 ≡ false = no_word_byte (get_or xs at 0) 41 refl word in
    let g : eqb (get_or xs at 0) 34 ≡ false = no_word_byte (get_or xs at 0) 34 refl word in
    let h : eqb (get_or xs at 0) 124 ≡ false = no_word_byte (get_or xs at 0) 124 refl word in
    rw (drop_more xs at 0 within, e, f, g, h, word) refl

-- the word that begins at `at` and ends at `end`
word_is : (p : ℕ → Bool) (xs : List ℕ) (at end : ℕ) → end ≡ at + prefix_len p (drop at xs) → take (end - at) (drop at xs) ≡ take_while p (drop at xs)
word_is p xs at end ends = let n : end - at ≡ prefix_len p (drop at xs) = omega arith in rw n refl

-- a word goes on at its byte
word_goes_on : (xs : List ℕ) (at : ℕ) → at < length xs → is_word_byte (get_or xs at 0) ≡ true
    → at + prefix_len is_word_byte (drop at xs) ≡ at + 1 + prefix_len is_word_byte (drop (at + 1) xs)
word_goes_on xs at within word =
    let len : prefix_len is_word_byte (drop at xs) ≡ 1 + prefix_len is_word_byte (drop (at + 1) xs) = rw (drop_more xs at 0 within, word) refl in
    omega arith

-- what begins at `at` begins with the byte there
pub begins_with_digit : (xs : List ℕ) (at end : ℕ) → at < length xs → at < end → starts_with_digit (take (end - at) (drop at xs)) ≡ is_ascii_digit (get_or xs at 0)
begins_with_digit xs at end within some = let n : end - at ≡ suc (end - at - 1) = omega arith in rw (drop_more xs at 0 within, n) refl

module _ (xs : List ℕ) (at end : ℕ) (within : at < length xs) (word : is_word_byte (get_or xs at 0) ≡ true)
    (ends : end ≡ at + 1 + prefix_len is_word_byte (drop (at + 1) xs)) where
  at_end : end ≡ at + prefix_len is_word_byte (drop at xs)
  at_end = ends ∙ sym (word_goes_on xs at within word)

  pub word_taken : (starts_with_digit (take (end - at) (drop at xs)) && not (is_number (take (end - at) (drop at xs)))) ≡ false
      → word_token at (take_while is_word_byte (drop at xs)) ≡ token Word at end
  word_taken taken =
      let len : at + length (take_while is_word_byte (drop at xs)) ≡ end = ap (λ n. at + n) (length-prefix_len is_word_byte (drop at xs)) ∙ sym at_end in
      let e = rw (word_is is_word_byte xs at end at_end) at taken in
      rw (e, len) refl

  pub word_refused : (starts_with_digit (take (end - at) (drop at xs)) && not (is_number (take (end - at) (drop at xs)))) ≡ true
      → word_token at (take_while is_word_byte (drop at xs)) ≡ bad_byte at
  word_refused refused = let e = rw (word_is is_word_byte xs at end at_end) at refused in rw e refl
