-- One step of each scan over a text, at the byte that stands at `at`.
use Rattle.std.proofs.Common.{◌≡◌, ◌≢◌, ◌⊎◌, inl, inr, ℕ, ◌+◌, ◌<◌, ◌≤◌, Bool, true, false, not, eqb, List, [], ◌∷◌, length, get_or, drop, Some, None, refl, sym, ap, ◌∙◌, arith}
use Rattle.std.proofs.lemmas.Bool.Decides.{nat_tests}
use Rattle.std.proofs.lemmas.List.{drop_more, drop_all}
use Rattle.sexpr.specs.Characters.{is_white, ends_comment, is_word_byte}
use Rattle.sexpr.specs.Tokens.{blanks_end, string_end}
use Rattle.sexpr.proofs.Lexemes.{word_is_no_white, word_is_no_semicolon}

pub comment_step : (b at : ℕ) (rest : List ℕ) (ends : Bool) → ends_comment b ≡ ends → blanks_end true at (b ∷ rest) ≡ blanks_end (not ends) (at + 1) rest
unfolding blanks_end
comment_step b at rest ends e = ap (λ inside. blanks_end (not inside) (at + 1) rest) e

pub white_step : (b at : ℕ) (rest : List ℕ) → is_white b ≡ true → blanks_end false at (b ∷ rest) ≡ blanks_end false (at + 1) rest
unfolding blanks_end
white_step b at rest white = rw white refl

-- a byte inside a comment that doesn't end it
pub comment_goes : (xs : List ℕ) (at : ℕ) → at < length xs → get_or xs at 0 ≢ 10 → get_or xs at 0 ≢ 13
    → blanks_end true at (drop at xs) ≡ blanks_end true (at + 1) (drop (at + 1) xs)
unfolding ends_comment
comment_goes xs at within feed return =
    let e : ends_comment (get_or xs at 0) ≡ false = grind (arith, nat_tests) in
    rw (drop_more xs at 0 within) (comment_step _ at _ false e)

-- the byte that ends a comment is white space
comment_stops : (xs : List ℕ) (at : ℕ) → at < length xs → (get_or xs at 0 ≡ 10) ⊎ (get_or xs at 0 ≡ 13)
    → blanks_end true at (drop at xs) ≡ blanks_end false at (drop at xs)
unfolding ends_comment is_white
comment_stops xs at within ends =
    let last : ends_comment (get_or xs at 0) ≡ true = grind (arith, nat_tests) in
    let white : is_white (get_or xs at 0) ≡ true = grind (arith, nat_tests) in
    rw (drop_more xs at 0 within) (comment_step _ at _ true last ∙ sym (white_step _ at _ white))

pub comment_stops_at_feed : (xs : List ℕ) (at : ℕ) → at < length xs → get_or xs at 0 ≡ 10
    → blanks_end true at (drop at xs) ≡ blanks_end false at (drop at xs)
comment_stops_at_feed xs at within feed = comment_stops xs at within (inl feed)

pub comment_stops_at_return : (xs : List ℕ) (at : ℕ) → at < length xs → get_or xs at 0 ≡ 13
    → blanks_end true at (drop at xs) ≡ blanks_end false at (drop at xs)
comment_stops_at_return xs at within return = comment_stops xs at within (inr return)

-- at the end of the text
pub blanks_end_at_end : (inside : Bool) (xs : List ℕ) (at : ℕ) → length xs ≤ at → blanks_end inside at (drop at xs) ≡ at
unfolding blanks_end
blanks_end_at_end inside xs at past = rw (drop_all at xs past) refl

pub white_goes : (xs : List ℕ) (at : ℕ) → at < length xs → is_white (get_or xs at 0) ≡ true
    → blanks_end false at (drop at xs) ≡ blanks_end false (at + 1) (drop (at + 1) xs)
unfolding blanks_end
white_goes xs at within white = rw (drop_more xs at 0 within, white) refl

pub comment_begins : (xs : List ℕ) (at : ℕ) → at < length xs → is_white (get_or xs at 0) ≡ false → get_or xs at 0 ≡ 59
    → blanks_end false at (drop at xs) ≡ blanks_end true (at + 1) (drop (at + 1) xs)
unfolding blanks_end
comment_begins xs at within white semicolon =
    let e : eqb (get_or xs at 0) 59 ≡ true = grind (arith, nat_tests) in
    rw (drop_more xs at 0 within, white, e) refl

pub blanks_stop : (xs : List ℕ) (at : ℕ) → at < length xs → is_white (get_or xs at 0) ≡ false → get_or xs at 0 ≢ 59
    → blanks_end false at (drop at xs) ≡ at
unfolding blanks_end
blanks_stop xs at within white semicolon =
    let e : eqb (get_or xs at 0) 59 ≡ false = grind (arith, nat_tests) in
    rw (drop_more xs at 0 within, white, e) refl

-- a byte of a string that is no quote
pub string_step : (b at : ℕ) (rest : List ℕ) → eqb b 34 ≡ false → string_end at (b ∷ rest) ≡ string_end (at + 1) rest
unfolding string_end
string_step b at [] e = rw e refl
string_step b at (c ∷ rest) e = rw e refl

pub string_goes : (xs : List ℕ) (at : ℕ) → at < length xs → get_or xs at 0 ≢ 34
    → string_end at (drop at xs) ≡ string_end (at + 1) (drop (at + 1) xs)
string_goes xs at within other =
    let e : eqb (get_or xs at 0) 34 ≡ false = grind (arith, nat_tests) in
    rw (drop_more xs at 0 within) (string_step (get_or xs at 0) at (drop (at + 1) xs) e)

pub string_doubles : (xs : List ℕ) (at : ℕ) → at + 1 < length xs → get_or xs at 0 ≡ 34 → get_or xs (at + 1) 0 ≡ 34
    → string_end at (drop at xs) ≡ string_end (at + 2) (drop (at + 2) xs)
unfolding string_end
string_doubles xs at within quote again =
    let here : at < length xs = omega arith in
    let e : eqb (get_or xs at 0) 34 ≡ true = grind (arith, nat_tests) in
    let f : eqb (get_or xs (at + 1) 0) 34 ≡ true = grind (arith, nat_tests) in
    let two : at + 1 + 1 ≡ at + 2 = omega arith in
    rw (drop_more xs at 0 here, drop_more xs (at + 1) 0 within, e, f, two) refl

pub string_stops : (xs : List ℕ) (at : ℕ) → at + 1 < length xs → get_or xs at 0 ≡ 34 → get_or xs (at + 1) 0 ≢ 34
    → string_end at (drop at xs) ≡ Some (at + 1)
unfolding string_end
string_stops xs at within quote other =
    let here : at < length xs = omega arith in
    let e : eqb (get_or xs at 0) 34 ≡ true = grind (arith, nat_tests) in
    let f : eqb (get_or xs (at + 1) 0) 34 ≡ false = grind (arith, nat_tests) in
    rw (drop_more xs at 0 here, drop_more xs (at + 1) 0 within, e, f) refl

pub string_stops_at_end : (xs : List ℕ) (at : ℕ) → at < length xs → length xs ≤ at + 1 → get_or xs at 0 ≡ 34
    → string_end at (drop at xs) ≡ Some (at + 1)
unfolding string_end
string_stops_at_end xs at within past quote =
    let e : eqb (get_or xs at 0) 34 ≡ true = grind (arith, nat_tests) in
    rw (drop_more xs at 0 within, drop_all (at + 1) xs past, e) refl

pub string_open : (xs : List ℕ) (at : ℕ) → length xs ≤ at → string_end at (drop at xs) ≡ None
unfolding string_end
string_open xs at past = rw (drop_all at xs past) refl

-- no byte of a word is white space or begins a comment
pub blanks_stop_at_word : (xs : List ℕ) (at : ℕ) → at < length xs → is_word_byte (get_or xs at 0) ≡ true → blanks_end false at (drop at xs) ≡ at
blanks_stop_at_word xs at within word = blanks_stop xs at within (word_is_no_white _ word) (word_is_no_semicolon _ word)

pub ruleset comment_ends = (comment_goes, comment_stops_at_feed, comment_stops_at_return, blanks_end_at_end)

pub ruleset token_starts = (white_goes, comment_begins, blanks_stop, blanks_stop_at_word, blanks_end_at_end)

pub ruleset string_ends = (string_goes, string_doubles, string_stops, string_stops_at_end, string_open)
