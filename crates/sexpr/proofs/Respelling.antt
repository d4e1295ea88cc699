-- Cited by crates above. What is spelled as the grammar says is read.
use Rattle.std.proofs.Common.{◌≡◌, ℕ, zero, suc, ◌+◌, ◌-◌, ◌<◌, ◌≤◌, Bool, true, false, not, ◌&&◌, ◌||◌, cond, eqb, Option, Some, None, Ok, Err, List, [], ◌∷◌, ◌++◌, length, take, drop, refl, sym, ap, ◌∙◌, subst, arith, eqb-true, append_assoc, length-append, length-drop, length-take-le, take-append-drop, ◌↔◌}
use Rattle.std.proofs.lemmas.List.{drop_all, drop-drop, drop_at}
use Rattle.std.proofs.lemmas.List.Elements.{All-head, All-tail}
use Rattle.std.proofs.lemmas.Bool.{not-true}
use Rattle.std.specs.List.{prefix_len, take_while, AllPass}
use Rattle.sexpr.specs.declared.lexing.Token.{Token}
use Rattle.sexpr.specs.declared.lexing.TokenKind.{TokenKind}
use Rattle.sexpr.specs.declared.lexing.TokenKind.TheVariants.{Open, Close, Text, Quoted, Word}
use Rattle.sexpr.specs.Characters.{is_white, ends_comment, is_mark, is_word_byte, is_between_bars}
use Rattle.sexpr.specs.Words.{starts_with_digit, is_number}
use Rattle.sexpr.specs.Tokens.{Read, token, bad_byte, blanks_end, string_end, string_token, quoted_token, word_token, token_at, next_token}
use Rattle.sexpr.specs.Grammar.{begins_with, ends_line, SkipsTo, nothing, white, comment, IsInString, empty, other, quote, IsWord, IsSpelling, goes_on, IsSpelledNext}
use Rattle.sexpr.proofs.ByteTable.{white_is_no_word}
use Rattle.sexpr.proofs.Scanning.{comment_step, white_step, string_step}
use Rattle.sexpr.proofs.Spelling.{ending_is_white, skipped}

-- a byte that may be skipped
abbrev is_blank : ℕ → Bool
is_blank b = is_white b || eqb b 59

record BothFalse (x y : Bool) : Type 0 where
  first : x ≡ false
  second : y ≡ false

or_parts : (x y : Bool) → (x || y) ≡ false → BothFalse x y
or_parts true y e = let f : true ≡ false = e in cc
or_parts false y e = record { first = refl; second = e }

blanks_end-at_none : (at : ℕ) (rest : List ℕ) → begins_with is_blank rest ≡ false → blanks_end false at rest ≡ at
unfolding blanks_end
blanks_end-at_none at [] none = refl
blanks_end-at_none at (b ∷ rest) none = let p = or_parts (is_white b) (eqb b 59) none in rw (p.first, p.second) refl

-- the line of a comment
comment_line : (at : ℕ) (line rest : List ℕ) → AllPass (λ b. not (ends_comment b)) line → blanks_end true at (line ++ rest) ≡ blanks_end true (at + length line) rest
comment_line at [] rest all = ap (λ n. blanks_end true n rest) (let e : at ≡ at + 0 = omega arith in e)
comment_line at (b ∷ line) rest all =
    comment_step b at (line ++ rest) false (not-true (ends_comment b) (All-head (λ x. not (ends_comment x) ≡ true) b line all))
    ∙ comment_line (at + 1) line rest (All-tail (λ x. not (ends_comment x) ≡ true) b line all)
    ∙ ap (λ n. blanks_end true n rest) (let e : at + 1 + length line ≡ at + suc (length line) = omega arith in e)

line_end : (at : ℕ) (rest : List ℕ) → ends_line rest ≡ true → blanks_end true at rest ≡ blanks_end false at rest
unfolding blanks_end
line_end at [] ends = refl
line_end at (b ∷ rest) ends = comment_step b at rest true ends ∙ sym (white_step b at rest (ending_is_white b ends))

semicolon_step : (at : ℕ) (rest : List ℕ) → blanks_end false at (59 ∷ rest) ≡ blanks_end true (at + 1) rest
unfolding blanks_end is_white
semicolon_step at rest = refl

pub skips_length : (after : List ℕ) {rest : List ℕ} → SkipsTo after rest → length after ≤ length rest
skips_length after nothing = omega arith
skips_length after (white b rest is skips) = let h = skips_length after skips in omega arith
skips_length after (comment line rest all ends skips) =
    let h = skips_length after skips in
    let n : length (59 ∷ (line ++ rest)) ≡ suc (length line + length rest) = ap suc (length-append line rest) in
    omega arith

-- blanks end where the grammar says, where nothing more may be skipped
skips_end : (after : List ℕ) (at : ℕ) {rest : List ℕ} → SkipsTo after rest → begins_with is_blank after ≡ false → blanks_end false at rest + length after ≡ at + length rest
skips_end after at nothing none = ap (λ n. n + length after) (blanks_end-at_none at after none)
skips_end after at (white b rest is skips) none =
    ap (λ n. n + length after) (white_step b at rest is)
    ∙ skips_end after (at + 1) skips none
    ∙ (let e : at + 1 + length rest ≡ at + suc (length rest) = omega arith in e)
skips_end after at (comment line rest all ends skips) none =
    ap (λ n. n + length after) (semicolon_step at (line ++ rest) ∙ comment_line (at + 1) line rest all ∙ line_end (at + 1 + length line) rest ends)
    ∙ skips_end after (at + 1 + length line) skips none
    ∙ (let n : length (line ++ rest) ≡ length line + length rest = length-append line rest in
    let e : at + 1 + length line + length rest ≡ at + suc (length (line ++ rest)) = omega arith in e)

-- the prefix of a list that begins with a byte
nil_cons : (c : ℕ) (s : List ℕ) → [] ≡ c ∷ s → ⊥
nil_cons c s e = cc

same_head : (x c : ℕ) (xs s : List ℕ) → x ∷ xs ≡ c ∷ s → x ≡ c
same_head x c xs s e = cc

first_byte : (xs : List ℕ) (n c : ℕ) (s : List ℕ) → take n xs ≡ c ∷ s → xs ≡ c ∷ drop 1 xs
first_byte xs zero c s e = absurd (nil_cons c s e)
first_byte [] (suc n) c s e = absurd (nil_cons c s e)
first_byte (x ∷ xs) (suc n) c s e = ap (λ h. h ∷ xs) (same_head x c (take n xs) s e)

-- the first byte of a word
record FirstOfWord (xs : List ℕ) : Type 0 where
  byte : ℕ
  is_byte : is_word_byte byte ≡ true
  begins : xs ≡ byte ∷ drop 1 xs

first_of_word : (xs : List ℕ) (n : ℕ) → IsWord (take n xs) → FirstOfWord xs
first_of_word xs n word = go (take n xs) refl word
  where
    go : (w : List ℕ) → take n xs ≡ w → IsWord w → FirstOfWord xs
    go [] e word = let some = word.some in absurd (omega arith)
    go (c ∷ s) e word = record { byte = c; is_byte = All-head (λ x. is_word_byte x ≡ true) c s word.bytes; begins = first_byte xs n c s e }

differs : (b c : ℕ) → is_word_byte b ≡ true → is_word_byte c ≡ false → eqb b c ≡ false
differs b c word mark = go (eqb b c) refl
  where
    go : (x : Bool) → eqb b c ≡ x → eqb b c ≡ false
    go true e = let f : true ≡ false = sym word ∙ ap is_word_byte (eqb-true b c e) ∙ mark in cc
    go false e = e

-- no token begins with a byte that may be skipped
no_blank_byte : (c : ℕ) (xs : List ℕ) → is_blank c ≡ false → xs ≡ c ∷ drop 1 xs → begins_with is_blank xs ≡ false
no_blank_byte c xs none begins = ap (begins_with is_blank) begins ∙ none

white_if_no_word : (b : ℕ) → is_word_byte b ≡ true → is_white b ≡ false
white_if_no_word b word = go (is_white b) refl
  where
    go : (x : Bool) → is_white b ≡ x → is_white b ≡ false
    go true e = let f : true ≡ false = sym word ∙ white_is_no_word b e in cc
    go false e = e

no_blank : (kind : TokenKind) (n : ℕ) (xs : List ℕ) → IsSpelling kind (take n xs) → begins_with is_blank xs ≡ false
unfolding is_white is_word_byte is_mark
no_blank Open n xs spelled = no_blank_byte 40 xs refl (first_byte xs n 40 [] spelled)
no_blank Close n xs spelled = no_blank_byte 41 xs refl (first_byte xs n 41 [] spelled)
no_blank Text n xs spelled = no_blank_byte 34 xs refl (first_byte xs n 34 (spelled.inside ++ 34 ∷ []) spelled.in_quotes)
no_blank Quoted n xs spelled = no_blank_byte 124 xs refl (first_byte xs n 124 (spelled.inside ++ 124 ∷ []) spelled.in_bars)
no_blank Word n xs spelled =
    let f = first_of_word xs n spelled in
    no_blank_byte f.byte xs (ap (λ w. w || eqb f.byte 59) (white_if_no_word f.byte f.is_byte) ∙ differs f.byte 59 f.is_byte refl) f.begins

-- a string to its closing quote
string_read : (at : ℕ) {inside : List ℕ} (after : List ℕ) → IsInString inside → begins_with (λ b. eqb b 34) after ≡ false → string_end at (inside ++ 34 ∷ after) ≡ Some (at + (length inside + 1))
unfolding string_end
string_read at [] empty stops = let n : at + 1 ≡ at + (0 + 1) = omega arith in ap Some n
string_read at (c ∷ after) empty stops = let n : at + 1 ≡ at + (0 + 1) = omega arith in rw stops (ap Some n)
string_read at after (other b rest is inside) stops =
    string_step b at (rest ++ 34 ∷ after) is ∙ string_read (at + 1) after inside stops
    ∙ (let n : at + 1 + (length rest + 1) ≡ at + (suc (length rest) + 1) = omega arith in ap Some n)
string_read at after (quote rest inside) stops =
    string_read (at + 2) after inside stops
    ∙ (let n : at + 2 + (length rest + 1) ≡ at + (suc (suc (length rest)) + 1) = omega arith in ap Some n)

-- what passes is the prefix, where the next byte doesn't
prefix_len-front : (p : ℕ → Bool) (xs ys : List ℕ) → AllPass p xs → begins_with p ys ≡ false → prefix_len p (xs ++ ys) ≡ length xs
prefix_len-front p [] [] all stops = refl
prefix_len-front p [] (y ∷ ys) all stops = rw stops refl
prefix_len-front p (x ∷ xs) ys all stops =
    let here : p x ≡ true = All-head (λ b. p b ≡ true) x xs all in
    rw here (ap (λ n. 1 + n) (prefix_len-front p xs ys (All-tail (λ b. p b ≡ true) x xs all) stops) ∙ (let n : 1 + length xs ≡ suc (length xs) = omega arith in n))

-- the rest of a text from a spelling on
rest_is : (n : ℕ) (xs spelling : List ℕ) → take n xs ≡ spelling → xs ≡ spelling ++ drop n xs
rest_is n xs spelling e = sym (take-append-drop n xs) ∙ ap (λ front. front ++ drop n xs) e

count_is : (n : ℕ) (xs spelling : List ℕ) → take n xs ≡ spelling → n ≤ length xs → n ≡ length spelling
count_is n xs spelling e within = sym (length-take-le n xs within) ∙ ap length e

bracket_read : (kind : TokenKind) (c at n : ℕ) (xs : List ℕ) → ((rest : List ℕ) → token_at at (c ∷ rest) ≡ token kind at (at + 1)) → take n xs ≡ c ∷ [] → n ≤ length xs → token_at at xs ≡ token kind at (at + n)
bracket_read kind c at n xs step spelled within =
    ap (token_at at) (rest_is n xs (c ∷ []) spelled) ∙ step (drop n xs)
    ∙ ap (λ m. token kind at (at + m)) (sym (count_is n xs (c ∷ []) spelled within))

open_step : (at : ℕ) (rest : List ℕ) → token_at at (40 ∷ rest) ≡ token Open at (at + 1)
unfolding token_at
open_step at rest = refl

close_step : (at : ℕ) (rest : List ℕ) → token_at at (41 ∷ rest) ≡ token Close at (at + 1)
unfolding token_at
close_step at rest = refl

string_step_at : (at : ℕ) (rest : List ℕ) → token_at at (34 ∷ rest) ≡ string_token at (string_end (at + 1) rest)
unfolding token_at
string_step_at at rest = refl

quoted_step : (at : ℕ) (rest : List ℕ) → token_at at (124 ∷ rest) ≡ quoted_token at (at + 1 + prefix_len is_between_bars rest) (drop (prefix_len is_between_bars rest) rest)
unfolding token_at
quoted_step at rest = refl

word_step : (at b : ℕ) (rest : List ℕ) → is_word_byte b ≡ true → token_at at (b ∷ rest) ≡ word_token at (take_while is_word_byte (b ∷ rest))
unfolding token_at is_word_byte is_mark
word_step at b rest word =
    rw (differs b 40 word refl, differs b 41 word refl, differs b 34 word refl, differs b 124 word refl, word) refl

-- what follows the opening byte of a string or a quoted symbol
enclosed_rest : (q n : ℕ) (xs inside : List ℕ) → take n xs ≡ q ∷ (inside ++ q ∷ []) → xs ≡ q ∷ (inside ++ q ∷ drop n xs)
enclosed_rest q n xs inside e = rest_is n xs (q ∷ (inside ++ q ∷ [])) e ∙ ap (λ ys. q ∷ ys) (append_assoc inside (q ∷ []) (drop n xs))

enclosed_count : (q n : ℕ) (xs inside : List ℕ) → take n xs ≡ q ∷ (inside ++ q ∷ []) → n ≤ length xs → n ≡ suc (length inside + 1)
enclosed_count q n xs inside e within = count_is n xs (q ∷ (inside ++ q ∷ [])) e within ∙ ap suc (length-append inside (q ∷ []))

not_refused : (x y : Bool) → (x ≡ true → y ≡ true) → (x && not y) ≡ false
not_refused true y number = ap not (number refl)
not_refused false y number = refl

-- a token that is spelled at the front and can't go on is read
token_read : (kind : TokenKind) (at n : ℕ) (xs : List ℕ) → IsSpelling kind (take n xs) → goes_on kind (drop n xs) ≡ false → n ≤ length xs → token_at at xs ≡ token kind at (at + n)
token_read Open at n xs spelled stops within = bracket_read Open 40 at n xs (open_step at) spelled within
token_read Close at n xs spelled stops within = bracket_read Close 41 at n xs (close_step at) spelled within
token_read Text at n xs spelled stops within =
    let len = enclosed_count 34 n xs spelled.inside spelled.in_quotes within in
    let end : at + 1 + (length spelled.inside + 1) ≡ at + n = omega (arith, len) in
    ap (token_at at) (enclosed_rest 34 n xs spelled.inside spelled.in_quotes)
    ∙ string_step_at at (spelled.inside ++ 34 ∷ drop n xs)
    ∙ ap (string_token at) (string_read (at + 1) (drop n xs) spelled.is_inside stops)
    ∙ ap (token Text at) end
token_read Quoted at n xs spelled stops within =
    let inside = spelled.inside in
    let len = enclosed_count 124 n xs inside spelled.in_bars within in
    let count = prefix_len-front is_between_bars inside (124 ∷ drop n xs) spelled.is_inside refl in
    let end : at + 1 + length inside + 1 ≡ at + n = omega (arith, len) in
    ap (token_at at) (enclosed_rest 124 n xs inside spelled.in_bars)
    ∙ quoted_step at (inside ++ 124 ∷ drop n xs)
    ∙ ap (λ m. quoted_token at (at + 1 + m) (drop m (inside ++ 124 ∷ drop n xs))) count
    ∙ ap (quoted_token at (at + 1 + length inside)) (drop_at inside (124 ∷ drop n xs) (length inside) refl)
    ∙ ap (token Quoted at) end
token_read Word at n xs spelled stops within =
    let f = first_of_word xs n spelled in
    let w = take n xs in
    let len : length w ≡ n = length-take-le n xs within in
    let count : prefix_len is_word_byte xs ≡ n =
    ap (prefix_len is_word_byte) (sym (take-append-drop n xs)) ∙ prefix_len-front is_word_byte w (drop n xs) spelled.bytes stops ∙ len in
    ap (token_at at) f.begins
    ∙ word_step at f.byte (drop 1 xs) f.is_byte
    ∙ ap (λ ys. word_token at (take_while is_word_byte ys)) (sym f.begins)
    ∙ ap (λ m. word_token at (take m xs)) count
    ∙ ap (λ refused. cond refused (bad_byte at) (token Word at (at + length w))) (not_refused (starts_with_digit w) (is_number w) spelled.number)
    ∙ ap (λ m. token Word at (at + m)) len

-- a token that the grammar has next is the one that is read
pub read_next : (text : List ℕ) (at : ℕ) (t : Token) → IsSpelledNext text at t → t.start < t.end → t.end ≤ length text → next_token text at ≡ Ok (Some t)
unfolding next_token
read_next text at t next some within =
    let n : ℕ = t.end - t.start in
    let start : ℕ = blanks_end false at (drop at text) in
    let starts = skips_end (drop t.start text) at next.before (no_blank t.kind n (drop t.start text) next.spelled) in
    let shorter = skips_length (drop t.start text) next.before in
    let here : start ≡ t.start = omega (arith, starts, shorter, length-drop t.start text, length-drop at text) in
    let inside : n ≤ length (drop t.start text) = omega (arith, length-drop t.start text) in
    let follows : drop n (drop t.start text) ≡ drop t.end text =
    drop-drop n t.start text ∙ (let e : t.start + n ≡ t.end = omega arith in ap (λ m. drop m text) e) in
    let stops = ap (goes_on t.kind) follows ∙ next.longest in
    let end : t.start + n ≡ t.end = omega arith in
    ap (λ m. token_at m (drop m text)) here
    ∙ token_read t.kind t.start n (drop t.start text) next.spelled stops inside
    ∙ ap (token t.kind t.start) end

-- a read that returns the end
abbrev is_end : Read → Bool
is_end (Ok None) = true
is_end (Ok (Some t)) = false
is_end (Err refusal) = false

neither_end : (b : Bool) (x y : Read) → is_end x ≡ false → is_end y ≡ false → is_end (cond b x y) ≡ false
neither_end true x y first second = first
neither_end false x y first second = second

string_is_no_end : (at : ℕ) (end : Option ℕ) → is_end (string_token at end) ≡ false
string_is_no_end at None = refl
string_is_no_end at (Some end) = refl

quoted_is_no_end : (at place : ℕ) (rest : List ℕ) → is_end (quoted_token at place rest) ≡ false
quoted_is_no_end at place [] = refl
quoted_is_no_end at place (b ∷ rest) = neither_end (eqb b 124) (token Quoted at (place + 1)) (bad_byte place) refl refl

-- the end is read at the end alone
no_end_at_byte : (at b : ℕ) (rest : List ℕ) → is_end (token_at at (b ∷ rest)) ≡ false
unfolding token_at
no_end_at_byte at b rest =
    neither_end (eqb b 40) _ _ refl
    (neither_end (eqb b 41) _ _ refl
    (neither_end (eqb b 34) _ _ (string_is_no_end at (string_end (at + 1) rest))
    (neither_end (eqb b 124) _ _ (quoted_is_no_end at (at + 1 + prefix_len is_between_bars rest) (drop (prefix_len is_between_bars rest) rest))
    (neither_end (is_word_byte b) _ _ (neither_end (starts_with_digit (take_while is_word_byte (b ∷ rest)) && not (is_number (take_while is_word_byte (b ∷ rest)))) _ _ refl refl) refl))))

end_at_nothing : (at : ℕ) (rest : List ℕ) → token_at at rest ≡ Ok None → rest ≡ []
end_at_nothing at [] e = refl
end_at_nothing at (b ∷ rest) e = let f : false ≡ true = sym (no_end_at_byte at b rest) ∙ ap is_end e in cc

nothing_read : (at : ℕ) (rest : List ℕ) → rest ≡ [] → token_at at rest ≡ Ok None
unfolding token_at
nothing_read at rest e = ap (token_at at) e

-- the end comes next exactly where nothing but white space and comments is left
pub end_next : (text : List ℕ) (at : ℕ) → (next_token text at ≡ Ok None) ↔ SkipsTo [] (drop at text)
unfolding next_token
end_next text at = (
  (λ e.
      let k = skipped at (drop at text) in
      let nothing_left : drop (blanks_end false at (drop at text)) text ≡ [] = end_at_nothing (blanks_end false at (drop at text)) _ e in
      let same : drop k.len (drop at text) ≡ drop (blanks_end false at (drop at text)) text = drop-drop k.len at text ∙ ap (λ n. drop n text) (sym k.place) in
      subst (λ after. SkipsTo after (drop at text)) (same ∙ nothing_left) k.skips),
  (λ skips.
      let ends = skips_end [] at skips refl in
      let zero_len : length {A = ℕ} [] ≡ 0 = refl in
      nothing_read (blanks_end false at (drop at text)) _ (drop_all (blanks_end false at (drop at text)) text (omega (arith, ends, length-drop at text)))),
)
