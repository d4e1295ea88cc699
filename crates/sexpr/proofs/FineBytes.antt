-- How far a text has form, by its parts and by blocks of its bytes.
use Rattle.std.proofs.Common.{◌≡◌, ◌≢◌, ◌⊎◌, inl, inr, ℕ, zero, suc, ◌+◌, ◌-◌, ◌<◌, ◌≤◌, Bool, true, false, not, ◌&&◌, ◌||◌, cond, eqb, List, [], ◌∷◌, length, get_or, take, drop, Some, None, Ok, refl, sym, ap, ap₂, ◌∙◌, subst, arith, eqb-true, if◌then◌else◌, ◌==◌}
use Rattle.std.proofs.lemmas.Bool.{agree_below_at, cases_lt, or_cases}
use Rattle.std.proofs.lemmas.Bool.Decides.{nat_tests}
use Rattle.std.proofs.lemmas.List.{drop_more, length-drop}
use Rattle.std.proofs.lemmas.List.Folds.{length-prefix_len}
use Rattle.std.proofs.lemmas.List.Sums.{prefix_len-le-length}
use Rattle.std.specs.Char.{is_ascii_digit}
use Rattle.std.specs.List.{prefix_len, take_while}
use Rattle.sexpr.specs.declared.brackets.OpenLists.{OpenLists}
use Rattle.sexpr.specs.declared.lexing.TokenKind.TheVariants.{Open, Close, Word}
use Rattle.sexpr.specs.Characters.{is_white, is_word_byte, is_mark}
use Rattle.sexpr.specs.Words.{starts_with_digit, is_number}
use Rattle.sexpr.specs.Tokens.{blanks_end, token, token_at, word_token}
use Rattle.sexpr.specs.Depths.{bracket_kind, end_of_read, lists_after}
use Rattle.sexpr.specs.Form.{HasForm}
use Rattle.sexpr.specs.Blocks.{is_common, is_fine, AreFine, count_of, rest_of_word, IsFormedTo, IsFormedSoFar}
use Rattle.sexpr.proofs.Lexemes.{no_word_byte, word_is_no_white, word_is_no_semicolon, word_at_its_byte}
use Rattle.sexpr.proofs.PartByPart.{open_after_white, open_after_comment, open_after_bracket, open_after_atom, formed_here}

-- a byte of a word is no bracket
word_is_no_bracket : (b : ℕ) → is_word_byte b ≡ true → None ≡ bracket_kind b
unfolding is_word_byte is_mark
word_is_no_bracket b word = rw (no_word_byte b 40 refl word, no_word_byte b 41 refl word) refl

-- a word that begins with no digit is no broken number
no_number : (n x : ℕ) (xs : List ℕ) → is_ascii_digit x ≡ false → (starts_with_digit (take (suc n) (x ∷ xs)) && not (is_number (take (suc n) (x ∷ xs)))) ≡ false
no_number n x xs no_digit = rw no_digit refl

common_is_word : (b : ℕ) → b < 256 → is_common b ≡ true → is_word_byte b ≡ true
unfolding is_word_byte is_mark
common_is_word b small common =
    let all = agree_below_at (λ x. not (is_common x) || is_word_byte x) (λ _. true) 256 b refl small in
    rw common at all

-- of the fine bytes those of words are common
fine_word : (b : ℕ) → b < 256 → is_fine b ≡ true → is_common b ≡ is_word_byte b
unfolding is_word_byte is_mark
fine_word b small fine =
    let all = agree_below_at (λ x. is_fine x && is_common x) (λ x. is_fine x && is_word_byte x) 256 b refl small in
    rw fine at all

-- the part of a text that begins at a byte
module _ (bytes : List ℕ) (place : ℕ) (within : place < length bytes) where
  b : ℕ
  b = get_or bytes place 0

  pub formed_white : (d : ℕ) → IsFormedTo bytes place d → is_white (get_or bytes place 0) ≡ true → IsFormedTo bytes (place + 1) d
  formed_white d f white = record { lists = f.lists; known = open_after_white bytes place f.lists f.known within white; is_depth = f.is_depth }

  pub formed_comment : (d end : ℕ) → IsFormedTo bytes place d → is_white (get_or bytes place 0) ≡ false → get_or bytes place 0 ≡ 59 → place + 1 ≤ end
      → blanks_end true (place + 1) (drop (place + 1) bytes) ≡ blanks_end false end (drop end bytes) → IsFormedTo bytes end d
  formed_comment d end f white semicolon further rest =
      record { lists = f.lists; known = open_after_comment bytes place f.lists f.known end within white semicolon further rest; is_depth = f.is_depth }

  pub formed_open : (d : ℕ) → IsFormedTo bytes place d → get_or bytes place 0 ≡ 40 → IsFormedTo bytes (place + 1) (d + 1)
  unfolding is_white
  formed_open d f here =
      let after : OpenLists = record { depth = f.lists.depth + 1; outermost = cond (eqb f.lists.depth 0) place f.lists.outermost } in
      record {
        lists = after;
        known = open_after_bracket bytes place f.lists f.known Open after within (rw here refl) (rw here refl) refl;
        is_depth = ap (λ n. n + 1) f.is_depth;
      }

  pub formed_close : (d : ℕ) → IsFormedTo bytes place d → get_or bytes place 0 ≡ 41 → d ≢ 0 → IsFormedTo bytes (place + 1) (d - 1)
  unfolding is_white
  formed_close d f here some =
      let is_depth = f.is_depth in
      let test : eqb f.lists.depth 0 ≡ false = grind (arith, nat_tests) in
      let after : OpenLists = record { depth = f.lists.depth - 1; outermost = f.lists.outermost } in
      let step : Some after ≡ lists_after f.lists (record { kind = Close; start = place; end = place + 1 }) = rw test refl in
      record {
        lists = after;
        known = open_after_bracket bytes place f.lists f.known Close after within (rw here refl) (rw here refl) step;
        is_depth = ap (λ n. n - 1) is_depth;
      }

  pub formed_atom : (d end : ℕ) → IsFormedTo bytes place d → is_white (get_or bytes place 0) ≡ false → get_or bytes place 0 ≢ 40 → get_or bytes place 0 ≢ 41
      → get_or bytes place 0 ≢ 59 → place < end → Ok end ≡ end_of_read (length bytes) (token_at place (drop place bytes)) → IsFormedTo bytes end d
  formed_atom d end f white no_open no_close semicolon further same =
      let one : eqb (get_or bytes place 0) 40 ≡ false = grind (arith, nat_tests) in
      let two : eqb (get_or bytes place 0) 41 ≡ false = grind (arith, nat_tests) in
      record {
        lists = f.lists;
        known = open_after_atom bytes place f.lists f.known end within white (rw (one, two) refl) semicolon further same;
        is_depth = f.is_depth;
      }

  -- a word goes on
  rest_goes : is_word_byte (get_or bytes place 0) ≡ true → prefix_len is_word_byte (drop place bytes) ≡ suc (prefix_len is_word_byte (drop (place + 1) bytes))
  rest_goes word =
      let len : prefix_len is_word_byte (drop place bytes) ≡ 1 + prefix_len is_word_byte (drop (place + 1) bytes) = rw (drop_more bytes place 0 within, word) refl in
      omega arith

  rest_ends : (inside : Bool) → is_word_byte (get_or bytes place 0) ≡ false → place + rest_of_word inside bytes place ≡ place
  rest_ends true other = let len : prefix_len is_word_byte (drop place bytes) ≡ 0 = rw (drop_more bytes place 0 within, other) refl in omega arith
  rest_ends false other = omega arith

  -- a word that is no number begins
  word_begins_here : is_word_byte (get_or bytes place 0) ≡ true → is_ascii_digit (get_or bytes place 0) ≡ false
      → Ok (place + prefix_len is_word_byte (drop place bytes)) ≡ end_of_read (length bytes) (token_at place (drop place bytes))
  word_begins_here word no_digit =
      let whole : take_while is_word_byte (drop place bytes) ≡ take (suc (prefix_len is_word_byte (drop (place + 1) bytes))) (get_or bytes place 0 ∷ drop (place + 1) bytes)
      = ap₂ take (rest_goes word) (drop_more bytes place 0 within) in
      let taken = subst (λ w. (starts_with_digit w && not (is_number w)) ≡ false) (sym whole) (no_number (prefix_len is_word_byte (drop (place + 1) bytes)) (get_or bytes place 0) (drop (place + 1) bytes) no_digit) in
      let len = length-prefix_len is_word_byte (drop place bytes) in
      let read : word_token place (take_while is_word_byte (drop place bytes)) ≡ token Word place (place + prefix_len is_word_byte (drop place bytes)) = rw (taken, len) refl in
      sym (ap (end_of_read (length bytes)) (word_at_its_byte bytes place within word ∙ read))

  formed_word : (d : ℕ) → IsFormedTo bytes place d → is_word_byte (get_or bytes place 0) ≡ true → is_ascii_digit (get_or bytes place 0) ≡ false
      → IsFormedTo bytes (place + prefix_len is_word_byte (drop place bytes)) d
  formed_word d f word no_digit =
      let goes = rest_goes word in
      record {
        lists = f.lists;
        known = open_after_atom bytes place f.lists f.known _ within (word_is_no_white _ word) (word_is_no_bracket _ word) (word_is_no_semicolon _ word)
            (omega arith) (word_begins_here word no_digit);
        is_depth = f.is_depth;
      }

  -- a fine byte
  module _ (small : get_or bytes place 0 < 256) (fine : is_fine (get_or bytes place 0) ≡ true) (inside : Bool)
      (joined : is_ascii_digit (get_or bytes place 0) ≡ true → inside ≡ true) (d after : ℕ)
      (count : after + (if get_or bytes place 0 == 41 then 1 else 0) ≡ d + (if get_or bytes place 0 == 40 then 1 else 0)) (so_far : IsFormedSoFar bytes place inside d) where
    here : is_word_byte (get_or bytes place 0) ≡ false → IsFormedTo bytes place d
    here other = subst (λ p. IsFormedTo bytes p d) (rest_ends inside other) so_far

    -- a byte of a word leaves the lists as they are
    word_keeps : is_word_byte (get_or bytes place 0) ≡ true → after ≡ d
    unfolding is_word_byte is_mark
    word_keeps word =
        let counted = rw (no_word_byte (get_or bytes place 0) 41 refl word, no_word_byte (get_or bytes place 0) 40 refl word) at count in
        omega arith

    in_word : (test : Bool) → inside ≡ test → is_word_byte (get_or bytes place 0) ≡ true → IsFormedTo bytes (place + prefix_len is_word_byte (drop place bytes)) d
    in_word true e word = subst (λ i. IsFormedTo bytes (place + rest_of_word i bytes place) d) e so_far
    in_word false e word =
        let from : IsFormedTo bytes (place + 0) d = subst (λ i. IsFormedTo bytes (place + rest_of_word i bytes place) d) e so_far in
        let at : place + 0 ≡ place = omega arith in
        formed_word d (subst (λ p. IsFormedTo bytes p d) at from) word (no_digit (is_ascii_digit (get_or bytes place 0)) refl)
      where
        no_digit : (test : Bool) → is_ascii_digit (get_or bytes place 0) ≡ test → test ≡ false
        no_digit true digit = let other = joined digit in absurd (cc)
        no_digit false digit = refl

    after_word : is_word_byte (get_or bytes place 0) ≡ true → IsFormedTo bytes (place + 1 + prefix_len is_word_byte (drop (place + 1) bytes)) after
    after_word word =
        let goes = rest_goes word in
        let at : place + prefix_len is_word_byte (drop place bytes) ≡ place + 1 + prefix_len is_word_byte (drop (place + 1) bytes) = omega arith in
        subst (λ n. IsFormedTo bytes (place + 1 + prefix_len is_word_byte (drop (place + 1) bytes)) n) (sym (word_keeps word))
        (subst (λ p. IsFormedTo bytes p d) at (in_word inside refl word))

    -- another fine byte is a bracket, a space or a line feed
    abbrev IsHere : ℕ → Type 0
    IsHere c = get_or bytes place 0 ≡ c

    no_word : (c : ℕ) → IsHere c → is_word_byte c ≡ false → is_word_byte (get_or bytes place 0) ≡ false
    no_word c e other = subst (λ x. is_word_byte x ≡ false) (sym e) other

    after_white : (c : ℕ) → IsHere c → is_word_byte c ≡ false → is_white c ≡ true → eqb c 40 ≡ false → eqb c 41 ≡ false → IsFormedTo bytes (place + 1 + 0) after
    after_white c e other white no_open no_close =
        let counted = rw (e, no_open, no_close) at count in
        let same : d ≡ after = omega arith in
        let at : place + 1 ≡ place + 1 + 0 = omega arith in
        subst (λ p. IsFormedTo bytes p after) at (subst (IsFormedTo bytes (place + 1)) same (formed_white d (here (no_word c e other)) (subst (λ x. is_white x ≡ true) (sym e) white)))

    after_open : IsHere 40 → IsFormedTo bytes (place + 1 + 0) after
    unfolding is_word_byte is_mark
    after_open e =
        let counted = rw e at count in
        let same : d + 1 ≡ after = omega arith in
        let at : place + 1 ≡ place + 1 + 0 = omega arith in
        subst (λ p. IsFormedTo bytes p after) at (subst (IsFormedTo bytes (place + 1)) same (formed_open d (here (no_word 40 e refl)) e))

    after_close : IsHere 41 → IsFormedTo bytes (place + 1 + 0) after
    unfolding is_word_byte is_mark
    after_close e =
        let counted = rw e at count in
        let same : d - 1 ≡ after = omega arith in
        let at : place + 1 ≡ place + 1 + 0 = omega arith in
        subst (λ p. IsFormedTo bytes p after) at (subst (IsFormedTo bytes (place + 1)) same (formed_close d (here (no_word 41 e refl)) e (omega arith)))

    after_other : is_common (get_or bytes place 0) ≡ false → IsFormedTo bytes (place + 1 + 0) after
    unfolding is_word_byte is_mark is_white
    after_other other =
        let some = rw other at fine in
        elim (or_cases _ _ some) [
          | inl others ↦ elim (or_cases _ _ others) [
            | inl others ↦ elim (or_cases _ _ others) [
              | inl opens ↦ after_open (eqb-true _ 40 opens)
              | inr closes ↦ after_close (eqb-true _ 41 closes)
            ]
            | inr space ↦ after_white 32 (eqb-true _ 32 space) refl refl refl refl
          ]
          | inr feed ↦ after_white 10 (eqb-true _ 10 feed) refl refl refl refl
        ]

    pub formed_fine : IsFormedSoFar bytes (place + 1) (is_common (get_or bytes place 0)) after
    formed_fine = go (is_common (get_or bytes place 0)) refl
      where
        go : (test : Bool) → is_common (get_or bytes place 0) ≡ test → IsFormedSoFar bytes (place + 1) test after
        go true e = after_word (common_is_word (get_or bytes place 0) small e)
        go false e = after_other e

-- a byte stands no more often among fewer
count_of-step : (byte : ℕ) (text : List ℕ) (at n : ℕ) → count_of byte text at n ≤ count_of byte text at (suc n)
count_of-step byte text at n = omega arith

count_of-fewer : (byte : ℕ) (text : List ℕ) (at k n : ℕ) → k ≤ n → count_of byte text at k ≤ count_of byte text at n
count_of-fewer byte text at k zero few = let same : k ≡ 0 = omega arith in rw same (omega arith)
count_of-fewer byte text at k (suc n) few = elim (cases_le_suc k n few) [
  | inl less ↦ let rest = count_of-fewer byte text at k n less in let step = count_of-step byte text at n in omega arith
  | inr same ↦ rw same (omega arith)
]
  where
    cases_le_suc : (k n : ℕ) → k ≤ suc n → (k ≤ n) ⊎ (k ≡ suc n)
    cases_le_suc k n few = elim (cases_lt n k) [ inl more ↦ inr (omega arith) | inr less ↦ inl (omega arith) ]

-- a block of fine bytes
module _ (bytes : List ℕ) (small : (k : ℕ) → get_or bytes k 0 < 256) (at : ℕ) (room : at + 17 ≤ length bytes) (fine : AreFine bytes at 16) (inside : Bool) (d : ℕ)
    (first : is_ascii_digit (get_or bytes at 0) ≡ true → inside ≡ true) (deep : count_of 41 bytes at 16 ≤ d) (so_far : IsFormedSoFar bytes at inside d) where
  abbrev inside_at : ℕ → Bool
  inside_at zero = inside
  inside_at (suc k) = is_common (get_or bytes (at + k) 0)

  joined_at : (k : ℕ) → k < 16 → is_ascii_digit (get_or bytes (at + k) 0) ≡ true → inside_at k ≡ true
  joined_at zero within digit = let here : at + 0 ≡ at = omega arith in first (subst (λ p. is_ascii_digit (get_or bytes p 0) ≡ true) here digit)
  joined_at (suc k) within digit =
      let here : at + suc k ≡ at + k + 1 = omega arith in
      (fine k (omega arith)).joined (subst (λ p. is_ascii_digit (get_or bytes p 0) ≡ true) here digit)

  formed_at : (k : ℕ) → k ≤ 16 → (after : ℕ) → after + count_of 41 bytes at k ≡ d + count_of 40 bytes at k → IsFormedSoFar bytes (at + k) (inside_at k) after
  formed_at zero within after count =
      let here : at ≡ at + 0 = omega arith in
      let same : d ≡ after = omega arith in
      subst (λ p. IsFormedSoFar bytes p inside after) here (subst (IsFormedSoFar bytes at inside) same so_far)
  formed_at (suc k) within after count =
      let few = count_of-fewer 41 bytes at k 16 (omega arith) in
      let before : ℕ = d + count_of 40 bytes at k - count_of 41 bytes at k in
      let was = formed_at k (omega arith) before (omega arith) in
      let next = formed_fine bytes (at + k) (omega arith) (small (at + k)) (fine k (omega arith)).fine (inside_at k) (joined_at k (omega arith)) before after
      (omega arith) was in
      let here : at + k + 1 ≡ at + suc k = omega arith in
      subst (λ p. IsFormedSoFar bytes p (is_common (get_or bytes (at + k) 0)) after) here next

  pub formed_block : IsFormedSoFar bytes (at + 16) (is_word_byte (get_or bytes (at + 15) 0)) (d - count_of 41 bytes at 16 + count_of 40 bytes at 16)
  formed_block =
      subst (λ word. IsFormedSoFar bytes (at + 16) word (d - count_of 41 bytes at 16 + count_of 40 bytes at 16))
      (fine_word (get_or bytes (at + 15) 0) (small (at + 15)) (fine 15 (omega arith)).fine)
      (formed_at 16 (omega arith) (d - count_of 41 bytes at 16 + count_of 40 bytes at 16) (omega arith))

-- a place in a word lies within the text, and so does the end of the word
pub rest_within : (bytes : List ℕ) (place : ℕ) (inside : Bool) → place ≤ length bytes → place + rest_of_word inside bytes place ≤ length bytes
rest_within bytes place true within = let few = prefix_len-le-length is_word_byte (drop place bytes) in let left = length-drop place bytes in omega (arith, few, left)
rest_within bytes place false within = omega arith

pub joined_first : (inside digit : Bool) → (not inside && digit) ≡ false → digit ≡ true → inside ≡ true
joined_first true digit none is = refl
joined_first false true none is = absurd (cc)
joined_first false false none is = absurd (cc)

-- at the start of a text, and at its end
pub formed_from_start : (bytes : List ℕ) → IsFormedSoFar bytes 0 false 0
formed_from_start bytes = record {
  lists = record { depth = 0; outermost = 0 };
  known = record {
    same_text = refl;
    tokens = [];
    read = refl;
    few = omega arith;
    depth = refl;
    outermost = λ k some. absurd (omega arith);
  };
  is_depth = refl;
}

pub formed_whole : (bytes : List ℕ) (place : ℕ) (inside : Bool) → place ≤ length bytes → length bytes ≤ place → IsFormedSoFar bytes place inside 0 → HasForm bytes
formed_whole bytes place inside within past f =
    let end = rest_within bytes place inside within in
    formed_here bytes (place + rest_of_word inside bytes place) f.lists f.known (omega arith) f.is_depth
