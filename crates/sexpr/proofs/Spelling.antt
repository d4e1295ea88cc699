-- A token that is read is spelled as the grammar says.
use Rattle.std.proofs.Common.{◌≡◌, ℕ, suc, ◌+◌, ◌-◌, ◌<◌, Bool, true, false, not, ◌&&◌, cond, eqb, Option, Some, None, Ok, List, [], ◌∷◌, ◌++◌, length, take, drop, refl, sym, ap, ◌∙◌, subst, arith, eqb-true, append_assoc, length-append, get_or-take, take-append-drop}
use Rattle.std.proofs.lemmas.Bool.Decides.{nat_tests}
use Rattle.std.proofs.lemmas.List.{drop-drop, take_at, drop_at}
use Rattle.std.proofs.lemmas.List.Elements.{All-nil, All-cons, All-from_get_or}
use Rattle.std.proofs.lemmas.List.Sums.{prefix_len_passes}
use Rattle.std.proofs.lemmas.List.Folds.{length-prefix_len}
use Rattle.std.specs.List.{prefix_len, take_while, AllPass}
use Rattle.sexpr.specs.declared.lexing.Token.{Token}
use Rattle.sexpr.specs.declared.lexing.TokenKind.{TokenKind}
use Rattle.sexpr.specs.declared.lexing.TokenKind.TheVariants.{Open, Close, Text, Quoted, Word}
use Rattle.sexpr.specs.Characters.{is_white, ends_comment, is_word_byte, is_between_bars}
use Rattle.sexpr.specs.Words.{starts_with_digit, is_number}
use Rattle.sexpr.specs.Tokens.{Read, token, bad_byte, blanks_end, string_end, string_token, quoted_token, word_token, token_at, next_token, token_text}
use Rattle.sexpr.specs.Grammar.{begins_with, ends_line, SkipsTo, nothing, white, comment, IsInString, empty, other, quote, IsSpelling, goes_on, IsSpelledNext}

-- which way a choice went
data Chosen {A : Type 0} (b : Bool) (x y z : A) : Type 0 where
  yes : b ≡ true → x ≡ z → Chosen b x y z
  no : b ≡ false → y ≡ z → Chosen b x y z

chosen : {A : Type 0} (b : Bool) (x y z : A) → cond b x y ≡ z → Chosen b x y z
chosen true x y z e = yes refl e
chosen false x y z e = no refl e

-- the place after the blanks is that many bytes on, and the blanks are what the grammar says
pub record Skipped (at : ℕ) (rest : List ℕ) (end : ℕ) : Type 0 where
  pub len : ℕ
  pub place : end ≡ at + len
  pub skips : SkipsTo (drop len rest) rest

record Commented (at : ℕ) (rest : List ℕ) (end : ℕ) : Type 0 where
  line : List ℕ
  next : List ℕ
  split : rest ≡ line ++ next
  bytes : AllPass (λ b. not (ends_comment b)) line
  ends : ends_line next ≡ true
  pub len : ℕ
  place : end ≡ at + length line + len
  skips : SkipsTo (drop len next) next

pub ending_is_white : (b : ℕ) → ends_comment b ≡ true → is_white b ≡ true
unfolding ends_comment is_white
ending_is_white b ends = grind (arith, nat_tests)

skip_white : (at b : ℕ) (rest : List ℕ) (end : ℕ) → is_white b ≡ true → Skipped (at + 1) rest end → Skipped at (b ∷ rest) end
skip_white at b rest end is_blank later = let p = later.place in record { len = suc later.len; place = omega arith; skips = white b rest is_blank later.skips }

skip_comment : (at b : ℕ) (rest : List ℕ) (end : ℕ) → b ≡ 59 → Commented (at + 1) rest end → Skipped at (b ∷ rest) end
skip_comment at b rest end semicolon c =
    let p = c.place in
    let dropped : drop (length c.line + c.len) (c.line ++ c.next) ≡ drop c.len c.next =
    sym (drop-drop c.len (length c.line) (c.line ++ c.next)) ∙ ap (drop c.len) (drop_at c.line c.next (length c.line) refl) in
    let whole : SkipsTo (drop (length c.line + c.len) (c.line ++ c.next)) (59 ∷ (c.line ++ c.next)) =
    subst (λ after. SkipsTo after (59 ∷ (c.line ++ c.next))) (sym dropped) (comment c.line c.next c.bytes c.ends c.skips) in
    record {
      len = suc (length c.line + c.len);
      place = omega arith;
      skips = subst (λ xs. SkipsTo (drop (length c.line + c.len) xs) (b ∷ xs)) (sym c.split) (subst (λ s. SkipsTo (drop (length c.line + c.len) (c.line ++ c.next)) (s ∷ (c.line ++ c.next))) (sym semicolon) whole);
    }

comment_more : (at b : ℕ) (rest : List ℕ) (end : ℕ) → ends_comment b ≡ false → Commented (at + 1) rest end → Commented at (b ∷ rest) end
comment_more at b rest end goes c =
    let p = c.place in
    record {
      line = b ∷ c.line;
      next = c.next;
      split = ap (λ xs. b ∷ xs) c.split;
      bytes = All-cons (λ x. not (ends_comment x) ≡ true) b c.line (ap not goes) c.bytes;
      ends = c.ends;
      len = c.len;
      place = let e : length (b ∷ c.line) ≡ suc (length c.line) = refl in omega arith;
      skips = c.skips;
    }

comment_done : (at b : ℕ) (rest : List ℕ) (end : ℕ) → ends_comment b ≡ true → Skipped (at + 1) rest end → Commented at (b ∷ rest) end
comment_done at b rest end ends later =
    let s = skip_white at b rest end (ending_is_white b ends) later in
    let p = s.place in
    record {
      line = [];
      next = b ∷ rest;
      split = refl;
      bytes = All-nil (λ x. not (ends_comment x) ≡ true);
      ends = ends;
      len = s.len;
      place = let e : length {A = ℕ} [] ≡ 0 = refl in omega arith;
      skips = s.skips;
    }

skipped_by : (at b : ℕ) (rest : List ℕ) (w s : Bool) → is_white b ≡ w → eqb b 59 ≡ s → Skipped (at + 1) rest (blanks_end false (at + 1) rest) → Commented (at + 1) rest (blanks_end true (at + 1) rest)
    → Skipped at (b ∷ rest) (cond w (blanks_end false (at + 1) rest) (cond s (blanks_end true (at + 1) rest) at))
skipped_by at b rest true s e f later inside = skip_white at b rest _ e later
skipped_by at b rest false true e f later inside = skip_comment at b rest _ (eqb-true b 59 f) inside
skipped_by at b rest false false e f later inside = record { len = 0; place = omega arith; skips = nothing }

commented_by : (at b : ℕ) (rest : List ℕ) (x : Bool) → ends_comment b ≡ x → Skipped (at + 1) rest (blanks_end false (at + 1) rest) → Commented (at + 1) rest (blanks_end true (at + 1) rest)
    → Commented at (b ∷ rest) (blanks_end (not x) (at + 1) rest)
commented_by at b rest true e later inside = comment_done at b rest _ e later
commented_by at b rest false e later inside = comment_more at b rest _ e inside

mutual
  unfolding blanks_end

  pub skipped : (at : ℕ) (rest : List ℕ) → Skipped at rest (blanks_end false at rest)
  skipped at [] = record { len = 0; place = omega arith; skips = nothing }
  skipped at (b ∷ rest) = skipped_by at b rest (is_white b) (eqb b 59) refl refl (skipped (at + 1) rest) (commented (at + 1) rest)

  commented : (at : ℕ) (rest : List ℕ) → Commented at rest (blanks_end true at rest)
  commented at [] = record { line = []; next = []; split = refl; bytes = All-nil (λ x. not (ends_comment x) ≡ true); ends = refl; len = 0; place = let e : length {A = ℕ} [] ≡ 0 = refl in omega arith; skips = nothing }
  commented at (b ∷ rest) = commented_by at b rest (ends_comment b) refl (skipped (at + 1) rest) (commented (at + 1) rest)

-- what stands between an opening byte and the next of the same, and what follows
enclosed_take : (q : ℕ) (inside after rest : List ℕ) → rest ≡ inside ++ q ∷ after → take (length inside + 1) rest ≡ inside ++ q ∷ []
enclosed_take q inside after rest split =
    ap (take (length inside + 1)) (split ∙ sym (append_assoc inside (q ∷ []) after))
    ∙ take_at (inside ++ q ∷ []) after (length inside + 1) (length-append inside (q ∷ []))

enclosed_drop : (q : ℕ) (inside after rest : List ℕ) → rest ≡ inside ++ q ∷ after → drop (length inside + 1) rest ≡ after
enclosed_drop q inside after rest split =
    ap (drop (length inside + 1)) (split ∙ sym (append_assoc inside (q ∷ []) after))
    ∙ drop_at (inside ++ q ∷ []) after (length inside + 1) (length-append inside (q ∷ []))

-- a string to its closing quote
record Closed (at : ℕ) (rest : List ℕ) (end : ℕ) : Type 0 where
  inside : List ℕ
  after : List ℕ
  split : rest ≡ inside ++ 34 ∷ after
  is_inside : IsInString inside
  stops : begins_with (λ b. eqb b 34) after ≡ false
  place : end ≡ at + (length inside + 1)

some_is : (x y : ℕ) → Some x ≡ Some y → x ≡ y
some_is x y e = cc

close_here : (at b : ℕ) (after : List ℕ) (end : ℕ) → b ≡ 34 → begins_with (λ b. eqb b 34) after ≡ false → Some (at + 1) ≡ Some end → Closed at (b ∷ after) end
close_here at b after end is stops e =
    let f = some_is (at + 1) end e in
    record { inside = []; after = after; split = ap (λ x. x ∷ after) is; is_inside = empty; stops = stops; place = let n : length {A = ℕ} [] ≡ 0 = refl in omega arith }

close_later : (at b : ℕ) (rest : List ℕ) (end : ℕ) → eqb b 34 ≡ false → Closed (at + 1) rest end → Closed at (b ∷ rest) end
close_later at b rest end is c =
    let p = c.place in
    record {
      inside = b ∷ c.inside;
      after = c.after;
      split = ap (λ xs. b ∷ xs) c.split;
      is_inside = other b c.inside is c.is_inside;
      stops = c.stops;
      place = let n : length (b ∷ c.inside) ≡ suc (length c.inside) = refl in omega arith;
    }

close_after_two : (at b d : ℕ) (rest : List ℕ) (end : ℕ) → b ≡ 34 → d ≡ 34 → Closed (at + 2) rest end → Closed at (b ∷ d ∷ rest) end
close_after_two at b d rest end is also c =
    let p = c.place in
    record {
      inside = 34 ∷ 34 ∷ c.inside;
      after = c.after;
      split = λ i. is i ∷ also i ∷ c.split i;
      is_inside = quote c.inside c.is_inside;
      stops = c.stops;
      place = let n : length (34 ∷ 34 ∷ c.inside) ≡ suc (suc (length c.inside)) = refl in omega arith;
    }

no_end : (end : ℕ) → None ≡ Some end → ⊥
no_end end e = cc

closed : (at : ℕ) (rest : List ℕ) (end : ℕ) → string_end at rest ≡ Some end → Closed at rest end
unfolding string_end
closed at [] end e = absurd (no_end end e)
closed at (b ∷ []) end e = go (chosen (eqb b 34) (Some (at + 1)) None (Some end) e)
  where
    go : Chosen (eqb b 34) (Some (at + 1)) None (Some end) → Closed at (b ∷ []) end
    go (yes is e) = close_here at b [] end (eqb-true b 34 is) refl e
    go (no is e) = absurd (no_end end e)
closed at (b ∷ c ∷ rest) end e = go (chosen (eqb b 34) _ _ (Some end) e) (λ h. closed (at + 2) rest end h) (λ h. closed (at + 1) (c ∷ rest) end h)
  where
    inner : eqb b 34 ≡ true → Chosen (eqb c 34) (string_end (at + 2) rest) (Some (at + 1)) (Some end) → (string_end (at + 2) rest ≡ Some end → Closed (at + 2) rest end) → Closed at (b ∷ c ∷ rest) end
    inner is (yes also e) two = close_after_two at b c rest end (eqb-true b 34 is) (eqb-true c 34 also) (two e)
    inner is (no also e) two = close_here at b (c ∷ rest) end (eqb-true b 34 is) also e

    go : Chosen (eqb b 34) (cond (eqb c 34) (string_end (at + 2) rest) (Some (at + 1))) (string_end (at + 1) (c ∷ rest)) (Some end)
        → (string_end (at + 2) rest ≡ Some end → Closed (at + 2) rest end) → (string_end (at + 1) (c ∷ rest) ≡ Some end → Closed (at + 1) (c ∷ rest) end) → Closed at (b ∷ c ∷ rest) end
    go (yes is e) two one = inner is (chosen (eqb c 34) (string_end (at + 2) rest) (Some (at + 1)) (Some end) e) two
    go (no is e) two one = close_later at b (c ∷ rest) end is (one e)

-- the bytes at the front that pass, and what stops them
all_front : (p : ℕ → Bool) (xs : List ℕ) → AllPass p (take (prefix_len p xs) xs)
all_front p xs =
    All-from_get_or (λ x. p x ≡ true) (take (prefix_len p xs) xs) 0
    (λ k within.
    let below : k < prefix_len p xs = omega (arith, length-prefix_len p xs) in
    subst (λ x. p x ≡ true) (sym (get_or-take (prefix_len p xs) xs k 0 below)) (prefix_len_passes p xs k 0 below))

front_stops : (p : ℕ → Bool) (xs : List ℕ) → begins_with p (drop (prefix_len p xs) xs) ≡ false
front_stops p [] = refl
front_stops p (x ∷ xs) = go (p x) refl (front_stops p xs)
  where
    go : (b : Bool) → p x ≡ b → begins_with p (drop (prefix_len p xs) xs) ≡ false → begins_with p (drop (cond b (1 + prefix_len p xs) 0) (x ∷ xs)) ≡ false
    go true e later = let n : 1 + prefix_len p xs ≡ suc (prefix_len p xs) = omega arith in rw n later
    go false e later = e

-- how a token that is read at the front of the rest of a text is spelled
pub record Shape (at : ℕ) (rest : List ℕ) (t : Token) : Type 0 where
  pub start : t.start ≡ at
  pub len : ℕ
  pub end : t.end ≡ at + len
  pub spelled : IsSpelling t.kind (take len rest)
  pub longest : goes_on t.kind (drop len rest) ≡ false

record IsThis (kind : TokenKind) (start end : ℕ) (t : Token) : Type 0 where
  same_kind : t.kind ≡ kind
  same_start : t.start ≡ start
  same_end : t.end ≡ end

this_token : (kind : TokenKind) (start end : ℕ) (t : Token) → token kind start end ≡ Ok (Some t) → IsThis kind start end t
this_token kind start end t e =
    let f : record { kind = kind; start = start; end = end } ≡ t = cc in
    record { same_kind = ap (λ t. t.kind) (sym f); same_start = ap (λ t. t.start) (sym f); same_end = ap (λ t. t.end) (sym f) }

shape_of : (kind : TokenKind) (at end len : ℕ) (rest : List ℕ) (t : Token) → token kind at end ≡ Ok (Some t) → end ≡ at + len → IsSpelling kind (take len rest) → goes_on kind (drop len rest) ≡ false → Shape at rest t
shape_of kind at end len rest t e place spelled longest =
    let is = this_token kind at end t e in
    record {
      start = is.same_start;
      len = len;
      end = is.same_end ∙ place;
      spelled = subst (λ k. IsSpelling k (take len rest)) (sym is.same_kind) spelled;
      longest = subst (λ k. goes_on k (drop len rest) ≡ false) (sym is.same_kind) longest;
    }

no_token : (place : ℕ) (t : Token) → bad_byte place ≡ Ok (Some t) → ⊥
no_token place t e = cc

string_shape : (at : ℕ) (rest : List ℕ) (t : Token) → string_token at (string_end (at + 1) rest) ≡ Ok (Some t) → Shape at (34 ∷ rest) t
string_shape at rest t e = go (string_end (at + 1) rest) refl e
  where
    go : (o : Option ℕ) → string_end (at + 1) rest ≡ o → string_token at o ≡ Ok (Some t) → Shape at (34 ∷ rest) t
    go None is e = absurd (no_token at t e)
    go (Some end) is e =
        let c = closed (at + 1) rest end is in
        let p = c.place in
        let place : end ≡ at + suc (length c.inside + 1) = omega arith in
        shape_of Text at end (suc (length c.inside + 1)) (34 ∷ rest) t e place
        (record { inside = c.inside; in_quotes = ap (λ xs. 34 ∷ xs) (enclosed_take 34 c.inside c.after rest c.split); is_inside = c.is_inside })
        (ap (begins_with (λ b. eqb b 34)) (enclosed_drop 34 c.inside c.after rest c.split) ∙ c.stops)

quoted_shape : (at : ℕ) (rest : List ℕ) (t : Token)
    → quoted_token at (at + 1 + prefix_len is_between_bars rest) (drop (prefix_len is_between_bars rest) rest) ≡ Ok (Some t) → Shape at (124 ∷ rest) t
quoted_shape at rest t e = go (drop (prefix_len is_between_bars rest) rest) refl e
  where
    inside : List ℕ
    inside = take (prefix_len is_between_bars rest) rest

    this : (b : ℕ) (after : List ℕ) → drop (prefix_len is_between_bars rest) rest ≡ b ∷ after
        → Chosen (eqb b 124) (token Quoted at (at + 1 + prefix_len is_between_bars rest + 1)) (bad_byte (at + 1 + prefix_len is_between_bars rest)) (Ok (Some t)) → Shape at (124 ∷ rest) t
    this b after is (no differs e) = absurd (no_token _ t e)
    this b after is (yes bar e) =
        let len : length inside ≡ prefix_len is_between_bars rest = length-prefix_len is_between_bars rest in
        let split : rest ≡ inside ++ 124 ∷ after =
        sym (take-append-drop (prefix_len is_between_bars rest) rest) ∙ ap (λ xs. inside ++ xs) (is ∙ ap (λ b. b ∷ after) (eqb-true b 124 bar)) in
        let place : at + 1 + prefix_len is_between_bars rest + 1 ≡ at + suc (length inside + 1) = omega arith in
        shape_of Quoted at _ (suc (length inside + 1)) (124 ∷ rest) t e place
        (record { inside = inside; in_bars = ap (λ xs. 124 ∷ xs) (enclosed_take 124 inside after rest split); is_inside = all_front is_between_bars rest })
        refl

    go : (xs : List ℕ) → drop (prefix_len is_between_bars rest) rest ≡ xs → quoted_token at (at + 1 + prefix_len is_between_bars rest) xs ≡ Ok (Some t) → Shape at (124 ∷ rest) t
    go [] is e = absurd (no_token at t e)
    go (b ∷ after) is e = this b after is (chosen (eqb b 124) _ _ (Ok (Some t)) e)

word_shape : (at b : ℕ) (rest : List ℕ) (t : Token) → is_word_byte b ≡ true → word_token at (take_while is_word_byte (b ∷ rest)) ≡ Ok (Some t) → Shape at (b ∷ rest) t
word_shape at b rest t first e = go (chosen _ _ _ (Ok (Some t)) e)
  where
    spelling : List ℕ
    spelling = take_while is_word_byte (b ∷ rest)

    not_refused : (x y : Bool) → (x && not y) ≡ false → x ≡ true → y ≡ true
    not_refused true true e h = refl
    not_refused true false e h = sym e
    not_refused false y e h = let f : false ≡ true = h in cc

    go : Chosen (starts_with_digit spelling && not (is_number spelling)) (bad_byte at) (token Word at (at + length spelling)) (Ok (Some t)) → Shape at (b ∷ rest) t
    go (yes refused e) = absurd (no_token at t e)
    go (no taken e) =
        let len : length spelling ≡ prefix_len is_word_byte (b ∷ rest) = length-prefix_len is_word_byte (b ∷ rest) in
        let one : prefix_len is_word_byte (b ∷ rest) ≡ 1 + prefix_len is_word_byte rest = ap (λ x. cond x (1 + prefix_len is_word_byte rest) 0) first in
        let place : at + length spelling ≡ at + prefix_len is_word_byte (b ∷ rest) = omega arith in
        shape_of Word at _ (prefix_len is_word_byte (b ∷ rest)) (b ∷ rest) t e place
        (record { some = omega arith; bytes = all_front is_word_byte (b ∷ rest); number = not_refused (starts_with_digit spelling) (is_number spelling) taken })
        (front_stops is_word_byte (b ∷ rest))

end_is_no_token : (t : Token) (read : Read) → read ≡ Ok None → read ≡ Ok (Some t) → ⊥
end_is_no_token t read h e = cc

pub shape : (at : ℕ) (rest : List ℕ) (t : Token) → token_at at rest ≡ Ok (Some t) → Shape at rest t
unfolding token_at
shape at [] t e = absurd (end_is_no_token t (Ok None) refl e)
shape at (b ∷ rest) t e = open_first (chosen (eqb b 40) _ _ (Ok (Some t)) e)
  where
    bytes : Read
    bytes = cond (is_word_byte b) (word_token at (take_while is_word_byte (b ∷ rest))) (bad_byte at)

    bars : Read
    bars = cond (eqb b 124) (quoted_token at (at + 1 + prefix_len is_between_bars rest) (drop (prefix_len is_between_bars rest) rest)) bytes

    quotes : Read
    quotes = cond (eqb b 34) (string_token at (string_end (at + 1) rest)) bars

    with_first : (c : ℕ) → eqb b c ≡ true → Shape at (c ∷ rest) t → Shape at (b ∷ rest) t
    with_first c is s = subst (λ x. Shape at (x ∷ rest) t) (sym (eqb-true b c is)) s

    word_last : Chosen (is_word_byte b) (word_token at (take_while is_word_byte (b ∷ rest))) (bad_byte at) (Ok (Some t)) → Shape at (b ∷ rest) t
    word_last (yes is e) = word_shape at b rest t is e
    word_last (no is e) = absurd (no_token at t e)

    bars_fourth : Chosen (eqb b 124) (quoted_token at (at + 1 + prefix_len is_between_bars rest) (drop (prefix_len is_between_bars rest) rest)) bytes (Ok (Some t)) → Shape at (b ∷ rest) t
    bars_fourth (yes is e) = with_first 124 is (quoted_shape at rest t e)
    bars_fourth (no is e) = word_last (chosen (is_word_byte b) _ _ (Ok (Some t)) e)

    quotes_third : Chosen (eqb b 34) (string_token at (string_end (at + 1) rest)) bars (Ok (Some t)) → Shape at (b ∷ rest) t
    quotes_third (yes is e) = with_first 34 is (string_shape at rest t e)
    quotes_third (no is e) = bars_fourth (chosen (eqb b 124) _ _ (Ok (Some t)) e)

    close_second : Chosen (eqb b 41) (token Close at (at + 1)) quotes (Ok (Some t)) → Shape at (b ∷ rest) t
    close_second (yes is e) = with_first 41 is (shape_of Close at (at + 1) 1 (41 ∷ rest) t e refl refl refl)
    close_second (no is e) = quotes_third (chosen (eqb b 34) _ _ (Ok (Some t)) e)

    open_first : Chosen (eqb b 40) (token Open at (at + 1)) (cond (eqb b 41) (token Close at (at + 1)) quotes) (Ok (Some t)) → Shape at (b ∷ rest) t
    open_first (yes is e) = with_first 40 is (shape_of Open at (at + 1) 1 (40 ∷ rest) t e refl refl refl)
    open_first (no is e) = close_second (chosen (eqb b 41) _ _ (Ok (Some t)) e)

-- the token that comes next is spelled as the grammar says
pub spelled_next : (text : List ℕ) (at : ℕ) (t : Token) → next_token text at ≡ Ok (Some t) → IsSpelledNext text at t
unfolding next_token
spelled_next text at t e =
    let start = blanks_end false at (drop at text) in
    let s = shape start (drop start text) t e in
    let k = skipped at (drop at text) in
    let begins : t.start ≡ at + k.len = s.start ∙ k.place in
    let rest : drop k.len (drop at text) ≡ drop t.start text = drop-drop k.len at text ∙ ap (λ n. drop n text) (sym begins) in
    let same_start : start ≡ t.start = sym s.start in
    let spelling : take s.len (drop start text) ≡ token_text text t =
    let n : t.end - t.start ≡ s.len = omega (arith, s.end, s.start) in
    ap (λ m. take m (drop start text)) (sym n) ∙ ap (λ m. take (t.end - t.start) (drop m text)) same_start in
    let follows : drop s.len (drop start text) ≡ drop t.end text = drop-drop s.len start text ∙ ap (λ n. drop n text) (sym s.end) in
    record {
      before = subst (λ after. SkipsTo after (drop at text)) rest k.skips;
      spelled = subst (IsSpelling t.kind) spelling s.spelled;
      longest = ap (goes_on t.kind) (sym follows) ∙ s.longest;
    }
