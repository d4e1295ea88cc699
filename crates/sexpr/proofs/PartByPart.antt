-- What the loop over the parts of a text knows after white space, a comment, a bracket or another token.
use Rattle.std.proofs.Common.{◌≡◌, ◌≢◌, ℕ, ◌+◌, ◌<◌, ◌≤◌, Bool, true, false, not, ◌&&◌, cond, eqb, Option, Some, None, Ok, Err, List, [], ◌∷◌, length, get_or, drop, refl, sym, ap, ◌∙◌, subst, arith, eqb-true}
use Rattle.std.proofs.lemmas.Bool.Decides.{nat_tests}
use Rattle.std.proofs.lemmas.List.{drop_more}
use Rattle.std.specs.List.{prefix_len, take_while}
use Rattle.sexpr.specs.declared.brackets.OpenLists.{OpenLists}
use Rattle.sexpr.specs.declared.causes.Cause.TheVariants.{BadByte}
use Rattle.sexpr.specs.declared.causes.Refusal.{Refusal}
use Rattle.sexpr.specs.declared.lexing.Token.{Token}
use Rattle.sexpr.specs.declared.lexing.TokenKind.{TokenKind}
use Rattle.sexpr.specs.declared.lexing.TokenKind.TheVariants.{Open, Close, Quoted, Word}
use Rattle.sexpr.specs.Characters.{is_white, is_word_byte, is_between_bars}
use Rattle.sexpr.specs.Words.{starts_with_digit, is_number}
use Rattle.sexpr.specs.Tokens.{Read, bad_byte, token, blanks_end, string_end, string_token, quoted_token, word_token, token_at, next_token, ReadsAs}
use Rattle.sexpr.specs.Form.{IsStrayClose, IsOpenList, IsFormFault, HasForm}
use Rattle.sexpr.specs.Depths.{depth_after, lists_after, bracket_kind, end_of_read}
use Rattle.sexpr.proofs.Lexemes.{opens, closes, nothing_left}
use Rattle.sexpr.proofs.Scanning.{white_goes, comment_begins, blanks_stop, blanks_end_at_end}
use Rattle.sexpr.specs.OpenSoFar.{IsOpenAfter}
use Rattle.sexpr.proofs.OpenSoFar.{open_after_next, bad_byte_next, stray_next, formed_at_end, open_at_end}

-- blanks that end at one place have one token after them
same_next : (text : List ℕ) (p q : ℕ) → blanks_end false p (drop p text) ≡ blanks_end false q (drop q text) → next_token text p ≡ next_token text q
unfolding next_token
same_next text p q same = ap (λ start. token_at start (drop start text)) same

next_is_at : (text : List ℕ) (p q : ℕ) → blanks_end false p (drop p text) ≡ q → next_token text p ≡ token_at q (drop q text)
unfolding next_token
next_is_at text p q same = ap (λ start. token_at start (drop start text)) same

-- blanks change nothing
goes_on : (bytes : List ℕ) (p q : ℕ) (lists : OpenLists) → IsOpenAfter bytes bytes p lists → p ≤ q
    → blanks_end false p (drop p bytes) ≡ blanks_end false q (drop q bytes) → IsOpenAfter bytes bytes q lists
goes_on bytes p q lists so_far further same =
    let few = so_far.few in
    record {
      same_text = refl;
      tokens = so_far.tokens;
      read = subst (ReadsAs bytes 0 so_far.tokens) (same_next bytes p q same) so_far.read;
      few = omega arith;
      depth = so_far.depth;
      outermost = so_far.outermost;
    }

-- a token of this kind leaves the lists as they are
abbrev IsAtom : TokenKind → Type 0
IsAtom kind = (d : ℕ) → depth_after d kind ≡ Some d

-- what is read is a token that is no bracket, or a fault
abbrev IsAtomRead : Read → Type 0
IsAtomRead (Ok (Some t)) = IsAtom t.kind
IsAtomRead (Ok None) = ⊥
IsAtomRead (Err refusal) = Unit {0}

either_atom : (test : Bool) (x y : Read) → IsAtomRead x → IsAtomRead y → IsAtomRead (cond test x y)
either_atom true x y a b = a
either_atom false x y a b = b

string_atom : (at : ℕ) (end : Option ℕ) → IsAtomRead (string_token at end)
string_atom at None = tt
string_atom at (Some end) = λ d. refl

quoted_atom : (at place : ℕ) (rest : List ℕ) → IsAtomRead (quoted_token at place rest)
quoted_atom at place [] = tt
quoted_atom at place (b ∷ rest) = either_atom (eqb b 124) (token Quoted at (place + 1)) (bad_byte place) (λ d. refl) tt

word_atom : (at : ℕ) (word : List ℕ) → IsAtomRead (word_token at word)
word_atom at word = either_atom (starts_with_digit word && not (is_number word)) (bad_byte at) (token Word at (at + length word)) tt (λ d. refl)

atom_read : (b at : ℕ) (rest : List ℕ) → bracket_kind b ≡ None → IsAtomRead (token_at at (b ∷ rest))
unfolding token_at
atom_read b at rest none = go (eqb b 40) (eqb b 41) none
  where
    inside : ℕ
    inside = prefix_len is_between_bars rest

    words : Read
    words = cond (is_word_byte b) (word_token at (take_while is_word_byte (b ∷ rest))) (bad_byte at)

    in_bars : Read
    in_bars = quoted_token at (at + 1 + inside) (drop inside rest)

    others : Read
    others = cond (eqb b 34) (string_token at (string_end (at + 1) rest)) (cond (eqb b 124) in_bars words)

    are_atoms : IsAtomRead others
    are_atoms =
        let one = either_atom (is_word_byte b) (word_token at (take_while is_word_byte (b ∷ rest))) (bad_byte at) (word_atom at (take_while is_word_byte (b ∷ rest))) tt in
        let two = either_atom (eqb b 124) in_bars words (quoted_atom at (at + 1 + inside) (drop inside rest)) one in
        either_atom (eqb b 34) (string_token at (string_end (at + 1) rest)) (cond (eqb b 124) in_bars words) (string_atom at (string_end (at + 1) rest)) two

    go : (x y : Bool) → cond x (Some Open) (cond y (Some Close) None) ≡ None → IsAtomRead (cond x (token Open at (at + 1)) (cond y (token Close at (at + 1)) others))
    go true y e = absurd (cc)
    go false true e = absurd (cc)
    go false false e = are_atoms

-- a read that ends at this place
record EndsAt (read : Read) (end : ℕ) : Type 0 where
  found : Token
  is_read : read ≡ Ok (Some found)
  is_atom : IsAtom found.kind
  at_end : found.end ≡ end

ends_at : (len : ℕ) (read : Read) (end : ℕ) → IsAtomRead read → Ok end ≡ end_of_read len read → EndsAt read end
ends_at len (Ok (Some t)) end atom same = record { found = t; is_read = refl; is_atom = atom; at_end = cc }
ends_at len (Ok None) end atom same = absurd atom
ends_at len (Err refusal) end atom same = absurd (cc)

fault_of : (len : ℕ) (read : Read) (refusal : Refusal) → Err refusal ≡ end_of_read len read → Err refusal ≡ read
fault_of len (Ok (Some t)) refusal same = absurd (cc)
fault_of len (Ok None) refusal same = absurd (cc)
fault_of len (Err other) refusal same = cc

same_lists : (lists : OpenLists) (place : ℕ) (outermost : ℕ) (bytes text : List ℕ)
    → IsOpenAfter bytes text place (record { depth = lists.depth; outermost = cond (eqb lists.depth 0) outermost lists.outermost }) → IsOpenAfter bytes text place lists
same_lists lists place outermost bytes text so_far = record {
  same_text = so_far.same_text;
  tokens = so_far.tokens;
  read = so_far.read;
  few = so_far.few;
  depth = so_far.depth;
  outermost = λ k some.
      let test : eqb lists.depth 0 ≡ false = grind (arith, nat_tests) in
      let o = so_far.outermost k some in rw test at o;
}

module _ (bytes : List ℕ) (place : ℕ) (lists : OpenLists) (so_far : IsOpenAfter bytes bytes place lists) where
  -- white space
  pub open_after_white : place < length bytes → is_white (get_or bytes place 0) ≡ true → IsOpenAfter bytes bytes (place + 1) lists
  open_after_white within white = goes_on bytes place (place + 1) lists so_far (omega arith) (white_goes bytes place within white)

  -- a comment
  pub open_after_comment : (end : ℕ) → place < length bytes → is_white (get_or bytes place 0) ≡ false → get_or bytes place 0 ≡ 59 → place + 1 ≤ end
      → blanks_end true (place + 1) (drop (place + 1) bytes) ≡ blanks_end false end (drop end bytes) → IsOpenAfter bytes bytes end lists
  open_after_comment end within white semicolon further rest =
      goes_on bytes place end lists so_far (omega arith) (comment_begins bytes place within white semicolon ∙ rest)

  -- the token that comes next begins here
  begins_here : place < length bytes → is_white (get_or bytes place 0) ≡ false → get_or bytes place 0 ≢ 59 → next_token bytes place ≡ token_at place (drop place bytes)
  begins_here within white semicolon = next_is_at bytes place place (blanks_stop bytes place within white semicolon)

  next_bracket : (kind : TokenKind) → place < length bytes → is_white (get_or bytes place 0) ≡ false → Some kind ≡ bracket_kind (get_or bytes place 0)
      → Ok (Some (record { kind = kind; start = place; end = place + 1 })) ≡ next_token bytes place
  next_bracket kind within white is = go (eqb b 40) (eqb b 41) refl refl is
    where
      b : ℕ
      b = get_or bytes place 0

      here : (c : ℕ) → b ≡ c → c ≢ 59 → next_token bytes place ≡ token_at place (drop place bytes)
      here c e other = begins_here within white (λ f. other (sym e ∙ f))

      go : (x y : Bool) → eqb b 40 ≡ x → eqb b 41 ≡ y → Some kind ≡ cond x (Some Open) (cond y (Some Close) None)
          → Ok (Some (record { kind = kind; start = place; end = place + 1 })) ≡ next_token bytes place
      go true y e f is =
          let at : b ≡ 40 = eqb-true b 40 e in
          let k : Open ≡ kind = cc in
          sym (here 40 at (λ f. absurd (omega arith)) ∙ opens bytes place within at ∙ ap (λ kind. token kind place (place + 1)) k)
      go false true e f is =
          let at : b ≡ 41 = eqb-true b 41 f in
          let k : Close ≡ kind = cc in
          sym (here 41 at (λ f. absurd (omega arith)) ∙ closes bytes place within at ∙ ap (λ kind. token kind place (place + 1)) k)
      go false false e f is = absurd (cc)

  -- a bracket that has its place
  pub open_after_bracket : (kind : TokenKind) (after : OpenLists) → place < length bytes → is_white (get_or bytes place 0) ≡ false → Some kind ≡ bracket_kind (get_or bytes place 0)
      → Some after ≡ lists_after lists (record { kind = kind; start = place; end = place + 1 }) → IsOpenAfter bytes bytes (place + 1) after
  open_after_bracket kind after within white is step =
      open_after_next bytes bytes place lists so_far (record { kind = kind; start = place; end = place + 1 }) after (next_bracket kind within white is) (omega arith) step

  -- a closing bracket where no list is open
  pub stray_bracket : (kind : TokenKind) → place < length bytes → is_white (get_or bytes place 0) ≡ false → Some kind ≡ bracket_kind (get_or bytes place 0)
      → lists_after lists (record { kind = kind; start = place; end = place + 1 }) ≡ None → IsStrayClose bytes place
  stray_bracket kind within white is step =
      stray_next bytes bytes place lists so_far (record { kind = kind; start = place; end = place + 1 }) (next_bracket kind within white is) step

  -- another token
  pub open_after_atom : (end : ℕ) → place < length bytes → is_white (get_or bytes place 0) ≡ false → None ≡ bracket_kind (get_or bytes place 0) → get_or bytes place 0 ≢ 59
      → place < end → Ok end ≡ end_of_read (length bytes) (token_at place (drop place bytes)) → IsOpenAfter bytes bytes end lists
  open_after_atom end within white none semicolon further same =
      let atom : IsAtomRead (token_at place (drop place bytes)) = subst (λ xs. IsAtomRead (token_at place xs)) (sym (drop_more bytes place 0 within)) (atom_read (get_or bytes place 0) place _ (sym none)) in
      let e = ends_at (length bytes) (token_at place (drop place bytes)) end atom same in
      let next : Ok (Some e.found) ≡ next_token bytes place = sym (begins_here within white semicolon ∙ e.is_read) in
      let longer : place < e.found.end = rw (e.at_end) further in
      let after : OpenLists = record { depth = lists.depth; outermost = cond (eqb lists.depth 0) e.found.start lists.outermost } in
      let step : Some after ≡ lists_after lists e.found = rw (e.is_atom lists.depth) refl in
      subst (λ q. IsOpenAfter bytes bytes q lists) e.at_end
      (same_lists lists e.found.end e.found.start bytes bytes (open_after_next bytes bytes place lists so_far e.found after next longer step))

  -- a fault
  pub fault_at_atom : (refusal : Refusal) → place < length bytes → is_white (get_or bytes place 0) ≡ false → get_or bytes place 0 ≢ 59
      → Err refusal ≡ end_of_read (length bytes) (token_at place (drop place bytes)) → refusal.cause ≡ BadByte → IsFormFault bytes refusal
  fault_at_atom refusal within white semicolon same is =
      bad_byte_next bytes bytes place lists so_far refusal (fault_of (length bytes) _ refusal same ∙ sym (begins_here within white semicolon)) is

  next_end : length bytes ≤ place → Ok None ≡ next_token bytes place
  next_end past = sym (next_is_at bytes place place (blanks_end_at_end false bytes place past) ∙ nothing_left bytes place past)

  -- the end, where no list is open
  pub formed_here : length bytes ≤ place → lists.depth ≡ 0 → HasForm bytes
  formed_here past none = formed_at_end bytes bytes place lists so_far (next_end past) none

  -- the end, where a list is open
  pub open_here : length bytes ≤ place → lists.depth ≢ 0 → IsOpenList bytes lists.outermost
  open_here past some = open_at_end bytes bytes place lists so_far (next_end past) some
