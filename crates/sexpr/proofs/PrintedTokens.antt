-- One token behind blanks, and what stands behind a printed token.
use Rattle.std.proofs.Common.{◌≡◌, ℕ, ◌+◌, ◌-◌, ◌<◌, false, Some, Ok, List, [], ◌∷◌, ◌++◌, length, take, drop}
use Rattle.std.proofs.Common.{refl, sym, ap, ◌∙◌, subst, arith, length-append, length-drop}
use Rattle.std.proofs.lemmas.List.{drop_all, drop-drop, take-append-le, drop-append-le}
use Rattle.sexpr.specs.declared.lexing.Token.{Token}
use Rattle.sexpr.specs.declared.lexing.TokenKind.{TokenKind}
use Rattle.sexpr.specs.declared.lexing.TokenKind.TheVariants.{Open, Close, Text, Quoted, Word}
use Rattle.sexpr.specs.Characters.{is_white, is_mark, is_word_byte}
use Rattle.sexpr.specs.Tokens.{next_token, token_text}
use Rattle.sexpr.specs.Grammar.{SkipsTo, nothing, white, IsSpelling, goes_on}
use Rattle.sexpr.proofs.Respelling.{read_next}

-- what follows makes no token longer
abbrev pub Stops : List ℕ → Type 0
Stops rest = (kind : TokenKind) → goes_on kind rest ≡ false

pub stops_end : Stops []
stops_end Open = refl
stops_end Close = refl
stops_end Text = refl
stops_end Quoted = refl
stops_end Word = refl

pub stops_close : (rest : List ℕ) → Stops (41 ∷ rest)
unfolding is_word_byte is_mark
stops_close rest Open = refl
stops_close rest Close = refl
stops_close rest Text = refl
stops_close rest Quoted = refl
stops_close rest Word = refl

pub stops_space : (rest : List ℕ) → Stops (32 ∷ rest)
unfolding is_word_byte is_mark
stops_space rest Open = refl
stops_space rest Close = refl
stops_space rest Text = refl
stops_space rest Quoted = refl
stops_space rest Word = refl

pub stops_line : (rest : List ℕ) → Stops (10 ∷ rest)
unfolding is_word_byte is_mark
stops_line rest Open = refl
stops_line rest Close = refl
stops_line rest Text = refl
stops_line rest Quoted = refl
stops_line rest Word = refl

-- bytes in front of an item that are skipped
abbrev pub Skips : List ℕ → Type 0
Skips before = (after : List ℕ) → SkipsTo after (before ++ after)

pub skips_none : Skips []
skips_none after = nothing

pub skips_space : Skips (32 ∷ [])
unfolding is_white
skips_space after = white 32 after refl nothing

pub skips_line : Skips (10 ∷ [])
unfolding is_white
skips_line after = white 10 after refl nothing

pub spelled_some : (kind : TokenKind) (s : List ℕ) → IsSpelling kind s → 0 < length s
spelled_some Open s e = let n : length s ≡ 1 = ap length e in omega (arith, n)
spelled_some Close s e = let n : length s ≡ 1 = ap length e in omega (arith, n)
spelled_some Text s is = let n = ap length is.in_quotes in omega (arith, n)
spelled_some Quoted s is = let n = ap length is.in_bars in omega (arith, n)
spelled_some Word s is = is.some

pub past : (text : List ℕ) (at : ℕ) (xs ys : List ℕ) → drop at text ≡ xs ++ ys → drop (at + length xs) text ≡ ys
past text at xs ys here =
    sym (drop-drop (length xs) at text) ∙ ap (drop (length xs)) here ∙ drop-append-le (length xs) xs ys (omega arith)
    ∙ ap (λ l. l ++ ys) (drop_all (length xs) xs (omega arith))

abbrev pub token_of : TokenKind → ℕ → List ℕ → Token
token_of kind start s = record { kind = kind; start = start; end = start + length s }

pub record TokenRead (text : List ℕ) (at start : ℕ) (kind : TokenKind) (s rest : List ℕ) : Type 0 where
  pub next : next_token text at ≡ Ok (Some (token_of kind start s))
  pub spelled : token_text text (token_of kind start s) ≡ s
  pub left : drop (start + length s) text ≡ rest

pub token_read : (text : List ℕ) (at start : ℕ) (kind : TokenKind) (s rest : List ℕ) → SkipsTo (drop start text) (drop at text)
    → drop start text ≡ s ++ rest → IsSpelling kind s → goes_on kind rest ≡ false → TokenRead text at start kind s rest
token_read text at start kind s rest skips here spelled stops =
    let some = spelled_some kind s spelled in
    let left : drop (start + length s) text ≡ rest = past text start s rest here in
    let size : length text - start ≡ length s + length rest = sym (length-drop start text) ∙ ap length here ∙ length-append s rest in
    let span : start + length s - start ≡ length s = omega arith in
    let same : token_text text (token_of kind start s) ≡ s =
    ap (λ n. take n (drop start text)) span ∙ ap (take (length s)) here ∙ take-append-le (length s) s rest (omega arith) ∙ taken s in
    record {
      next = read_next text at (token_of kind start s)
          (record { before = skips; spelled = subst (IsSpelling kind) (sym same) spelled; longest = ap (goes_on kind) left ∙ stops })
          (omega (arith, some)) (omega (arith, size, some));
      spelled = same;
      left = left;
    }
  where
    taken : (xs : List ℕ) → take (length xs) xs ≡ xs
    taken [] = refl
    taken (x ∷ xs) = ap (λ l. x ∷ l) (taken xs)
