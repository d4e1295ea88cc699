-- A token that ends in the prefix of a rest of a text is read wherever that prefix stands.
use Rattle.std.proofs.Common.{◌≡◌, ℕ, suc, ◌+◌, ◌-◌, ◌<◌, ◌≤◌, Bool, true, false, Some, None, Ok, List, [], ◌∷◌, ◌++◌, length, take, drop, refl, sym, ap, ◌∙◌, subst, arith, append_assoc, length-append, length-drop, ◌⊎◌, inl, inr}
use Rattle.std.proofs.lemmas.List.{append_cancel_right, drop-drop, take-append-le, drop-append-le}
use Rattle.std.specs.List.{AllPass}
use Rattle.sexpr.specs.declared.lexing.Token.{Token}
use Rattle.sexpr.specs.declared.lexing.TokenKind.{TokenKind}
use Rattle.sexpr.specs.declared.lexing.TokenKind.TheVariants.{Open, Close, Text, Quoted, Word}
use Rattle.sexpr.specs.Characters.{is_word_byte}
use Rattle.sexpr.specs.Tokens.{next_token, token_text, IsSpanFrom}
use Rattle.sexpr.specs.Grammar.{begins_with, ends_line, SkipsTo, nothing, white, comment, IsSpelling, goes_on, IsSpelledNext}
use Rattle.sexpr.proofs.Spelling.{spelled_next}
use Rattle.sexpr.proofs.Respelling.{skips_length, read_next}

prefix_begins : (p : ℕ → Bool) (a ys zs : List ℕ) → 0 < length a → begins_with p (a ++ ys) ≡ begins_with p (a ++ zs)
prefix_begins p [] ys zs some = absurd (omega (arith, some))
prefix_begins p (b ∷ a) ys zs some = refl

prefix_ends : (a ys zs : List ℕ) → 0 < length a → ends_line (a ++ ys) ≡ ends_line (a ++ zs)
prefix_ends [] ys zs some = absurd (omega (arith, some))
prefix_ends (b ∷ a) ys zs some = refl

goes_on_prefix : (kind : TokenKind) (a ys zs : List ℕ) → 0 < length a → goes_on kind (a ++ ys) ≡ goes_on kind (a ++ zs)
goes_on_prefix Open a ys zs some = refl
goes_on_prefix Close a ys zs some = refl
goes_on_prefix Text a ys zs some = prefix_begins _ a ys zs some
goes_on_prefix Quoted a ys zs some = refl
goes_on_prefix Word a ys zs some = prefix_begins is_word_byte a ys zs some

record Divided (line rest xs ys : List ℕ) : Type 0 where
  more : List ℕ
  prefix : xs ≡ line ++ more
  back : rest ≡ more ++ ys

divided : (line rest xs ys : List ℕ) → line ++ rest ≡ xs ++ ys → length ys ≤ length rest → Divided line rest xs ys
divided [] rest xs ys e few = record { more = xs; prefix = refl; back = e }
divided (b ∷ line) rest [] ys e few =
    let n : suc (length (line ++ rest)) ≡ length ys = ap length e in
    absurd (omega (arith, n, few, length-append line rest))
divided (b ∷ line) rest (x ∷ xs) ys e few =
    let g : line ++ rest ≡ xs ++ ys = cc in
    let d = divided line rest xs ys g few in
    record { more = d.more; prefix = (let f : b ≡ x = cc in let h = d.prefix in cc); back = d.back }

skips_prefix : (a ys zs : List ℕ) {rest : List ℕ} → SkipsTo (a ++ ys) rest → 0 < length a → (xs : List ℕ) → rest ≡ xs ++ ys → SkipsTo (a ++ zs) (xs ++ zs)
skips_prefix a ys zs nothing some xs e = subst (λ b. SkipsTo (a ++ zs) (b ++ zs)) (append_cancel_right a xs ys e) nothing
skips_prefix a ys zs (white b rest is skips) some [] e =
    let n : suc (length rest) ≡ length ys = ap length e in
    absurd (omega (arith, n, some, skips_length (a ++ ys) skips, length-append a ys))
skips_prefix a ys zs (white b rest is skips) some (x ∷ xs) e =
    let f : b ≡ x = cc in
    let g : rest ≡ xs ++ ys = cc in
    subst (λ c. SkipsTo (a ++ zs) (c ∷ (xs ++ zs))) f (white b (xs ++ zs) is (skips_prefix a ys zs skips some xs g))
skips_prefix a ys zs (comment line rest all ends skips) some [] e =
    let n : suc (length (line ++ rest)) ≡ length ys = ap length e in
    absurd (omega (arith, n, some, skips_length (a ++ ys) skips, length-append a ys, length-append line rest))
skips_prefix a ys zs (comment line rest all ends skips) some (x ∷ xs) e =
    let f : 59 ≡ x = cc in
    let g : line ++ rest ≡ xs ++ ys = cc in
    let d = divided line rest xs ys g (omega (arith, skips_length (a ++ ys) skips, length-append a ys)) in
    let more = d.more in
    let back = d.back in
    let size : length rest ≡ length more + length ys = ap length back ∙ length-append more ys in
    let some_more : 0 < length more = omega (arith, size, some, skips_length (a ++ ys) skips, length-append a ys) in
    let stops : ends_line (more ++ zs) ≡ true = prefix_ends more zs ys some_more ∙ ap ends_line (sym back) ∙ ends in
    let all_in : SkipsTo (a ++ zs) (59 ∷ (line ++ (more ++ zs))) = comment line (more ++ zs) all stops (skips_prefix a ys zs skips some more back) in
    let joined : line ++ (more ++ zs) ≡ xs ++ zs = sym (append_assoc line more zs) ∙ ap (λ l. l ++ zs) (sym d.prefix) in
    subst (λ c. SkipsTo (a ++ zs) (c ∷ (xs ++ zs))) f (subst (λ l. SkipsTo (a ++ zs) (59 ∷ l)) joined all_in)

-- the token at another place
abbrev pub moved : ℕ → ℕ → Token → Token
moved at to t = record { kind = t.kind; start = to + (t.start - at); end = to + (t.end - at) }

-- The token ends before the prefix of so many bytes does, or with it where it closes a list.
abbrev pub EndsInFront : ℕ → ℕ → Token → Type 0
EndsInFront at n t = (t.end < at + n) ⊎ ((t.end ≡ at + n) × (t.kind ≡ Close))

pub record IsMoved (text other : List ℕ) (at to : ℕ) (xs ys zs : List ℕ) (t : Token) : Type 0 where
  pub next : next_token other to ≡ Ok (Some (moved at to t))
  pub span : IsSpanFrom to (length other) (moved at to t)
  pub text_same : token_text other (moved at to t) ≡ token_text text t
  pub left : drop t.end text ≡ drop (t.end - at) xs ++ ys
  pub left_there : drop (to + (t.end - at)) other ≡ drop (t.end - at) xs ++ zs

closes_goes : (kind : TokenKind) (rest : List ℕ) → kind ≡ Close → goes_on kind rest ≡ false
closes_goes kind rest e = ap (λ k. goes_on k rest) e

part_of : (text : List ℕ) (at : ℕ) (xs ys : List ℕ) (k : ℕ) → drop at text ≡ xs ++ ys → k ≤ length xs → drop (at + k) text ≡ drop k xs ++ ys
part_of text at xs ys k e within = sym (drop-drop k at text) ∙ ap (drop k) e ∙ drop-append-le k xs ys within

pub token_moved : (text other : List ℕ) (at to : ℕ) (xs ys zs : List ℕ) (t : Token) → drop at text ≡ xs ++ ys → drop to other ≡ xs ++ zs
    → to + length xs ≤ length other
    → next_token text at ≡ Ok (Some t) → IsSpanFrom at (length text) t → EndsInFront at (length xs) t → IsMoved text other at to xs ys zs t
token_moved text other at to xs ys zs t here there room next span ends =
    let after = span.after in
    let some = span.some in
    let within : t.end ≤ at + length xs = ends_within ends in
    let k : ℕ = t.start - at in
    let m : ℕ = t.end - t.start in
    let n : ℕ = t.end - at in
    let k_in : k ≤ length xs = omega arith in
    let n_in : n ≤ length xs = omega arith in
    let m_in : m ≤ length (drop k xs) = omega (arith, length-drop k xs) in
    let some_a : 0 < length (drop k xs) = omega (arith, length-drop k xs) in
    let begins : drop t.start text ≡ drop k xs ++ ys = (let e : at + k ≡ t.start = omega arith in ap (λ p. drop p text) (sym e)) ∙ part_of text at xs ys k
    here k_in in
    let begins_there : drop (to + k) other ≡ drop k xs ++ zs = part_of other to xs zs k there k_in in
    let left : drop t.end text ≡ drop n xs ++ ys = (let e : at + n ≡ t.end = omega arith in ap (λ p. drop p text) (sym e)) ∙ part_of text at xs ys n here
    n_in in
    let left_there : drop (to + n) other ≡ drop n xs ++ zs = part_of other to xs zs n there n_in in
    let spelled = spelled_next text at t next in
    let size : to + n - (to + k) ≡ m = omega arith in
    let text_same : token_text other (moved at to t) ≡ token_text text t =
    ap (λ s. take s (drop (to + k) other)) size ∙ ap (take m) begins_there ∙ take-append-le m (drop k xs) zs m_in ∙ sym
    (ap (take m) begins ∙ take-append-le m (drop k xs) ys m_in) in
    let skips : SkipsTo (drop (to + k) other) (drop to other) =
    subst (λ l. SkipsTo l (drop to other)) (sym begins_there) (subst (λ l. SkipsTo (drop k xs ++ zs) l) (sym there)
    (skips_prefix (drop k xs) ys zs (subst (λ l. SkipsTo l (drop at text)) begins spelled.before) some_a xs here)) in
    let longest : goes_on t.kind (drop (to + n) other) ≡ false = ap (goes_on t.kind) left_there ∙ stops n ends left spelled.longest in
    let read = read_next other to (moved at to t)
    (record { before = skips; spelled = subst (IsSpelling t.kind) (sym text_same) spelled.spelled; longest = longest }) (omega arith) (omega arith) in
    record {
      next = read;
      span = record { after = omega arith; some = omega arith; within = omega arith };
      text_same = text_same;
      left = left;
      left_there =
          left_there;
    }
  where
    ends_within : EndsInFront at (length xs) t → t.end ≤ at + length xs
    ends_within (inl before) = omega (arith, before)
    ends_within (inr with_it) = let e = with_it.0 in omega (arith, e)

    stops : (n : ℕ) → EndsInFront at (length xs) t → drop t.end text ≡ drop (t.end - at) xs ++ ys → goes_on t.kind (drop t.end text) ≡ false
        → goes_on t.kind (drop (t.end - at) xs ++ zs) ≡ false
    stops n (inl before) left longest =
        let after = span.after in
        let some = span.some in
        goes_on_prefix t.kind (drop (t.end - at) xs) zs ys (omega (arith, before, length-drop (t.end - at) xs)) ∙ ap (goes_on t.kind) (sym left) ∙ longest
    stops n (inr with_it) left longest = closes_goes t.kind _ with_it.1
