-- A text has no more tokens than bytes.
use Rattle.std.proofs.Common.{◌≡◌, inl, inr, ℕ, zero, suc, ◌-◌, ◌<◌, ◌≤◌, List, [], ◌∷◌, ◌++◌, length, take, drop, Ok, Some, None, ap, arith, length-drop}
use Rattle.std.proofs.Common.{length-append}
use Rattle.std.proofs.lemmas.Bool.{cases_lt}
use Rattle.sexpr.specs.declared.lexing.Token.{Token}
use Rattle.sexpr.specs.declared.lexing.TokenKind.{TokenKind}
use Rattle.sexpr.specs.declared.lexing.TokenKind.TheVariants.{Open, Close, Text, Quoted, Word}
use Rattle.sexpr.specs.Grammar.{SkipsTo, nothing, white, comment, IsSpelling, IsSpelledNext}
use Rattle.sexpr.specs.Tokens.{next_token, token_text, ReadsAs}

-- what is skipped leaves no more than there was
skips_less : (after from : List ℕ) → SkipsTo after from → length after ≤ length from
skips_less after from nothing = omega arith
skips_less after from (white b rest e h) = let k = skips_less after rest h in omega (arith, k)
skips_less after from (comment line rest e l h) = let k = skips_less after rest h in omega (arith, k, length-append line rest)

-- a token has a byte
some_byte : (kind : TokenKind) (spelling : List ℕ) → IsSpelling kind spelling → 0 < length spelling
some_byte Open spelling h = let e : length spelling ≡ 1 = ap length h in omega (arith, e)
some_byte Close spelling h = let e : length spelling ≡ 1 = ap length h in omega (arith, e)
some_byte Text spelling h = let e : length spelling ≡ suc (length (h.inside ++ 34 ∷ [])) = ap length h.in_quotes in omega (arith, e)
some_byte Quoted spelling h = let e : length spelling ≡ suc (length (h.inside ++ 124 ∷ [])) = ap length h.in_bars in omega (arith, e)
some_byte Word spelling h = h.some

taken_none : (n : ℕ) (xs : List ℕ) → n ≡ 0 → 0 < length (take n xs) → ⊥
taken_none zero xs e h = omega (arith, h)
taken_none (suc n) xs e h = omega (arith, e)

taken_of_none : (n : ℕ) (xs : List ℕ) → length xs ≡ 0 → 0 < length (take n xs) → ⊥
taken_of_none zero xs e h = omega (arith, h)
taken_of_none (suc n) [] e h = omega (arith, h)
taken_of_none (suc n) (x ∷ xs) e h = omega (arith, e)

module _ (spelled : (text : List ℕ) (at : ℕ) (t : Token) → next_token text at ≡ Ok (Some t) → IsSpelledNext text at t) where
  -- behind a token less is left
  token_takes : (text : List ℕ) (at : ℕ) (t : Token) → next_token text at ≡ Ok (Some t) → length text - t.end < length text - at
  token_takes text at t next =
      let s = spelled text at t next in
      let skipped : length text - t.start ≤ length text - at =
      omega (arith, skips_less (drop t.start text) (drop at text) s.before, length-drop t.start text, length-drop at text) in
      let byte : 0 < length (take (t.end - t.start) (drop t.start text)) = some_byte t.kind (token_text text t) s.spelled in
      let long : t.start < t.end = elim (cases_lt t.start t.end) [
        | inl h ↦ h
        | inr h ↦ absurd (taken_none (t.end - t.start) (drop t.start text) (omega (arith, h)) byte)
      ] in
      let inside : t.start < length text = elim (cases_lt t.start (length text)) [
        | inl h ↦ h
        | inr h ↦ absurd (taken_of_none (t.end - t.start) (drop t.start text) (omega (arith, h, length-drop t.start text)) byte)
      ] in
      omega (arith, skipped, long, inside)

  pub few_tokens : (text : List ℕ) (at : ℕ) (tokens : List Token) → ReadsAs text at tokens (Ok None) → length tokens ≤ length text - at
  few_tokens text at [] read = omega arith
  few_tokens text at (t ∷ ts) read =
      let h = few_tokens text t.end ts read.1 in
      let k = token_takes text at t read.0 in
      omega (arith, h, k)
