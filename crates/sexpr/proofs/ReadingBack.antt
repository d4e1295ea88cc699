-- Cited by crates above. A symbol is read back from what is printed.
use Rattle.std.proofs.Common.{◌≡◌, ℕ, ◌-◌, Bool, true, false, not, ◌&&◌, ◌==◌, if◌then◌else◌, Some, None, List, [], ◌∷◌, ◌++◌, length, take, refl, ap, ◌∙◌, arith, length-append}
use Rattle.std.proofs.Math.Seq.{take-append_seam}
use Rattle.std.proofs.lemmas.Bool.{and_parts}
use Rattle.std.proofs.lemmas.List.Sums.{AllPass-from_list_all}
use Rattle.std.specs.List.{AllPass, list_all}
use Rattle.std.specs.Char.{is_ascii_digit}
use Rattle.sexpr.specs.Characters.{is_word_byte, is_between_bars}
use Rattle.sexpr.specs.Words.{is_symbol, between_bars}
use Rattle.sexpr.specs.declared.lexing.TokenKind.{TokenKind}
use Rattle.sexpr.specs.declared.lexing.TokenKind.TheVariants.{Quoted, Word}
use Rattle.sexpr.specs.Grammar.{IsSpelling, IsWord}
use Rattle.sexpr.specs.Items.{name_spelled}
use Rattle.sexpr.specs.Printing.{is_plain_symbol, ReadsBack}

symbol_is_word : (name : List ℕ) → is_symbol name ≡ true → list_all is_word_byte name ≡ true → IsWord name
symbol_is_word [] symbol bytes = absurd (let f : false ≡ true = symbol in cc)
symbol_is_word (b ∷ name) symbol bytes = record {
  some = omega arith;
  bytes = AllPass-from_list_all is_word_byte (b ∷ name) bytes;
  number = λ digit. absurd (no_digit (is_ascii_digit b) (not (b == 58)) (not (b == 35)) digit symbol);
} where
  no_digit : (d x y : Bool) → d ≡ true → (not d && x && y) ≡ true → ⊥
  no_digit true x y e f = let g : false ≡ true = f in cc
  no_digit false x y e f = let g : false ≡ true = e in cc

pub between : (name : List ℕ) → between_bars (124 ∷ (name ++ 124 ∷ [])) ≡ name
between name =
    let n : length (124 ∷ (name ++ 124 ∷ [])) - 2 ≡ length name = omega (arith, length-append name (124 ∷ [])) in
    ap (λ k. take k (name ++ 124 ∷ [])) n ∙ take-append_seam name (124 ∷ [])

-- with the kind and the text that are printed of a plain symbol word, and of any other
abbrev pub ReadsBackAs : List ℕ → TokenKind → List ℕ → Type 0
ReadsBackAs name kind text = IsSpelling kind text × (name_spelled kind text ≡ Some name)

plain_reads_back : (name : List ℕ) → is_symbol name ≡ true → list_all is_word_byte name ≡ true → ReadsBackAs name Word name
plain_reads_back name symbol bytes = (symbol_is_word name symbol bytes, ap (λ plain. if plain then Some name else None) symbol)

quoted_reads_back : (name : List ℕ) → AllPass is_between_bars name → ReadsBackAs name Quoted (124 ∷ (name ++ 124 ∷ []))
quoted_reads_back name inside = (record { inside = name; in_bars = refl; is_inside = inside }, ap Some (between name))

pub reads_back_as : (name : List ℕ) → AllPass is_between_bars name → (plain : Bool) → is_plain_symbol name ≡ plain
    → ReadsBackAs name (if plain then Word else Quoted) (if plain then name else (124 ∷ (name ++ 124 ∷ [])))
reads_back_as name inside true e = let both = and_parts (is_symbol name) (list_all is_word_byte name) e in plain_reads_back name both.0 both.1
reads_back_as name inside false e = quoted_reads_back name inside

pub reads_back : (name : List ℕ) → AllPass is_between_bars name → ReadsBack name
reads_back name inside =
    let both = reads_back_as name inside (is_plain_symbol name) refl in
    record { spelled = both.0; named = both.1 }
