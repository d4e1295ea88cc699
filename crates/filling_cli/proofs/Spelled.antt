-- The words of `fill` are read as those of `elaborate`.
use Rattle.std.proofs.Common.{◌≡◌, ◌<◌, List, [], ◌∷◌, true, false, Option, None, Some, String, length, map, string_bytes, refl, sym, ap, ◌∙◌, arith}
use Rattle.std.specs.Prelude.{codes, slice_set}
use Rattle.std.specs.declared.alloc.Global.{Global}
use Rattle.std.specs.List.{AllZip}
use Rattle.command_words.specs.CommandLine.{Asked, Word, asked_of}
use Rattle.filling_cli.specs.Settings.{as_elaborate}
use Rattle.filling_cli.specs.Words.{begins_fill, fill_of}

-- what they ask for
pub spelled : (words : List Word) → begins_fill words ≡ true → fill_of words ≡ asked_of (as_elaborate words)
spelled [] e = absurd cc
spelled (word ∷ words) e = rw e refl

pub none_begins : (words : List Word) → begins_fill words ≡ false → fill_of words ≡ None
none_begins [] e = refl
none_begins (word ∷ words) e = rw e refl

-- so what they ask for is what is asked for by those
pub asked_by : (words behind : List Word) (asked : Option Asked) → begins_fill words ≡ true → behind ≡ as_elaborate words → asked ≡ asked_of behind →
    fill_of words ≡ asked
asked_by words behind asked e same told = spelled words e ∙ (ap asked_of (sym same) ∙ sym told)

-- there are some
pub some_words : (words : List (String Global)) → begins_fill (map string_bytes words) ≡ true → 0 < length words
some_words [] e = absurd cc
some_words (word ∷ words) e = omega arith

-- words that are cloned
pub cloned : (old new : List (String Global)) → AllZip (λ s t. string_bytes t ≡ string_bytes s) old new → map string_bytes new ≡ map string_bytes old
cloned [] [] h = refl
cloned [] (t ∷ new) h = absurd h
cloned (s ∷ old) [] h = absurd h
cloned (s ∷ old) (t ∷ new) h = ap (λ w. w ∷ map string_bytes new) h.0 ∙ ap (λ ws. string_bytes s ∷ ws) (cloned old new h.1)

-- what is asked for is one
pub same_asked : (a b : Asked) → Some a ≡ Some b → a ≡ b
same_asked a b e = cc

-- the first one is another word
pub other_first : (old new : List (String Global)) (s : String Global) → begins_fill (map string_bytes old) ≡ true →
    AllZip (λ x y. string_bytes y ≡ string_bytes x) old new → string_bytes s ≡ codes "elaborate" →
    map string_bytes (slice_set new 0 s) ≡ as_elaborate (map string_bytes old)
other_first [] new s e h is = absurd cc
other_first (x ∷ old) [] s e h is = absurd h
other_first (x ∷ old) (y ∷ new) s e h is = ap (λ w. w ∷ map string_bytes new) is ∙ ap (λ ws. codes "elaborate" ∷ ws) (cloned old new h.1)
