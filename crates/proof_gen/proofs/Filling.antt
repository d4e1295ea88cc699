-- Private. Templates are filled byte by byte, and line by line.
use Rattle.std.proofs.Common.{◌≡◌, ℕ, zero, suc, ◌+◌, List, [], ◌∷◌, ◌++◌, map, refl, ap, sym, ◌∙◌, add-one}
use Rattle.std.specs.List.{flat_map}
use Rattle.std.proofs.lemmas.List.Concat.{flat_map-append}
use Rattle.proof_gen.specs.Templates.{number_letter, numbered, letter, filled, each, in_lines}

-- Where the end of a line stands for itself, lines are filled one by one.
flat_map_lines : (f : ℕ → List ℕ) → f 10 ≡ 10 ∷ [] → (lines : List (List ℕ))
    → in_lines (map (flat_map f) lines) ≡ flat_map f (in_lines lines)
unfolding in_lines
flat_map_lines f end [] = refl
flat_map_lines f end (line ∷ lines) =
    let ends : flat_map f (10 ∷ []) ≡ 10 ∷ [] = ap (λ l. l ++ []) end in
    ap (λ l. (flat_map f line ++ 10 ∷ []) ++ l) (flat_map_lines f end lines)
    ∙ (ap (λ l. (flat_map f line ++ l) ++ flat_map f (in_lines lines)) (sym ends)
    ∙ (ap (λ l. l ++ flat_map f (in_lines lines)) (sym (flat_map-append f line (10 ∷ [])))
    ∙ sym (flat_map-append f (line ++ 10 ∷ []) (in_lines lines))))

pub numbered_lines : (i : ℕ) (lines : List (List ℕ)) → in_lines (map (numbered i) lines) ≡ numbered i (in_lines lines)
unfolding numbered number_letter
numbered_lines i lines = flat_map_lines (number_letter i) refl lines

pub filled_lines : (i : ℕ) (lines : List (List ℕ)) → in_lines (map (filled i) lines) ≡ filled i (in_lines lines)
unfolding filled letter number_letter
filled_lines i lines = flat_map_lines (letter i) refl lines

pub numbered_line : (i : ℕ) (line : List ℕ) → numbered i (line ++ 10 ∷ []) ≡ numbered i line ++ 10 ∷ []
unfolding numbered number_letter
numbered_line i line = flat_map-append (number_letter i) line (10 ∷ [])

-- Lines of each number are its text in lines.
pub each_in_lines : (of : ℕ → List (List ℕ)) (text : ℕ → List ℕ) → ((i : ℕ) → in_lines (of i) ≡ text i)
    → (n : ℕ) → in_lines (each of n) ≡ each text n
unfolding in_lines
each_in_lines of text same zero = refl
each_in_lines of text same (suc n) =
    flat_map-append (λ line. line ++ 10 ∷ []) (each of n) (of (suc n))
    ∙ (ap (λ l. l ++ in_lines (of (suc n))) (each_in_lines of text same n)
    ∙ ap (λ l. each text n ++ l) (same (suc n)))

pub each_more : (of : ℕ → List ℕ) (n : ℕ) → each of (n + 1) ≡ each of n ++ of (n + 1)
each_more of n = rw add-one refl

-- Joined lists are lines one after another.
pub joined_lines : (some more : List (List ℕ)) → in_lines (some ++ more) ≡ in_lines some ++ in_lines more
unfolding in_lines
joined_lines some more = flat_map-append (λ line. line ++ 10 ∷ []) some more

pub one_line : (line : List ℕ) (more : List (List ℕ)) → in_lines (line ∷ more) ≡ (line ++ 10 ∷ []) ++ in_lines more
unfolding in_lines
one_line line more = refl

pub no_lines : in_lines [] ≡ []
unfolding in_lines
no_lines = refl
