-- A word is listed exactly where one of the table that is as long is the same list of bytes.
use Rattle.std.proofs.Common.{◌≡◌, true, ◌||◌, ℕ, List, [], ◌∷◌, length, map, nat_eq, refl, sym, ap, ◌∙◌, Bor}
use Rattle.std.specs.List.{list_any}
use Rattle.std.specs.Str.{bytes_eq}
use Rattle.std.specs.Cmp.Lexicographic.{nat_list_eq_equiv}
use Rattle.std.proofs.lemmas.Slice.Eq.{bytes_eq-Decides}
use Rattle.std.proofs.lemmas.Map.Views.{Contains-from_any, list_any-from_Contains, any-filter_same}
use Rattle.std.proofs.lemmas.Bool.{eq-eqb}
use Rattle.sym_table.specs.Words.{built_in_words}
use Rattle.sym_table.specs.WordLengths.{of_length}
use Rattle.sym_table.proofs.words.is_built_in.Goals as goal

-- a list of words that are lent has the name where the words do
of_views : (name : List ℕ) (words : List (Bor (List ℕ))) → list_any (λ word. bytes_eq name word.now) words ≡ list_any (bytes_eq name) (map (λ word. word.now) words)
of_views name [] = refl
of_views name (word ∷ words) = ap (bytes_eq name word.now ||◌) (of_views name words)

-- words of other lengths are not the name
as_long : (name : List ℕ) → list_any (bytes_eq name) (of_length (length name) built_in_words) ≡ list_any (bytes_eq name) built_in_words
as_long name = any-filter_same (bytes_eq name) (λ word. nat_eq (length word) (length name)) true same built_in_words
  where
    same : (word : List ℕ) → bytes_eq name word ≡ true → nat_eq (length word) (length name) ≡ true
    same word e = eq-eqb (length word) (length name) (ap length (sym ((bytes_eq-Decides name word).0 e)))

pub returns : goal.returns
returns c =
    let name = c.args.name.now in
    let r = c.is_among.ensures ∙ of_views name c.words_of_length.result.now ∙ ap (list_any (bytes_eq name)) c.words_of_length.ensures ∙ as_long name in (
      λ h. Contains-from_any {eq = bytes_eq} (λ x y. (bytes_eq-Decides x y).0) name built_in_words (sym r ∙ h),
      λ h. r ∙ list_any-from_Contains {eq = bytes_eq} nat_list_eq_equiv name built_in_words h,
    )
