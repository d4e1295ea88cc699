-- The derived `==` of lists of sorts is the test of the definitions.
use Rattle.std.proofs.Common.{◌≡◌, List, [], ◌∷◌, refl}
use Rattle.std.specs.Cmp.Lexicographic.{pointwise}
use Rattle.term_model.specs.contracts.symbols.SortPartialEq.TheImpl as derived
use Rattle.term_model.specs.declared.symbols.Sort.{Sort}
use Rattle.term_model.specs.Sorts.{sorts_eq}
use Rattle.term_model.specs.Terms.{sort_eq}

one_sort : (s t : Sort) → (derived.ghosts).eq s t ≡ sort_eq s t
one_sort Sort.Bool Sort.Bool = refl
one_sort Sort.Bool Sort.Int = refl
one_sort Sort.Bool (Sort.Declared n) = refl
one_sort Sort.Int Sort.Bool = refl
one_sort Sort.Int Sort.Int = refl
one_sort Sort.Int (Sort.Declared n) = refl
one_sort (Sort.Declared m) Sort.Bool = refl
one_sort (Sort.Declared m) Sort.Int = refl
one_sort (Sort.Declared m) (Sort.Declared n) = refl

pub same_test : (ss ts : List Sort) → pointwise (derived.ghosts).eq ss ts ≡ sorts_eq ss ts
same_test [] [] = refl
same_test [] (t ∷ ts) = refl
same_test (s ∷ ss) [] = refl
same_test (s ∷ ss) (t ∷ ts) = let e = one_sort s t in let f = same_test ss ts in cc
