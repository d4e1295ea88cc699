-- Private. What rows ask of the terms that their letters stand for.
use Rattle.std.specs.Prelude.{◌≡◌, ◌≢◌, ◌<ℤ◌, ◌≤ℤ◌, ℕ, ℤ, List, [], ◌∷◌, Some, ⊤}
use Rattle.std.specs.List.{AllByRecursion}
use Rattle.sym_table.specs.Table.{Table}
use Rattle.term_model.specs.declared.symbols.Sort.{Sort}
use Rattle.term_model.specs.Sorts.{IsOf}
use Rattle.term_model.specs.Terms.{Term}
use Rattle.term_pool.specs.Views.{TermsView}
use Rattle.rule_model.specs.declared.letter.Letter.{Letter}
use Rattle.rule_model.specs.Rewriting.{AreConstantsBy}
use Rattle.schema_match.specs.Letters.{slot}
use Rattle.schema_match.specs.declared.letters.Letters.{Letters}
use Rattle.sort_check.specs.WellSorted.{IsWellSortedTerm}
use Rattle.rules_simplify.specs.declared.asked.Asked.{Asked}
use Rattle.rules_simplify.specs.declared.asked.Asked.TheVariants.{Nothing, Truth, Numbers}
use Rattle.rules_simplify.specs.declared.asked.NumberTest.{NumberTest}

-- how the first number stands to the second one
abbrev pub NumbersStand : NumberTest → ℤ → ℤ → Type 0
NumbersStand NumberTest.Equal = λ m n. m ≡ n
NumbersStand NumberTest.Different = λ m n. m ≢ n
NumbersStand NumberTest.Below = λ m n. m <ℤ n
NumbersStand NumberTest.AtMost = λ m n. m ≤ℤ n

-- the letters that are asked of
abbrev pub letters_asked : Asked → List Letter
letters_asked Nothing = []
letters_asked (Truth l) = l ∷ []
letters_asked (Numbers test l m) = l ∷ m ∷ []

-- these terms are as is asked
abbrev pub IsAsAsked : (Letter → Term) → Asked → Type 0
IsAsAsked f Nothing = ⊤
IsAsAsked f (Truth l) = IsOf (f l) Sort.Bool
IsAsAsked f (Numbers test l m) = AreConstantsBy (NumbersStand test) (f l) (f m)

-- the letter stands for a well-sorted term
pub record IsSortedLetter (s : Table) (v : TermsView) (letters : Letters) (l : Letter) : Type 0 where
  pub reference : ℕ
  pub settled : slot letters l ≡ Some reference
  pub term : IsWellSortedTerm s v reference

-- each letter that is asked of stands for a well-sorted term
abbrev pub AreSortedLetters : Table → TermsView → Letters → Asked → Type 0
AreSortedLetters s v letters asked = AllByRecursion (IsSortedLetter s v letters) (letters_asked asked)
