-- Public. Values (SMT-LIB 2.6, on structures and satisfiability): the truth values of Bool, and the whole numbers,
-- without a limit, of Int. The elements of a declared sort are whole numbers too: terms have no quantifiers, so any set
-- with elements enough serves.
use Rattle.std.specs.Prelude.{ℤ, pos, Bool, true, false, not, List, [], ◌∷◌, ⊤}
use Rattle.std.specs.Ordering.{int_eq}
use Rattle.term_model.specs.declared.symbols.Sort.{Sort}

pub data Value : Type 0 where
  truth : Bool → Value
  whole : ℤ → Value

-- the value is one of the sort
abbrev pub HasSort : Sort → Value → Type 0
HasSort Sort.Bool (truth b) = ⊤
HasSort Sort.Bool (whole z) = ⊥
HasSort Sort.Int (truth b) = ⊥
HasSort Sort.Int (whole z) = ⊤
HasSort (Sort.Declared n) (truth b) = ⊥
HasSort (Sort.Declared n) (whole z) = ⊤

-- as many values as sorts, each one of its sort
abbrev pub HaveSorts : List Sort → List Value → Type 0
HaveSorts [] [] = ⊤
HaveSorts [] (v ∷ vs) = ⊥
HaveSorts (s ∷ ss) [] = ⊥
HaveSorts (s ∷ ss) (v ∷ vs) = HasSort s v × HaveSorts ss vs

-- the truth value that an operator of Core takes a value for, and the number that one of Ints takes it
-- for. Only the values of terms that are not well sorted are changed by this.
abbrev pub as_truth : Value → Bool
as_truth (truth b) = b
as_truth (whole z) = false

abbrev pub as_whole : Value → ℤ
as_whole (truth b) = pos 0
as_whole (whole z) = z

-- whether two values are equal
abbrev pub value_eq : Value → Value → Bool
value_eq (truth true) (truth b) = b
value_eq (truth false) (truth b) = not b
value_eq (truth a) (whole y) = false
value_eq (whole x) (truth b) = false
value_eq (whole x) (whole y) = int_eq x y

-- some value of the sort
abbrev pub some_value : Sort → Value
some_value Sort.Bool = truth false
some_value Sort.Int = whole (pos 0)
some_value (Sort.Declared n) = whole (pos 0)
