-- Private. How the fields of a `Symbols` give the table that contracts see.
use Rattle.std.specs.Prelude.{pos, ◌≤ℤ◌, FitsSigned, ◌≡◌, ◌<◌, ℕ, List, [], ◌++◌, length, take, map, slice_get, slice_index_or, count_by, Bool, true, false}
use Rattle.std.specs.Prelude.{Some}
use Rattle.std.specs.Int.{w128}
use Rattle.std.specs.Option.{option_map_or}
use Rattle.sym_table.specs.declared.cells.Symbol.{Symbol}
use Rattle.sym_table.specs.declared.cells.Function.{Function}
use Rattle.sym_table.specs.Names.{AreApart}
use Rattle.sym_table.specs.Leaf.{Leaf, nil, function, variable, numeral, first_leaves}

-- the function of number n, by the names and the sorts of all
abbrev pub function_at : List (List ℕ) → List Function → ℕ → Leaf
function_at names functions n =
    option_map_or (λ f. function (slice_index_or names n []) f.arguments.items f.target) (slice_get functions n) nil

-- what a key stands for
abbrev pub leaf_of_key : List (List ℕ) → List Function → List (List ℕ) → Symbol → Leaf
leaf_of_key names functions variables (Symbol.Function n) = function_at names functions n
leaf_of_key names functions variables (Symbol.Variable n sort) = variable (slice_index_or variables n []) sort
leaf_of_key names functions variables (Symbol.Numeral n) = numeral n

-- the leaves of a table with these names, functions and keys
abbrev pub leaves_of : List (List ℕ) → List Function → List (List ℕ) → List Symbol → List Leaf
leaves_of names functions variables keys = first_leaves ++ map (leaf_of_key names functions variables) keys

-- whether a key is a function
abbrev pub is_function_key : Symbol → Bool
is_function_key (Symbol.Function n) = true
is_function_key (Symbol.Variable n sort) = false
is_function_key (Symbol.Numeral n) = false

-- the number in a key is one of so many functions, or of so many names of variables; a numeral is not negative
abbrev pub IsInRange : ℕ → ℕ → Symbol → Type 0
IsInRange functions variables (Symbol.Function n) = n < functions
IsInRange functions variables (Symbol.Variable n sort) = n < variables
IsInRange functions variables (Symbol.Numeral n) = (pos 0 ≤ℤ n) × FitsSigned w128 n

-- nothing stands twice; the numbers of the keys are in range; each function has its key at its place; a function's
-- number is how many have keys before it
pub record AreKeysLinked (names : List (List ℕ)) (functions : List Function) (variables : List (List ℕ)) (keys : List Symbol) : Type 0 where
  pub named : length names ≡ length functions
  pub functions_apart : AreApart names
  pub variables_apart : AreApart variables
  pub keys_apart : AreApart keys
  pub in_range : (k : ℕ) (key : Symbol) → slice_get keys k ≡ Some key → IsInRange (length functions) (length variables) key
  pub placed : (n : ℕ) (f : Function) → slice_get functions n ≡ Some f → slice_get keys f.place ≡ Some (Symbol.Function n)
  pub numbered : (k n : ℕ) → slice_get keys k ≡ Some (Symbol.Function n) → count_by is_function_key (take k keys) ≡ n
  pub counted : count_by is_function_key keys ≡ length functions
