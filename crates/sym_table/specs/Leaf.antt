-- Public. What a leaf stands for.
use Rattle.std.specs.Prelude.{ℕ, ℤ, List, [], ◌∷◌, Bool, true, false, Option, Some, None, codes}
use Rattle.term_model.specs.declared.symbols.Op.{Op}
use Rattle.term_model.specs.declared.symbols.Sort.{Sort}
use Rattle.sym_table.specs.declared.kind.Kind.{Kind}
use Rattle.sym_table.specs.Words.{operator_symbol}

-- the end of a list of arguments, the head of a let, an operator, a declared function (its name, the sorts of
-- its arguments and its target sort), a variable (its name and its sort) or a numeral
pub data Leaf : Type 0 where
  nil : Leaf
  let_head : Leaf
  operator : Op → Leaf
  function : List ℕ → List Sort → Sort → Leaf
  variable : List ℕ → Sort → Leaf
  numeral : ℤ → Leaf

-- the kind of a leaf before which `number` functions were declared
abbrev pub kind_of : ℕ → Leaf → Kind
kind_of number nil = Kind.Nil
kind_of number let_head = Kind.Let
kind_of number (operator op) = Kind.Op op
kind_of number (function name arguments target) = Kind.Fun number
kind_of number (variable name sort) = Kind.Var sort
kind_of number (numeral n) = Kind.Num n

-- the name of a leaf: the symbol of what has one, and otherwise nothing
abbrev pub name_of : Leaf → List ℕ
name_of nil = []
name_of let_head = codes "let"
name_of (operator op) = operator_symbol op
name_of (function name arguments target) = name
name_of (variable name sort) = name
name_of (numeral n) = []

-- whether it is a function
abbrev pub is_function : Leaf → Bool
is_function (function name arguments target) = true
is_function nil = false
is_function let_head = false
is_function (operator op) = false
is_function (variable name sort) = false
is_function (numeral n) = false

-- the sorts of a function's arguments
abbrev pub leaf_arguments : Leaf → List Sort
leaf_arguments (function name arguments target) = arguments
leaf_arguments nil = []
leaf_arguments let_head = []
leaf_arguments (operator op) = []
leaf_arguments (variable name sort) = []
leaf_arguments (numeral n) = []

-- the target sort of a function
abbrev pub target_of : Leaf → Option Sort
target_of (function name arguments target) = Some target
target_of nil = None
target_of let_head = None
target_of (operator op) = None
target_of (variable name sort) = None
target_of (numeral n) = None

-- the leaves of a new table
abbrev pub first_leaves : List Leaf
first_leaves =
    nil ∷ let_head ∷ operator Op.True ∷ operator Op.False ∷ operator Op.Not ∷ operator Op.Implies ∷ operator Op.And
    ∷ operator Op.Or ∷ operator Op.Xor ∷ operator Op.Equal ∷ operator Op.Distinct ∷ operator Op.Ite
    ∷ operator Op.Minus ∷ operator Op.Plus ∷ operator Op.Times ∷ operator Op.Div ∷ operator Op.Mod
    ∷ operator Op.LessEq ∷ operator Op.Less ∷ operator Op.GreaterEq ∷ operator Op.Greater ∷ []
