-- Public. Interpretations (SMT-LIB 2.6, on structures and satisfiability): what each declared function means. Finitely
-- many rows and a default are enough, since the terms of a text apply a function to finitely many lists of values.
use Rattle.std.specs.Prelude.{List, [], ◌∷◌, Bool, true, false, ◌&&◌, if◌then◌else◌}
use Rattle.std.specs.List.{AllByRecursion}
use Rattle.term_model.specs.Terms.{Fun}
use Rattle.term_model.specs.Values.{Value, HasSort, HaveSorts, value_eq}

-- at these arguments, this result
pub record Row : Type 0 where
  pub arguments : List Value
  pub result : Value

-- finitely many rows, and the result at all other arguments
pub record FunctionTable : Type 0 where
  pub rows : List Row
  pub default : Value

-- whether two lists of values are equal
abbrev pub values_eq : List Value → List Value → Bool
values_eq [] [] = true
values_eq [] (w ∷ ws) = false
values_eq (v ∷ vs) [] = false
values_eq (v ∷ vs) (w ∷ ws) = value_eq v w && values_eq vs ws

-- the result of the first row that fits the arguments, else the default
abbrev pub first_row : List Row → Value → List Value → Value
first_row [] default vs = default
first_row (row ∷ rows) default vs = if values_eq row.arguments vs then row.result else first_row rows default vs

-- a row of values of the sorts that the function is declared with
pub record RowFits (f : Fun) (row : Row) : Type 0 where
  pub arguments : HaveSorts f.arguments row.arguments
  pub result : HasSort f.target row.result

pub record TableFits (f : Fun) (table : FunctionTable) : Type 0 where
  pub rows : AllByRecursion (RowFits f) table.rows
  pub default : HasSort f.target table.default

-- a table for each function, all of the right kind
pub record Interpretation : Type 0 where
  pub table : Fun → FunctionTable
  pub fits : (f : Fun) → TableFits f (table f)
