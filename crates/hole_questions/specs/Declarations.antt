-- Private. The declarations of a question, as they are written: parts, and what stands behind them.
use Rattle.std.specs.Prelude.{◌≡◌, ℕ, zero, suc, nat_eq, Bool, List, [], ◌∷◌, ◌++◌, codes, fold, if◌then◌else◌}
use Rattle.std.specs.List.{list_any, AllZip}
use Rattle.sym_table.specs.Table.{Table}
use Rattle.term_model.specs.declared.symbols.Sort.{Sort}
use Rattle.term_model.specs.Terms.{Var, Fun}
use Rattle.hole_fillers.specs.Questions.{place_among, name_with, sort_named}
use Rattle.hole_questions.specs.States.{added, IsFunctionOf, IsVariableOf}
use Rattle.hole_questions.specs.declared.declarations.Declarations.{Declarations}

-- bytes, or the name of a sort
pub data Part : Type 0 where
  bytes : List ℕ → Part
  sort : Sort → Part

-- what is written, and the numbers of the declared sorts in it, each once and in the order of first occurrences
pub record Declared : Type 0 where
  pub text : List ℕ
  pub sorts : List ℕ

abbrev pub after_part : Declared → Part → Declared
after_part d (bytes b) = record d { text = d.text ++ b }
after_part d (sort Sort.Bool) = record d { text = d.text ++ codes "Bool" }
after_part d (sort Sort.Int) = record d { text = d.text ++ codes "Int" }
after_part d (sort (Sort.Declared n)) =
    record { text = d.text ++ sort_named (place_among nat_eq n d.sorts); sorts = added nat_eq d.sorts n }

abbrev pub after_parts : Declared → List Part → Declared
after_parts d ps = fold after_part d ps

abbrev pub declared_of : Declarations → Declared
declared_of d = record { text = d.text.items; sorts = d.sorts.keys }

-- the parts of each, with its place
abbrev pub each_part : {X : Type 0} → (ℕ → X → List Part) → ℕ → List X → List Part
each_part parts k [] = []
each_part parts k (x ∷ xs) = parts k x ++ each_part parts (suc k) xs

-- an argument's sort, behind a space where it isn't the first one
abbrev pub before_argument : ℕ → List ℕ
before_argument zero = []
before_argument (suc k) = codes " "

abbrev pub argument_parts : ℕ → Sort → List Part
argument_parts k s = bytes (before_argument k) ∷ sort s ∷ []

-- the declaration of a name
abbrev pub line_parts : List ℕ → List Sort → Sort → List Part
line_parts name arguments target =
    bytes (codes "(declare-fun ") ∷ bytes name ∷ bytes (codes " (")
    ∷ (each_part argument_parts 0 arguments ++ (bytes (codes ") ") ∷ sort target ∷ bytes (41 ∷ 10 ∷ []) ∷ []))

-- that of a function
abbrev pub function_parts : ℕ → Fun → List Part
function_parts k f = line_parts (name_with (codes "f") k) f.arguments f.target

-- that of a variable, where it is free
abbrev pub constant_parts : (Var → Bool) → ℕ → Var → List Part
constant_parts is_free k x = if is_free x then line_parts (name_with (codes "v") k) [] x.sort else []

-- leaves of functions, and of variables
pub record AreFunctions (s : Table) (leaves : List ℕ) : Type 0 where
  pub functions : List Fun
  pub are : AllZip (IsFunctionOf s) leaves functions

pub record AreVariables (s : Table) (leaves : List ℕ) : Type 0 where
  pub variables : List Var
  pub are : AllZip (IsVariableOf s) leaves variables

-- Among these leaves are those of the variables that are free.
abbrev pub TellsFree : Table → List ℕ → (Var → Bool) → Type 0
TellsFree s free is_free = (k : ℕ) (x : Var) → IsVariableOf s k x → list_any (nat_eq k) free ≡ is_free x

-- the declaration of a sort, and those of the first ones
abbrev pub sort_line : ℕ → List ℕ
sort_line k = codes "(declare-sort " ++ (sort_named k ++ (codes " 0)" ++ 10 ∷ []))

abbrev pub sort_lines : ℕ → List ℕ
sort_lines zero = []
sort_lines (suc k) = sort_lines k ++ sort_line k

-- the line that ends a question
abbrev pub check_line : List ℕ
check_line = codes "(check-sat)" ++ 10 ∷ []
