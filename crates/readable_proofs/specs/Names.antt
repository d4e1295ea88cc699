-- Public. Names of functions and of variables: what a name means where no variable has it, and when the names of variables are
-- apart from those of functions.
use Rattle.std.specs.Prelude.{◌≡◌, ℕ, false, List, Contains, Some, None}
use Rattle.sexpr.specs.Printed.{IsSymbolItem}
use Rattle.term_model.specs.declared.symbols.Op.{Op}
use Rattle.term_model.specs.Terms.{Fun}
use Rattle.sym_table.specs.Words.{operator_symbol}
use Rattle.problem_text.specs.Names.{Place, innermost, Meaning, function, operator, meaning_of}
use Rattle.problem_text.specs.Scripts.{Script}
use Rattle.problem_text.specs.Words.{is_built_in}
use Rattle.printed_proofs.specs.Readable.{IsSortReadable}

-- A name that a function or a variable may have: that of a symbol, and no built-in word.
pub record IsOwnName (name : List ℕ) : Type 0 where
  pub symbol : IsSymbolItem name
  pub free_word : is_built_in name ≡ false

-- Wherever no variable has the name, it means this.
abbrev pub Means : Script → List ℕ → Meaning → Type 0
Means s name m = (p : Place) → innermost p.scope name ≡ None → meaning_of p s name ≡ Some m

-- Where no variable hides it, a function's name means the function: no macro, no named term and no other function has it. So do the
-- words of operators. The sorts that functions have are read from their names.
pub record IsWellNamed (s : Script) : Type 0 where
  pub operators : (op : Op) → Means s (operator_symbol op) (operator op)
  pub functions : (f : Fun) → Contains s.functions f → Means s f.name (function f)
  pub names : (f : Fun) → Contains s.functions f → IsOwnName f.name
  pub sorts : (f : Fun) → Contains s.functions f → IsSortReadable s f.target

-- the functions that terms may call, and the names that lets and anchors may bind
pub record Vocabulary : Type 0 where
  pub functions : List Fun
  pub variables : List (List ℕ)

-- those of a script: the functions that it declares, with these names
abbrev pub vocabulary_of : Script → List (List ℕ) → Vocabulary
vocabulary_of s names = record { functions = s.functions; variables = names }

-- the second has what the first has
pub record IsVocabularyWithin (v w : Vocabulary) : Type 0 where
  pub functions : (f : Fun) → Contains v.functions f → Contains w.functions f
  pub variables : (name : List ℕ) → Contains v.variables name → Contains w.variables name

abbrev pub AreOwnNames : List (List ℕ) → Type 0
AreOwnNames names = (name : List ℕ) → Contains names name → IsOwnName name

-- No variable has the name of a function. Of a script and the names that lets bound there this is `HasNamesApart`.
abbrev pub AreNamesApart : Vocabulary → Type 0
AreNamesApart v = (f : Fun) → Contains v.functions f → Contains v.variables f.name → ⊥

-- The script is well named, and these may be names of variables: they are names of their own, and no function has one.
pub record AllowsNames (s : Script) (names : List (List ℕ)) : Type 0 where
  pub well : IsWellNamed s
  pub own : AreOwnNames names
  pub apart : AreNamesApart (vocabulary_of s names)
