-- Public. What the commands of a script up to some place stand for.
use Rattle.std.specs.Prelude.{ℕ, Bool, false, ◌||◌, List, [], ◌∷◌, ◌++◌}
use Rattle.term_model.specs.declared.symbols.Sort.{Sort}
use Rattle.term_model.specs.Terms.{Var, Fun, Term}
use Rattle.problem_text.specs.Words.{is_among, is_built_in}
use Rattle.problem_text.specs.TypedTerms.{Typed}

-- A defined function (SMT-LIB 2.6, "Commands"): its use stands for its body with terms put in for the parameters.
-- The body has no let.
pub record Macro : Type 0 where
  pub name : List ℕ
  pub parameters : List Var
  pub target : Sort
  pub body : Term

-- a name that an attribute gave a term
pub record Named : Type 0 where
  pub name : List ℕ
  pub meant : Typed

-- Lists have what came first at the front. `taken` has the names of functions, macros and named terms, which share
-- one name space; `terms` has every term that was read, and `let_names` the names that lets bound.
pub record Script : Type 0 where
  pub sorts : List (List ℕ)
  pub functions : List Fun
  pub macros : List Macro
  pub named : List Named
  pub taken : List (List ℕ)
  pub assertions : List Term
  pub has_logic : Bool
  pub is_checked : Bool
  pub terms : List Term
  pub let_names : List (List ℕ)

abbrev pub empty_script : Script
empty_script = record {
  sorts = [];
  functions = [];
  macros = [];
  named = [];
  taken = [];
  assertions = [];
  has_logic = false;
  is_checked = false;
  terms = [];
  let_names = [];
}

-- a function, a macro or a named term may not have this name
abbrev pub is_taken : Script → List ℕ → Bool
is_taken s name = is_built_in name || is_among s.taken name

abbrev pub with_name : List ℕ → Script → Script
with_name name s = record s { taken = s.taken ++ name ∷ [] }

abbrev pub with_sort : List ℕ → Script → Script
with_sort name s = record s { sorts = s.sorts ++ name ∷ [] }

abbrev pub with_function : Fun → Script → Script
with_function f s = record s { functions = s.functions ++ f ∷ [] }

abbrev pub with_macro : Macro → Script → Script
with_macro m s = record s { macros = s.macros ++ m ∷ [] }

abbrev pub with_named : Named → Script → Script
with_named n s = record s { named = s.named ++ n ∷ []; taken = s.taken ++ n.name ∷ [] }

abbrev pub with_assertion : Term → Script → Script
with_assertion t s = record s { assertions = s.assertions ++ t ∷ [] }

abbrev pub with_term : Term → Script → Script
with_term t s = record s { terms = s.terms ++ t ∷ [] }

abbrev pub with_let_name : List ℕ → Script → Script
with_let_name name s = record s { let_names = s.let_names ++ name ∷ [] }
