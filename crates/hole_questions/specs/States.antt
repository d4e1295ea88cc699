-- Private. What is written of the assert lines of a question, and how it goes on, piece by piece. Functions and variables are known by
-- their leaves, or as those of terms: F and V are what they are known by, with a test of sameness for each.
use Rattle.std.specs.Prelude.{◌≡◌, ℕ, ◌-◌, nat_eq, Bool, List, [], ◌∷◌, ◌++◌, length, take, fold, codes, if◌then◌else◌, slice_index_or}
use Rattle.std.specs.List.{list_any, AllZip}
use Rattle.sexpr.specs.Printing.{printed_symbol}
use Rattle.sym_table.specs.Table.{Table, IsLeaf}
use Rattle.term_model.specs.Terms.{Var, var_eq, Fun}
use Rattle.term_pool.specs.StandsFor.{variable_leaf, function_leaf}
use Rattle.rule_model.specs.TermTests.{fun_eq}
use Rattle.hole_fillers.specs.Questions.{place_among, name_with}
use Rattle.hole_questions.specs.declared.writer.Writer.{Writer}

pub data Piece (F V : Type 0) : Type 0 where
  -- bytes; the name of a function; the name of a variable that a let binds here, and of one that stands in a term
  bytes : List ℕ → Piece F V
  function : F → Piece F V
  binder : V → Piece F V
  variable : V → Piece F V
  -- a let begins to bind; a variable is bound from here on; the let ends, and what was bound before it is bound, and nothing else
  save : Piece F V
  bind : V → Piece F V
  restore : Piece F V

-- the text, the functions and the variables in it, those that are free in it, those that are bound now, and how many were bound where the
-- lets that are open began
pub record State (F V : Type 0) : Type 0 where
  pub text : List ℕ
  pub functions : List F
  pub variables : List V
  pub free : List V
  pub bound : List V
  pub saved : List ℕ

abbrev pub added : {X : Type 0} → (X → X → Bool) → List X → X → List X
added same xs x = if list_any (same x) xs then xs else xs ++ x ∷ []

module _ {F V : Type 0} (same_f : F → F → Bool) (same_v : V → V → Bool) where
  abbrev pub after : State F V → Piece F V → State F V
  after s (bytes b) = record s { text = s.text ++ b }
  after s (function f) = record s {
    text = s.text ++ printed_symbol (name_with (codes "f") (place_among same_f f s.functions));
    functions = added same_f s.functions f;
  }
  after s (binder x) = record s {
    text = s.text ++ printed_symbol (name_with (codes "v") (place_among same_v x s.variables));
    variables = added same_v s.variables x;
  }
  after s (variable x) = record s {
    text = s.text ++ printed_symbol (name_with (codes "v") (place_among same_v x s.variables));
    variables = added same_v s.variables x;
    free = if list_any (same_v x) s.bound then s.free else added same_v s.free x;
  }
  after s save = record s { saved = s.saved ++ length s.bound ∷ [] }
  after s (bind x) = record s { bound = added same_v s.bound x }
  after s restore = record s {
    bound = take (slice_index_or s.saved (length s.saved - 1) 0) s.bound;
    saved = take (length s.saved - 1) s.saved;
  }

-- the state of a writer, by leaves
abbrev pub state_of : Writer → State ℕ ℕ
state_of w = record {
  text = w.text.items;
  functions = w.functions.keys;
  variables = w.variables.keys;
  free = w.free.keys;
  bound = w.bound.keys;
  saved = w.saved.items;
}

abbrev pub after_leaf : State ℕ ℕ → Piece ℕ ℕ → State ℕ ℕ
after_leaf s p = after nat_eq nat_eq s p

-- the state behind pieces of terms
abbrev pub after_all : State Fun Var → List (Piece Fun Var) → State Fun Var
after_all s ps = fold (after fun_eq var_eq) s ps

abbrev pub IsFunctionOf : Table → ℕ → Fun → Type 0
IsFunctionOf s k f = IsLeaf s k (function_leaf f)

abbrev pub IsVariableOf : Table → ℕ → Var → Type 0
IsVariableOf s k x = IsLeaf s k (variable_leaf x)

-- by the table, a state by leaves is this state by functions and variables
pub record IsStateOf (s : Table) (by_leaves : State ℕ ℕ) (st : State Fun Var) : Type 0 where
  pub text : by_leaves.text ≡ st.text
  pub functions : AllZip (IsFunctionOf s) by_leaves.functions st.functions
  pub variables : AllZip (IsVariableOf s) by_leaves.variables st.variables
  pub free : AllZip (IsVariableOf s) by_leaves.free st.free
  pub bound : AllZip (IsVariableOf s) by_leaves.bound st.bound
  pub saved : by_leaves.saved ≡ st.saved

-- the pieces are the same
abbrev pub IsPieceOf : Table → Piece ℕ ℕ → Piece Fun Var → Type 0
IsPieceOf s (bytes a) (bytes b) = a ≡ b
IsPieceOf s (function k) (function f) = IsFunctionOf s k f
IsPieceOf s (binder k) (binder x) = IsVariableOf s k x
IsPieceOf s (variable k) (variable x) = IsVariableOf s k x
IsPieceOf s save save = Unit {0}
IsPieceOf s (bind k) (bind x) = IsVariableOf s k x
IsPieceOf s restore restore = Unit {0}
IsPieceOf s _ _ = ⊥
