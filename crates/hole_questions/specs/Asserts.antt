-- Public. A question, and its assert lines, as they are written.
use Rattle.std.specs.Prelude.{◌≡◌, ℕ, nat_eq, List, [], map, flat_map, Option, Some, None, Vec}
use Rattle.std.specs.declared.alloc.Global.{Global}
use Rattle.std.specs.List.{list_any, AllZip}
use Rattle.sexpr.specs.Printed.{printed_lines}
use Rattle.sym_table.specs.Table.{Table, IsLeaf}
use Rattle.term_model.specs.Terms.{Var, var_eq, Term}
use Rattle.term_pool.specs.StandsFor.{variable_leaf, function_leaf}
use Rattle.rule_model.specs.Replacement.{free_variables}
use Rattle.hole_fillers.specs.Questions.{naming_of, asked_term, assert_item, items_of}
use Rattle.hole_questions.specs.declared.writer.Writer.{Writer}

-- the part of a question's text that asserts: one line for each term
abbrev pub asserts_text : List Term → List ℕ
asserts_text asserted = printed_lines (items_of (map (λ t. assert_item (asked_term (naming_of asserted) [] t)) asserted))

-- The writer has the assert lines of a question that asserts these terms, with the leaves of the functions and of the variables that it
-- names, in the order of their numbers, and tells which of the variables occur free.
pub record IsWritten (s : Table) (w : Writer) (asserted : List Term) : Type 0 where
  pub text : w.text.items ≡ asserts_text asserted
  pub functions : AllZip (λ k f. IsLeaf s k (function_leaf f)) w.functions.keys (naming_of asserted).functions
  pub variables : AllZip (λ k x. IsLeaf s k (variable_leaf x)) w.variables.keys (naming_of asserted).variables
  pub free :
      (k : ℕ) (x : Var) → IsLeaf s k (variable_leaf x) → list_any (nat_eq k) w.free.keys ≡ list_any (var_eq x) (flat_map free_variables asserted)

-- these assert lines are of some question
pub record IsWrittenForSome (s : Table) (w : Writer) : Type 0 where
  pub asserted : List Term
  pub written : IsWritten s w asserted

-- the bytes of a text, where there is one
abbrev pub text_bytes : Option (Vec ℕ Global) → Option (List ℕ)
text_bytes None = None
text_bytes (Some text) = Some text.items
