-- Public. The question about a hole: an SMT-LIB problem (SMT-LIB 2.6, "Scripts and Commands") that asserts what the hole's premises
-- say and the opposite of each literal of its clause. Where no interpretation makes all of this true, the clause follows from the
-- premises. Names are given anew, so that a question says nothing of the problem but what its terms need.
use Rattle.std.specs.Prelude.{ℕ, ◌+◌, ◌<◌, ◌^◌, nat_eq, nat_le, not, Bool, List, [], ◌∷◌, ◌++◌, map, filter, length, codes, decimal, if◌then◌else◌, Option}
use Rattle.std.specs.Prelude.{Some, None}
use Rattle.std.specs.Prelude.{flat_map}
use Rattle.std.specs.List.{list_any, prefix_len}
use Rattle.sexpr.specs.Items.{Item, word, list, Items, no_items, item}
use Rattle.sexpr.specs.Printed.{printed_lines}
use Rattle.term_model.specs.declared.symbols.Op.{Op}
use Rattle.term_model.specs.declared.symbols.Sort.{Sort}
use Rattle.term_model.specs.FreeVariables.{variables_of}
use Rattle.term_model.specs.Terms.{Var, var_eq, Fun, Term, numeral, variable, operation, call, let_in, Terms, no_terms, term, Bindings, no_bindings}
use Rattle.term_model.specs.Terms.{binding, terms_of, not_of}
use Rattle.rule_model.specs.Proofs.{ProofItems}
use Rattle.rule_model.specs.Reading.{clause_at, premise_clauses}
use Rattle.rule_model.specs.Replacement.{free_variables}
use Rattle.rule_model.specs.TermTests.{fun_eq}
use Rattle.problem_text.specs.PrintedTerms.{term_item}

-- WHAT IS ASSERTED

-- a clause as one term
abbrev pub clause_term : List Term → Term
clause_term [] = operation Op.False no_terms
clause_term (l ∷ []) = l
clause_term (l ∷ m ∷ rest) = operation Op.Or (terms_of (l ∷ m ∷ rest))

-- the clause of each premise, and the opposite of each literal of the clause
abbrev pub asserted_by : List (List Term) → List Term → List Term
asserted_by premises clause = map clause_term premises ++ map not_of clause

-- what the question about a step of a proof asserts
abbrev pub asserted_at : ProofItems Var Term → ℕ → List Term
asserted_at proof i = asserted_by (premise_clauses proof i) (clause_at proof i)

-- NAMES

-- behind those that were seen, the others, each once and in the order of their first occurrences
abbrev pub firsts_behind : {A : Type 0} → (A → A → Bool) → List A → List A → List A
firsts_behind same seen [] = seen
firsts_behind same seen (x ∷ xs) = firsts_behind same (if list_any (same x) seen then seen else seen ++ x ∷ []) xs

abbrev pub firsts : {A : Type 0} → (A → A → Bool) → List A → List A
firsts same xs = firsts_behind same [] xs

-- how many stand before the first one that is the same
abbrev pub place_among : {A : Type 0} → (A → A → Bool) → A → List A → ℕ
place_among same x xs = prefix_len (λ y. not (same x y)) xs

-- the functions of a term, in the order of its text and as often as they occur
abbrev mutual
  pub functions_in : Term → List Fun
  functions_in (numeral n) = []
  functions_in (variable x) = []
  functions_in (operation op ts) = functions_among ts
  functions_in (call f ts) = f ∷ functions_among ts
  functions_in (let_in bs t) = functions_bound bs ++ functions_in t

  pub functions_among : Terms → List Fun
  functions_among no_terms = []
  functions_among (term t ts) = functions_in t ++ functions_among ts

  pub functions_bound : Bindings → List Fun
  functions_bound no_bindings = []
  functions_bound (binding x t bs) = functions_in t ++ functions_bound bs

-- its variables alike, where a let binds them too
abbrev mutual
  pub variables_in : Term → List Var
  variables_in (numeral n) = []
  variables_in (variable x) = x ∷ []
  variables_in (operation op ts) = variables_among ts
  variables_in (call f ts) = variables_among ts
  variables_in (let_in bs t) = variables_bound bs ++ variables_in t

  pub variables_among : Terms → List Var
  variables_among no_terms = []
  variables_among (term t ts) = variables_in t ++ variables_among ts

  pub variables_bound : Bindings → List Var
  variables_bound no_bindings = []
  variables_bound (binding x t bs) = x ∷ (variables_in t ++ variables_bound bs)

-- the number of a declared sort
abbrev pub declared_number : Sort → List ℕ
declared_number Sort.Bool = []
declared_number Sort.Int = []
declared_number (Sort.Declared n) = n ∷ []

-- What is named, in the order of its numbers: functions and variables as they occur first in what is asserted, and declared sorts, which
-- stand in no term's text, as they occur first in the declarations. Those are of the functions and of the variables that occur free.
pub record Naming : Type 0 where
  pub functions : List Fun
  pub variables : List Var
  pub constants : List Var
  pub sorts : List ℕ

abbrev pub declared_sorts : List Fun → List Var → List Sort
declared_sorts functions constants = flat_map (λ f. f.arguments ++ f.target ∷ []) functions ++ map (λ x. x.sort) constants

abbrev pub named_by : List Fun → List Var → List Var → Naming
named_by functions variables constants = record {
  functions = functions;
  variables = variables;
  constants = constants;
  sorts = firsts nat_eq (flat_map declared_number (declared_sorts functions constants));
}

abbrev pub naming_of : List Term → Naming
naming_of asserted =
    named_by (firsts fun_eq (flat_map functions_in asserted)) (firsts var_eq (flat_map variables_in asserted))
    (filter (λ x. list_any (var_eq x) (flat_map free_variables asserted)) (firsts var_eq (flat_map variables_in asserted)))

-- a letter and a number, from 1
abbrev pub name_with : List ℕ → ℕ → List ℕ
name_with letter k = letter ++ decimal (k + 1)

abbrev pub sort_named : ℕ → List ℕ
sort_named k = name_with (codes "S") k

-- THE TERMS OF THE QUESTION

abbrev pub asked_sort : Naming → Sort → Sort
asked_sort n Sort.Bool = Sort.Bool
asked_sort n Sort.Int = Sort.Int
asked_sort n (Sort.Declared k) = Sort.Declared (place_among nat_eq k n.sorts)

abbrev pub asked_function : Naming → Fun → Fun
asked_function n f = record {
  name = name_with (codes "f") (place_among fun_eq f n.functions);
  arguments = map (asked_sort n) f.arguments;
  target = asked_sort n f.target;
}

abbrev pub asked_variable : Naming → Var → Var
asked_variable n x = record { name = name_with (codes "v") (place_among var_eq x n.variables); sort = asked_sort n x.sort }

-- the function without arguments that stands for a variable where it occurs free
abbrev pub constant_for : Naming → Var → Fun
constant_for n x = record { name = (asked_variable n x).name; arguments = []; target = asked_sort n x.sort }

-- a term where lets around it bind these variables
abbrev mutual
  pub asked_term : Naming → List Var → Term → Term
  asked_term n bound (numeral k) = numeral k
  asked_term n bound (variable x) =
      if list_any (var_eq x) bound then variable (asked_variable n x) else call (constant_for n x) no_terms
  asked_term n bound (operation op ts) = operation op (asked_terms n bound ts)
  asked_term n bound (call f ts) = call (asked_function n f) (asked_terms n bound ts)
  asked_term n bound (let_in bs t) = let_in (asked_bindings n bound bs) (asked_term n (variables_of bs ++ bound) t)

  pub asked_terms : Naming → List Var → Terms → Terms
  asked_terms n bound no_terms = no_terms
  asked_terms n bound (term t ts) = term (asked_term n bound t) (asked_terms n bound ts)

  pub asked_bindings : Naming → List Var → Bindings → Bindings
  asked_bindings n bound no_bindings = no_bindings
  asked_bindings n bound (binding x t bs) = binding (asked_variable n x) (asked_term n bound t) (asked_bindings n bound bs)

-- what the question asserts
abbrev pub question_terms : List Term → List Term
question_terms asserted = map (asked_term (naming_of asserted) []) asserted

-- so few functions and variables that no two have one name
pub record HasFewNames (asserted : List Term) : Type 0 where
  pub functions : length (naming_of asserted).functions < 2 ^ 32
  pub variables : length (naming_of asserted).variables < 2 ^ 32

-- THE TEXT

abbrev pub items_of : List Item → Items
items_of [] = no_items
items_of (i ∷ is) = item i (items_of is)

abbrev pub command_item : List ℕ → List Item → Item
command_item name is = list 0 (item (word 0 name) (items_of is))

abbrev pub sort_item : Sort → Item
sort_item Sort.Bool = word 0 (codes "Bool")
sort_item Sort.Int = word 0 (codes "Int")
sort_item (Sort.Declared k) = word 0 (sort_named k)

abbrev pub declared_sort_items : ℕ → List ℕ → List Item
declared_sort_items k [] = []
declared_sort_items k (s ∷ ss) = command_item (codes "declare-sort") (word 0 (sort_named k) ∷ word 0 (codes "0") ∷ []) ∷ declared_sort_items (k + 1) ss

abbrev pub declared_function_item : Fun → Item
declared_function_item f =
    command_item (codes "declare-fun") (word 0 f.name ∷ list 0 (items_of (map sort_item f.arguments)) ∷ sort_item f.target ∷ [])

abbrev pub assert_item : Term → Item
assert_item t = command_item (codes "assert") (term_item t ∷ [])

-- the commands of the question, each on a line of its own
abbrev pub question_commands : Naming → List Term → List Item
question_commands n asserted =
    declared_sort_items 0 n.sorts
    ++ (map (λ f. declared_function_item (asked_function n f)) n.functions
    ++ (map (λ x. declared_function_item (constant_for n x)) n.constants
    ++ (map (λ t. assert_item (asked_term n [] t)) asserted ++ command_item (codes "check-sat") [] ∷ [])))

abbrev pub question_text : List Term → List ℕ
question_text asserted = printed_lines (items_of (question_commands (naming_of asserted) asserted))

-- the longest question
abbrev pub most_bytes : ℕ
most_bytes = 1048576

-- the question about a step of a proof, where it is not too long
abbrev pub within : List ℕ → Option (List ℕ)
within text = if nat_le (length text) most_bytes then Some text else None

abbrev pub question_at : ProofItems Var Term → ℕ → Option (List ℕ)
question_at proof i = within (question_text (asserted_at proof i))
