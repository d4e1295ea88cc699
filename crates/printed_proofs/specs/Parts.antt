-- Public. What is left to be printed of a command, part by part, for printers that go from part to part.
use Rattle.std.specs.Prelude.{◌≡◌, ℕ, Bool, List, [], ◌∷◌, ◌++◌, map, codes}
use Rattle.sexpr.specs.Items.{Items, no_items, item}
use Rattle.sexpr.specs.Printed.{symbol_item, printed, printed_all}
use Rattle.term_model.specs.Terms.{Var, Term, Terms, Bindings}
use Rattle.rule_model.specs.Proofs.{Step}
use Rattle.rule_model.specs.Scopes.{Nesting}
use Rattle.problem_text.specs.PrintedTerms.{applied_item}
use Rattle.problem_text.specs.Scripts.{Named, Script, with_named, with_term}
use Rattle.alethe_text.specs.PrintedCommands.{symbol_items, with_list, attribute_items, printed_arguments}
use Rattle.printed_proofs.specs.Arguments.{truth_word, pivot_items}
use Rattle.printed_proofs.specs.Numbered.{printed_id}
use Rattle.printed_proofs.specs.Printing.{printed_step}
use Rattle.printed_proofs.specs.PrintedProof.{literal_items, behind_literals, shared_pivots, behind_pivots, step_arguments, behind_arguments}
use Rattle.printed_proofs.specs.PrintedProof.{shared_bindings, behind_bindings}
use Rattle.printed_proofs.specs.Shared.{Plan, planned, shared_as, behind_as, shared_item, shared_items, shared_pairs, behind_term, behind_terms, behind_pairs}

pub data Part : Type 0 where
  -- a term; arguments, each behind a space; bindings, with this before the first one and a space before each other one
  whole : Term → Part
  arguments : Terms → Part
  pairs : List ℕ → Bindings → Part
  -- the body of a let, behind the bracket that closes its bindings
  body : Term → Part
  -- a bracket that closes a term, which counts as read from there on, and one that closes anything else
  close : Term → Part
  bracket : Part
  -- the name that the term before it is given, with the bracket behind it
  naming : Named → Part
  -- the literals that are left of a step, and the step behind its clause
  literals : Step Term → List Term → Part
  -- the pivots that are left, with this before the first one, and a bracket; a truth value
  pivots : List ℕ → List (Term × Bool) → Part
  truth : Bool → Part
  -- the assumes that a step discharges, and the end of it
  discharged : Step Term → Part
  -- the variables that are left of an anchor in a scope, with this before the first one, and a bracket
  variables : Nesting Var Term → List ℕ → List (Var × Term) → Part
  -- the bracket that closes a command, and the end of its line
  end_line : Part

-- the attributes of a step, each behind a space, and the end of it
abbrev pub discharged_text : Step Term → List ℕ
discharged_text step = printed_all (32 ∷ []) (with_list (codes ":discharge") (symbol_items (map printed_id step.discharged)) no_items) ++ 41 ∷ 10 ∷ []

abbrev pub attributes_text : Plan → Script → Step Term → List ℕ
attributes_text plan s step =
    printed_all (32 ∷ []) (attribute_items (printed_step 0 step no_items (step_arguments plan s step))) ++ 41 ∷ 10 ∷ []

-- the bytes of a part, and the state behind it
abbrev pub part_text : Plan → Script → Part → List ℕ
part_text plan s (whole t) = printed (shared_item plan s t)
part_text plan s (arguments ts) = printed_all (32 ∷ []) (shared_items plan s ts)
part_text plan s (pairs before bs) = printed_all before (shared_pairs plan s bs)
part_text plan s (body t) = 41 ∷ 32 ∷ printed (shared_item plan s t)
part_text plan s (close t) = 41 ∷ []
part_text plan s bracket = 41 ∷ []
part_text plan s (naming n) = codes " :named " ++ (printed (symbol_item n.name) ++ 41 ∷ [])
part_text plan s (literals step ts) =
    printed_all (32 ∷ []) (literal_items plan s ts) ++ 41 ∷ attributes_text plan (behind_literals plan s ts) step
part_text plan s (pivots before ps) = printed_all before (pivot_items (shared_pivots plan s ps)) ++ 41 ∷ []
part_text plan s (truth b) = 32 ∷ truth_word b
part_text plan s (discharged step) = discharged_text step
part_text plan s (variables nesting before bs) = printed_all before (printed_arguments (shared_bindings plan nesting s bs)) ++ 41 ∷ []
part_text plan s end_line = 41 ∷ 10 ∷ []

abbrev pub part_behind : Plan → Script → Part → Script
part_behind plan s (whole t) = behind_term plan s t
part_behind plan s (arguments ts) = behind_terms plan s ts
part_behind plan s (pairs before bs) = behind_pairs plan s bs
part_behind plan s (body t) = behind_term plan s t
part_behind plan s (close t) = with_term t s
part_behind plan s bracket = s
part_behind plan s (naming n) = with_named n s
part_behind plan s (literals step ts) = behind_arguments plan (behind_literals plan s ts) step
part_behind plan s (pivots before ps) = behind_pivots plan s ps
part_behind plan s (truth b) = s
part_behind plan s (discharged step) = s
part_behind plan s (variables nesting before bs) = behind_bindings plan nesting s bs
part_behind plan s end_line = s

-- parts one after another, the next one first
abbrev pub parts_text : Plan → Script → List Part → List ℕ
parts_text plan s [] = []
parts_text plan s (p ∷ ps) = part_text plan s p ++ parts_text plan (part_behind plan s p) ps

abbrev pub parts_behind : Plan → Script → List Part → Script
parts_behind plan s [] = s
parts_behind plan s (p ∷ ps) = parts_behind plan (part_behind plan s p) ps

-- a keyword with a list, behind a space, and nothing where the list is empty
abbrev pub listed_text : List ℕ → Items → List ℕ
listed_text keyword no_items = []
listed_text keyword (item i is) = 32 ∷ (keyword ++ (32 ∷ 40 ∷ (printed_all [] (item i is) ++ 41 ∷ [])))

-- what stands between the literals of a step and its arguments
abbrev pub rule_text : Step Term → List ℕ
rule_text step =
    codes ") :rule " ++ (printed (symbol_item step.rule_name) ++ listed_text (codes ":premises") (symbol_items (map printed_id step.premises)))

-- The term is this name applied to these arguments.
pub record IsApplied (t : Term) (name : List ℕ) (ts : Terms) : Type 0 where
  pub item : (plan : Plan) (s : Script) → shared_item plan s t ≡ shared_as s (planned plan t) (applied_item name (shared_items plan s ts))
  pub behind : (plan : Plan) (s : Script) → behind_term plan s t ≡ behind_as s (planned plan t) t (with_term t (behind_terms plan s ts))

-- To print the parts in this state is to print these bytes, and then those parts in that state.
pub record GoesOn (plan : Plan) (s : Script) (ps : List Part) (bytes : List ℕ) (u : Script) (qs : List Part) : Type 0 where
  pub text : parts_text plan s ps ≡ bytes ++ parts_text plan u qs
  pub behind : parts_behind plan s ps ≡ parts_behind plan u qs
