-- What the commands of a script keep: what depends on named terms, macros and assertions alone, where it is kept as terms are
-- read, and as a macro and an assertion are added.
use Rattle.std.proofs.Common.{◌≡◌, ℕ, ◌==◌, List, [], map, Bool, true, false, ◌||◌, Result, Ok, Err, IfOk, if◌then◌else◌, refl, subst}
use Rattle.std.specs.Prelude.{⊤}
use Rattle.sexpr.specs.declared.causes.Cause.{Cause}
use Rattle.sexpr.specs.declared.causes.Cause.TheVariants.{Repeated, LeftOut, SortMismatch}
use Rattle.sexpr.specs.declared.causes.Refusal.{Refusal}
use Rattle.sexpr.specs.Items.{Item, Items, no_items, item, place_of}
use Rattle.term_model.specs.declared.symbols.Sort.{Sort}
use Rattle.term_model.specs.Terms.{Var, sort_eq}
use Rattle.term_model.proofs.Tests.{sort_eq_decides}
use Rattle.problem_text.specs.Words.{is_among, is_built_in, logics}
use Rattle.text_items.specs.ItemShapes.{Name}
use Rattle.problem_text.specs.Commands.{ScriptCommand, set_logic, without_effect, declare_sort, declare_fun, define_fun, assert_term, check_sat, exit, script_command_of}
use Rattle.problem_text.specs.TypedTerms.{Typed}
use Rattle.problem_text.specs.Outcomes.{Outcome, done, refuse, given, and_then}
use Rattle.problem_text.specs.Scripts.{Macro, Script, empty_script, is_taken, with_name, with_sort, with_function, with_macro, with_assertion}
use Rattle.problem_text.specs.Limits.{limited}
use Rattle.problem_text.specs.Sorts.{sort_from, sorts_from, parameters_from}
use Rattle.problem_text.specs.Names.{itself}
use Rattle.problem_text.specs.Terms.{read_term}
use Rattle.problem_text.specs.Problems.{logic_set, sort_declared, function_declared, function_defined, term_asserted, script_performed, ends, script_commands, StandsForProblem}
use Rattle.problem_text.proofs.Outcomes.{Ends, ends-and_then, ends-goes_on}

-- nothing is said of what was read
abbrev pub Whatever : {A : Type 0} → A → Type 0
Whatever a = ⊤

any_result : {A : Type 0} (r : Result A Refusal) → IfOk r Whatever
any_result (Ok a) = tt
any_result (Err refusal) = tt

module _ (P : Script → Type 0) (replaces : Bool) (same_terms : (s after : Script) → s.named ≡ after.named → s.macros ≡ after.macros → s.assertions ≡ after.assertions → P s → P after)
    (IsBody : List Var → Typed → Type 0) (IsFormula : Typed → Type 0)
    (body_read : (xs : List Var) (i : Item) (s : Script) → P s → Ends P (IsBody xs) (read_term i (record { scope = map itself xs; settings = limited true }) s))
    (formula_read : (i : Item) (s : Script) → P s → Ends P IsFormula (read_term i (record { scope = []; settings = limited replaces }) s))
    (macro_added : (m : Macro) (t : Typed) (s : Script) → P s → IsBody m.parameters t → m.body ≡ t.tree → t.sort ≡ m.target → P (with_macro m s))
    (assertion_added : (t : Typed) (s : Script) → P s → IsFormula t → t.sort ≡ Sort.Bool → P (with_assertion t.tree s)) where
  abbrev IsDone : Outcome Script ⊤ → Type 0
  IsDone o = Ends P Whatever o

  unless_refused : (b : Bool) (cause : Cause) (place : ℕ) (s : Script) (o : Outcome Script ⊤) → P s → IsDone o → IsDone (if b then refuse cause place s else o)
  unless_refused true cause place s o p h = (p, tt)
  unless_refused false cause place s o p h = h

  where_allowed : (b : Bool) (cause : Cause) (place : ℕ) (s : Script) (o : Outcome Script ⊤) → P s → (b ≡ true → IsDone o) → IsDone (if b then o else refuse cause place s)
  where_allowed true cause place s o p h = h refl
  where_allowed false cause place s o p h = (p, tt)

  logic-kept : (n : Name) (s : Script) → P s → IsDone (logic_set n s)
  logic-kept n s p =
      unless_refused s.has_logic Repeated n.place s _ p
      (where_allowed (is_among logics n.name) LeftOut n.place s _ p (λ _. (same_terms s (record s { has_logic = true }) refl refl refl p, tt)))

  sort-kept : (n : Name) (arity_place arity : ℕ) (s : Script) → P s → IsDone (sort_declared n arity_place arity s)
  sort-kept n arity_place arity s p =
      unless_refused (is_built_in n.name || is_among s.sorts n.name) Repeated n.place s _ p
      (where_allowed (arity == 0) LeftOut arity_place s _ p (λ _. (same_terms s (with_sort n.name s) refl refl refl p, tt)))

  function-kept : (n : Name) (arguments : Items) (target : Item) (s : Script) → P s → IsDone (function_declared n arguments target s)
  function-kept n arguments target s p =
      unless_refused (is_taken s n.name) Repeated n.place s _ p
      (ends-and_then P Whatever Whatever (given (sorts_from s.sorts arguments) s) _ (p, any_result (sorts_from s.sorts arguments))
      (λ ss after _ p₁. ends-and_then P Whatever Whatever (given (sort_from s.sorts target) after) _ (p₁, any_result (sort_from s.sorts target))
      (λ t last _ p₂. (same_terms last (with_function (record { name = n.name; arguments = ss; target = t }) (with_name n.name last)) refl refl refl p₂, tt))))

  macro-kept : (n : Name) (parameters : Items) (target body : Item) (s : Script) → P s → IsDone (function_defined n parameters target body s)
  macro-kept n parameters target body s p =
      unless_refused (is_taken s n.name) Repeated n.place s _ p
      (ends-and_then P Whatever Whatever (given (parameters_from s.sorts [] parameters) (with_name n.name s)) _ (same_terms s (with_name n.name s) refl refl refl p, any_result (parameters_from s.sorts [] parameters))
      (λ xs named _ p₁. ends-and_then P Whatever Whatever (given (sort_from s.sorts target) named) _ (p₁, any_result (sort_from s.sorts target))
      (λ sort sorted _ p₂. ends-and_then P (IsBody xs) Whatever (read_term body (record { scope = map itself xs; settings = limited true }) sorted) _ (body_read xs body sorted p₂)
      (λ t last read p₃. where_allowed (sort_eq t.sort sort) SortMismatch (place_of body) last _ p₃
      (λ e. (macro_added (record { name = n.name; parameters = xs; target = sort; body = t.tree }) t last p₃ read refl ((sort_eq_decides t.sort sort).0 e), tt))))))

  assertion-kept : (i : Item) (s : Script) → P s → IsDone (term_asserted replaces i s)
  assertion-kept i s p =
      ends-and_then P IsFormula Whatever (read_term i (record { scope = []; settings = limited replaces }) s) _ (formula_read i s p)
      (λ t after read p₁. where_allowed (sort_eq t.sort Sort.Bool) SortMismatch (place_of i) after _ p₁
      (λ e. (assertion_added t after p₁ read ((sort_eq_decides t.sort Sort.Bool).0 e), tt)))

  performed-kept : (c : ScriptCommand) (s : Script) → P s → IsDone (script_performed replaces c s)
  unfolding script_performed
  performed-kept (set_logic n) s p = logic-kept n s p
  performed-kept without_effect s p = (p, tt)
  performed-kept (declare_sort n arity_place arity) s p = sort-kept n arity_place arity s p
  performed-kept (declare_fun n arguments target) s p = function-kept n arguments target s p
  performed-kept (define_fun n parameters target body) s p = macro-kept n parameters target body s p
  performed-kept (assert_term i) s p = assertion-kept i s p
  performed-kept check_sat s p = (same_terms s (record s { is_checked = true }) refl refl refl p, tt)
  performed-kept exit s p = (p, tt)

  next-kept : (b : Bool) (c : ScriptCommand) (s : Script) (next : Script → Outcome Script ⊤) → P s → ((s : Script) → P s → IsDone (next s)) → IsDone (if b then done tt s else and_then (script_performed replaces c s) (λ _ after. next after))
  next-kept true c s next p k = (p, tt)
  next-kept false c s next p k =
      ends-and_then P Whatever Whatever (script_performed replaces c s) (λ _ after. next after) (performed-kept c s p) (λ _ after _ p₁. k after p₁)

  commands-kept : (items : Items) (s : Script) → P s → IsDone (script_commands replaces items s)
  unfolding script_commands
  commands-kept no_items s p = (p, tt)
  commands-kept (item i rest) s p =
      ends-goes_on P Whatever Whatever (script_command_of s.is_checked i) s _ p (any_result (script_command_of s.is_checked i))
      (λ c _. next-kept (ends c) c s (script_commands replaces rest) p (λ after p₁. commands-kept rest after p₁))

  pub problem-kept : (source : List ℕ) (s : Script) → StandsForProblem source replaces s → P empty_script → P s
  problem-kept source s h p = subst (λ o. P o.state) h.read (commands-kept h.items empty_script p).0
