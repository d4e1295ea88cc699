-- A problem has no more assertions than its text has items.
use Rattle.std.proofs.Common.{◌≤◌, ◌+◌, ℕ, ◌==◌, List, [], ◌∷◌, map, length, Bool, true, false, ◌||◌, Result, Ok, Err, IfOk, if◌then◌else◌, subst, arith}
use Rattle.std.specs.Prelude.{⊤}
use Rattle.std.proofs.lemmas.List.{length-append}
use Rattle.sexpr.specs.declared.causes.Cause.TheVariants.{SortMismatch}
use Rattle.sexpr.specs.declared.causes.Refusal.{Refusal}
use Rattle.sexpr.specs.Items.{Item, Items, no_items, item, place_of}
use Rattle.term_model.specs.declared.symbols.Sort.{Sort}
use Rattle.term_model.specs.Terms.{sort_eq}
use Rattle.text_items.specs.ItemShapes.{Name}
use Rattle.problem_text.specs.Commands.{ScriptCommand, set_logic, without_effect, declare_sort, declare_fun, define_fun, assert_term, check_sat, exit, script_command_of}
use Rattle.problem_text.specs.Forms.{form_of}
use Rattle.problem_text.specs.TypedTerms.{Typed}
use Rattle.problem_text.specs.Outcomes.{Outcome, done, refuse, given, and_then}
use Rattle.problem_text.specs.Scripts.{Script, empty_script, is_taken, with_name, with_assertion}
use Rattle.problem_text.specs.Limits.{limited}
use Rattle.problem_text.specs.Names.{Place, itself}
use Rattle.problem_text.specs.Sorts.{sort_from, sorts_from, parameters_from}
use Rattle.problem_text.specs.Terms.{read_term}
use Rattle.problem_text.specs.Words.{is_among, is_built_in, logics}
use Rattle.problem_text.specs.Problems.{logic_set, sort_declared, function_declared, function_defined, term_asserted, script_performed, ends, script_commands, StandsForProblem}
use Rattle.problem_text.proofs.Growing.{kept_term}
use Rattle.problem_text.proofs.Outcomes.{Ends, ends-and_then, ends-goes_on}
use Rattle.alethe_text.proofs.SymbolNames.{AreSpelled}
use Rattle.pruned_texts.proofs.TextLengths.{counted, text_counts}

-- so many assertions at most
abbrev Few : ℕ → Script → Type 0
Few n s = length s.assertions ≤ n

abbrev Whatever : {A : Type 0} → A → Type 0
Whatever a = ⊤

any_result : {A : Type 0} (r : Result A Refusal) → IfOk r Whatever
any_result (Ok a) = tt
any_result (Err refusal) = tt

abbrev Is : ℕ → Outcome Script ⊤ → Type 0
Is n o = Ends (Few n) Whatever o

-- a term asserts nothing
term_few : (n : ℕ) (i : Item) (p : Place) (s : Script) → Few n s → Ends (Few n) Whatever (read_term i p s)
term_few n i p s h =
    ((kept_term (Few n) (λ t after k. k) (λ name after k. k) (λ m after e k. k) (form_of i) p s h).0, any_result (read_term i p s).result)

either : (n : ℕ) (b : Bool) (x y : Outcome Script ⊤) → Is n x → Is n y → Is n (if b then x else y)
either n true x y h k = h
either n false x y h k = k

module _ (n : ℕ) where
  logic_few : (l : Name) (s : Script) → Few n s → Is n (logic_set l s)
  logic_few l s h = either n s.has_logic _ _ (h, tt) (either n (is_among logics l.name) _ _ (h, tt) (h, tt))

  sort_few : (l : Name) (arity_place arity : ℕ) (s : Script) → Few n s → Is n (sort_declared l arity_place arity s)
  sort_few l arity_place arity s h =
      either n (is_built_in l.name || is_among s.sorts l.name) _ _ (h, tt) (either n (arity == 0) _ _ (h, tt) (h, tt))

  function_few : (l : Name) (arguments : Items) (target : Item) (s : Script) → Few n s → Is n (function_declared l arguments target s)
  function_few l arguments target s h =
      either n (is_taken s l.name) _ _ (h, tt)
      (ends-and_then (Few n) Whatever Whatever (given (sorts_from s.sorts arguments) s) _ (h, any_result (sorts_from s.sorts arguments))
      (λ ss after _ k. ends-and_then (Few n) Whatever Whatever (given (sort_from s.sorts target) after) _ (k, any_result (sort_from s.sorts target))
      (λ t last _ m. (m, tt))))

  macro_few : (l : Name) (parameters : Items) (target body : Item) (s : Script) → Few n s → Is n (function_defined l parameters target body s)
  macro_few l parameters target body s h =
      either n (is_taken s l.name) _ _ (h, tt)
      (ends-and_then (Few n) Whatever Whatever (given (parameters_from s.sorts [] parameters) (with_name l.name s)) _ (h, any_result (parameters_from s.sorts [] parameters))
      (λ xs named _ k. ends-and_then (Few n) Whatever Whatever (given (sort_from s.sorts target) named) _ (k, any_result (sort_from s.sorts target))
      (λ sort sorted _ m. ends-and_then (Few n) Whatever Whatever (read_term body (record { scope = map itself xs; settings = limited true }) sorted) _
      (term_few n body (record { scope = map itself xs; settings = limited true }) sorted m)
      (λ t last _ q. either n (sort_eq t.sort sort) _ _ (q, tt) (q, tt)))))

one_more : (n : ℕ) (s : Script) → Few n s → Few (1 + n) s
one_more n s h = omega (arith, h)

more : (n : ℕ) (o : Outcome Script ⊤) → Is n o → Is (1 + n) o
more n o h = (one_more n o.state h.0, h.1)

module _ (replaces : Bool) where
  asserted_few : (n : ℕ) (i : Item) (s : Script) → Few n s → Is (1 + n) (term_asserted replaces i s)
  asserted_few n i s h =
      ends-goes_on (Few (1 + n)) Whatever Whatever o.result o.state _ (one_more n o.state read.0) read.1
      (λ t _. go t o.state read.0 (sort_eq t.sort Sort.Bool))
    where
      o : Outcome Script Typed
      o = read_term i (record { scope = []; settings = limited replaces }) s

      read : Ends (Few n) Whatever o
      read = term_few n i (record { scope = []; settings = limited replaces }) s h

      go : (t : Typed) (after : Script) → Few n after → (b : Bool)
          → Is (1 + n) (if b then done tt (with_assertion t.tree after) else refuse SortMismatch (place_of i) after)
      go t after k true = (let joined = length-append after.assertions (t.tree ∷ []) in omega (arith, joined, k), tt)
      go t after k false = (one_more n after k, tt)

  performed_few : (n : ℕ) (c : ScriptCommand) (s : Script) → Few n s → Is (1 + n) (script_performed replaces c s)
  unfolding script_performed
  performed_few n (set_logic l) s h = more n (logic_set l s) (logic_few n l s h)
  performed_few n without_effect s h = (one_more n s h, tt)
  performed_few n (declare_sort l arity_place arity) s h = more n (sort_declared l arity_place arity s) (sort_few n l arity_place arity s h)
  performed_few n (declare_fun l arguments target) s h = more n (function_declared l arguments target s) (function_few n l arguments target s h)
  performed_few n (define_fun l parameters target body) s h = more n (function_defined l parameters target body s) (macro_few n l parameters target body s h)
  performed_few n (assert_term i) s h = asserted_few n i s h
  performed_few n check_sat s h = (one_more n s h, tt)
  performed_few n exit s h = (one_more n s h, tt)

  weaker : (n m : ℕ) (o : Outcome Script ⊤) → n ≤ m → Is n o → Is m o
  weaker n m o less h = let few = h.0 in (omega (arith, few, less), h.1)

  commands_few : (items : Items) (n : ℕ) (s : Script) → Few n s → Is (counted items + n) (script_commands replaces items s)
  unfolding script_commands
  commands_few no_items n s h = (omega (arith, h), tt)
  commands_few (item i rest) n s h =
      ends-goes_on (Few (1 + counted rest + n)) Whatever Whatever (script_command_of s.is_checked i) s _ (omega (arith, h)) (any_result (script_command_of s.is_checked i))
      (λ c _. next (λ after k. commands_few rest (1 + n) after k) (ends c) c)
    where
      next : ((after : Script) → Few (1 + n) after → Is (counted rest + (1 + n)) (script_commands replaces rest after)) → (b : Bool) (c : ScriptCommand)
          → Is (1 + counted rest + n) (if b then done tt s else and_then (script_performed replaces c s) (λ _ after. script_commands replaces rest after))
      next behind true c = (omega (arith, h), tt)
      next behind false c =
          let first = performed_few n c s h in
          (ends-goes_on (Few (1 + counted rest + n)) Whatever Whatever (script_performed replaces c s).result (script_performed replaces c s).state
          (λ _ after. script_commands replaces rest after) (let few = first.0 in omega (arith, few)) first.1
          (λ _ _. weaker (counted rest + (1 + n)) (1 + counted rest + n) (script_commands replaces rest (script_performed replaces c s).state) (omega arith) (behind (script_performed replaces c s).state first.0)))

pub few_assertions : AreSpelled → (source : List ℕ) (replaces : Bool) (s : Script) → StandsForProblem source replaces s → length s.assertions ≤ length source
few_assertions law source replaces s h =
    let all : Few (counted h.items + 0) (script_commands replaces h.items empty_script).state = (commands_few replaces h.items 0 empty_script (omega arith)).0 in
    let few : length s.assertions ≤ counted h.items + 0 = subst (λ (o : Outcome Script ⊤). length o.state.assertions ≤ counted h.items + 0) h.read all in
    let fits = text_counts law source h.items h.nested in
    omega (arith, few, fits)
