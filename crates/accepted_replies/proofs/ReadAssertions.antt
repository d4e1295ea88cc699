-- Private. The assertions of a script without macros and named terms are printable behind it.
use Rattle.std.proofs.Common.{◌≡◌, ℕ, ◌==◌, Bool, true, false, ◌||◌, Result}
use Rattle.std.proofs.Common.{Ok, Err, List, [], ◌∷◌, map, if◌then◌else◌, refl, sym, subst}
use Rattle.std.specs.Prelude.{⊤, Contains}
use Rattle.std.specs.List.{AllByRecursion}
use Rattle.std.proofs.lemmas.List.Elements.{Contains-append_left}
use Rattle.sexpr.specs.declared.causes.Cause.{Cause}
use Rattle.sexpr.specs.declared.causes.Cause.TheVariants.{Repeated, LeftOut, SortMismatch}
use Rattle.sexpr.specs.declared.causes.Refusal.{Refusal}
use Rattle.sexpr.specs.Items.{Item, Items, no_items, item, place_of}
use Rattle.term_model.specs.declared.symbols.Sort.{Sort}
use Rattle.term_model.specs.Terms.{sort_eq}
use Rattle.term_model.proofs.Lists.{all_at_end}
use Rattle.text_items.specs.ItemShapes.{Name}
use Rattle.problem_text.specs.Commands.{ScriptCommand, set_logic, without_effect, declare_sort, declare_fun, define_fun, assert_term, check_sat, exit}
use Rattle.problem_text.specs.Commands.{script_command_of}
use Rattle.problem_text.specs.Forms.{form_of}
use Rattle.problem_text.specs.Limits.{limited}
use Rattle.problem_text.specs.Names.{itself}
use Rattle.problem_text.specs.Outcomes.{Outcome, done, refuse, given, and_then}
use Rattle.problem_text.specs.PrintedTerms.{IsPrintable}
use Rattle.problem_text.specs.Problems.{logic_set, sort_declared, function_declared, function_defined, term_asserted, script_performed, ends, script_commands}
use Rattle.problem_text.specs.Problems.{StandsForProblem}
use Rattle.problem_text.specs.Scripts.{Script, empty_script, is_taken, with_name, with_sort, with_assertion}
use Rattle.problem_text.specs.Sorts.{sort_from, sorts_from, parameters_from}
use Rattle.problem_text.specs.Terms.{read_term}
use Rattle.problem_text.specs.TypedTerms.{Typed}
use Rattle.problem_text.specs.Words.{is_among, is_built_in, logics}
use Rattle.readable_proofs.specs.Names.{IsWellNamed, AreOwnNames}
use Rattle.accepted_replies.proofs.OwnNames.{ArePrintableTerms, there}
use Rattle.accepted_replies.proofs.ReadForms.{form_good}
use Rattle.accepted_replies.proofs.ReadPrintable.{AfterRead, Reads, goes_on, here, not_empty, IsBefore, earlier, term_read}

module _ (printable : ArePrintableTerms) (z : Script) (well : IsWellNamed z) (own : AreOwnNames z.let_names) (no_macros : z.macros ≡ [])
    (no_named : z.named ≡ []) where
  abbrev Before : Script → Type 0
  Before u = IsBefore printable z well own no_macros no_named u

  abbrev ArePrinted : Script → Type 0
  ArePrinted s = Before s → AllByRecursion (λ a. IsPrintable (there []) z a) s.assertions

  abbrev IsDone : Outcome Script ⊤ → Type 0
  IsDone o = Reads (λ _ u. ArePrinted u) o

  unless_refused : (b : Bool) (cause : Cause) (place : ℕ) (s : Script) (o : Outcome Script ⊤) → IsDone o → IsDone (if b then refuse cause place s else o)
  unless_refused true cause place s o h = tt
  unless_refused false cause place s o h = h

  where_allowed : (b : Bool) (cause : Cause) (place : ℕ) (s : Script) (o : Outcome Script ⊤) → IsDone o → IsDone (if b then o else refuse cause place s)
  where_allowed true cause place s o h = h
  where_allowed false cause place s o h = tt

  given_done : {A : Type 0} (r : Result A Refusal) (s : Script) (next : A → Script → Outcome Script ⊤) → ((a : A) → IsDone (next a s))
      → IsDone (and_then (given r s) next)
  given_done (Ok a) s next h = h a
  given_done (Err refusal) s next h = tt

  then_done : {A : Type 0} (Q : A → Script → Type 0) (o : Outcome Script A) (next : A → Script → Outcome Script ⊤) → Reads Q o
      → ((a : A) (u : Script) → Q a u → IsDone (next a u)) → IsDone (and_then o next)
  then_done Q o next h k = goes_on Q (λ _ u. ArePrinted u) o.result o.state next h k

  -- a script that differs in nothing that counts
  still : (s u : Script) → s.functions ≡ u.functions → s.let_names ≡ u.let_names → s.macros ≡ u.macros → s.named ≡ u.named → Before u → Before s
  still s u functions names macros named b = record {
    functions = λ f has. b.functions f (subst (λ fs. Contains fs f) functions has);
    names = λ name has. b.names name (subst (λ ns. Contains ns name) names has);
    macros = subst (λ ms. ms ≡ []) (sym macros) b.macros;
    named = subst (λ ns. ns ≡ []) (sym named) b.named;
  }

  logic_done : (n : Name) (s : Script) → ArePrinted s → IsDone (logic_set n s)
  logic_done n s h =
      unless_refused s.has_logic Repeated n.place s _
      (where_allowed (is_among logics n.name) LeftOut n.place s _ (λ b. h (still s (record s { has_logic = true }) refl refl refl refl b)))

  sort_done : (n : Name) (arity_place arity : ℕ) (s : Script) → ArePrinted s → IsDone (sort_declared n arity_place arity s)
  sort_done n arity_place arity s h =
      unless_refused (is_built_in n.name || is_among s.sorts n.name) Repeated n.place s _
      (where_allowed (arity == 0) LeftOut arity_place s _ (λ b. h (still s (with_sort n.name s) refl refl refl refl b)))

  function_done : (n : Name) (arguments : Items) (target : Item) (s : Script) → ArePrinted s → IsDone (function_declared n arguments target s)
  function_done n arguments target s h =
      unless_refused (is_taken s n.name) Repeated n.place s _
      (given_done (sorts_from s.sorts arguments) s _
      (λ ss. given_done (sort_from s.sorts target) s _
      (λ t b. h (record {
        functions = λ f has. b.functions f (Contains-append_left s.functions (record { name = n.name; arguments = ss; target = t } ∷ []) f has);
        names = b.names;
        macros = b.macros;
        named = b.named;
      }))))

  -- a macro is one too many
  any_read : {A : Type 0} (r : Result A Refusal) (s : Script) → AfterRead (λ (a : A) (u : Script). ⊤) r s
  any_read (Ok a) s = tt
  any_read (Err refusal) s = tt

  macro_done : (n : Name) (parameters : Items) (target body : Item) (s : Script) → IsDone (function_defined n parameters target body s)
  macro_done n parameters target body s =
      unless_refused (is_taken s n.name) Repeated n.place s _
      (given_done (parameters_from s.sorts [] parameters) (with_name n.name s) _
      (λ xs. given_done (sort_from s.sorts target) (with_name n.name s) _
      (λ sort.
      let reading : Outcome Script Typed = read_term body (record { scope = map itself xs; settings = limited true }) (with_name n.name s) in
      then_done (λ _ _. ⊤) reading _ (any_read reading.result reading.state)
      (λ t last _. where_allowed (sort_eq t.sort sort) SortMismatch (place_of body) last _
      (λ b. absurd (not_empty last.macros (record { name = n.name; parameters = xs; target = sort; body = t.tree }) b.macros))))))

  assertion_done : (i : Item) (s : Script) → ArePrinted s → IsDone (term_asserted false i s)
  assertion_done i s h =
      then_done _ (read_term i (here []) s) _ (term_read printable z well own no_macros no_named (form_of i) [] s (form_good i))
      (λ t after k. where_allowed (sort_eq t.sort Sort.Bool) SortMismatch (place_of i) after _
      (λ b. let before : Before after = still after (with_assertion t.tree after) refl refl refl refl b in
      all_at_end (λ a. IsPrintable (there []) z a) after.assertions t.tree
      (subst (AllByRecursion (λ a. IsPrintable (there []) z a)) k.0.assertions
      (h (earlier printable z well own no_macros no_named s after k.0 before))) (k.1 before tt)))

  performed_done : (c : ScriptCommand) (s : Script) → ArePrinted s → IsDone (script_performed false c s)
  unfolding script_performed
  performed_done (set_logic n) s h = logic_done n s h
  performed_done without_effect s h = h
  performed_done (declare_sort n arity_place arity) s h = sort_done n arity_place arity s h
  performed_done (declare_fun n arguments target) s h = function_done n arguments target s h
  performed_done (define_fun n parameters target body) s h = macro_done n parameters target body s
  performed_done (assert_term i) s h = assertion_done i s h
  performed_done check_sat s h = λ b. h (still s (record s { is_checked = true }) refl refl refl refl b)
  performed_done exit s h = h

  next_done : (b : Bool) (c : ScriptCommand) (s : Script) (next : Script → Outcome Script ⊤) → ArePrinted s
      → ((u : Script) → ArePrinted u → IsDone (next u)) → IsDone (if b then done tt s else and_then (script_performed false c s) (λ _ after. next after))
  next_done true c s next h k = h
  next_done false c s next h k =
      then_done (λ _ u. ArePrinted u) (script_performed false c s) (λ _ after. next after) (performed_done c s h) (λ _ after l. k after l)

  commands_done : (items : Items) (s : Script) → ArePrinted s → IsDone (script_commands false items s)
  unfolding script_commands
  commands_done no_items s h = h
  commands_done (item i rest) s h =
      goes_on (λ _ u. ArePrinted u) (λ _ u. ArePrinted u) (script_command_of s.is_checked i) s _ (go (script_command_of s.is_checked i))
      (λ c u k. next_done (ends c) c u (script_commands false rest) k (λ after l. commands_done rest after l))
    where
      go : (r : Result ScriptCommand Refusal) → AfterRead (λ (c : ScriptCommand) (u : Script). ArePrinted u) r s
      go (Ok c) = h
      go (Err refusal) = tt

  itself_before : Before z
  itself_before = record { functions = λ f has. has; names = λ name has. has; macros = no_macros; named = no_named }

  pub assertions_printable : (source : List ℕ) → StandsForProblem source false z → AllByRecursion (λ a. IsPrintable (there []) z a) z.assertions
  assertions_printable source h =
      subst (λ (o : Outcome Script ⊤). AfterRead {S = Script} {A = ⊤} (λ _ u. ArePrinted u) o.result o.state) h.read
      (commands_done h.items empty_script (λ b. tt)) itself_before
