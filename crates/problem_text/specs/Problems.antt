-- Public. What the text of a problem stands for, and its first fault (SMT-LIB 2.6, "Scripts" and "Commands").
use Rattle.std.specs.Prelude.{◌≡◌, ℕ, ◌==◌, Bool, true, false, ◌||◌, if◌then◌else◌, List, [], map, Contains, Err, ⊤, ◌⊎◌}
use Rattle.sexpr.specs.declared.causes.Cause.TheVariants.{Repeated, LeftOut, SortMismatch}
use Rattle.sexpr.specs.declared.causes.Refusal.{Refusal}
use Rattle.sexpr.specs.Form.{IsFormFault}
use Rattle.sexpr.specs.Items.{Item, Items, no_items, item, place_of, StandsForItems}
use Rattle.term_model.specs.declared.symbols.Sort.{Sort}
use Rattle.term_model.specs.Terms.{sort_eq, Fun}
use Rattle.problem_text.specs.Words.{is_among, is_built_in, logics}
use Rattle.text_items.specs.ItemShapes.{Name}
use Rattle.problem_text.specs.Commands.{ScriptCommand, set_logic, without_effect, declare_sort, declare_fun, define_fun, assert_term, check_sat, exit}
use Rattle.problem_text.specs.Commands.{script_command_of}
use Rattle.problem_text.specs.Outcomes.{Outcome, done, refuse, given, and_then, going_on}
use Rattle.problem_text.specs.Scripts.{Script, empty_script, is_taken, with_name, with_sort, with_function, with_macro, with_assertion}
use Rattle.problem_text.specs.Limits.{limited}
use Rattle.problem_text.specs.Sorts.{sort_from, sorts_from, parameters_from}
use Rattle.problem_text.specs.Names.{itself}
use Rattle.problem_text.specs.Terms.{read_term}

abbrev pub logic_set : Name → Script → Outcome Script ⊤
logic_set n s =
    if s.has_logic then refuse Repeated n.place s
    else if is_among logics n.name then done tt (record s { has_logic = true })
    else refuse LeftOut n.place s

-- only sorts without parameters are read
abbrev pub sort_declared : Name → ℕ → ℕ → Script → Outcome Script ⊤
sort_declared n arity_place arity s =
    if is_built_in n.name || is_among s.sorts n.name then refuse Repeated n.place s
    else if arity == 0 then done tt (with_sort n.name s)
    else refuse LeftOut arity_place s

abbrev pub function_declared : Name → Items → Item → Script → Outcome Script ⊤
function_declared n arguments target s =
    if is_taken s n.name then refuse Repeated n.place s
    else and_then (given (sorts_from s.sorts arguments) s) (λ ss after.
    and_then (given (sort_from s.sorts target) after) (λ t last.
    done tt (with_function (record { name = n.name; arguments = ss; target = t }) (with_name n.name last))))

-- The name is taken from where it stands, and usable after the command. Lets in the body are replaced.
abbrev pub function_defined : Name → Items → Item → Item → Script → Outcome Script ⊤
function_defined n parameters target body s =
    if is_taken s n.name then refuse Repeated n.place s
    else and_then (given (parameters_from s.sorts [] parameters) (with_name n.name s)) (λ xs named.
    and_then (given (sort_from s.sorts target) named) (λ sort sorted.
    and_then (read_term body (record { scope = map itself xs; settings = limited true }) sorted) (λ t last.
    if sort_eq t.sort sort then done tt (with_macro (record { name = n.name; parameters = xs; target = sort; body = t.tree }) last)
    else refuse SortMismatch (place_of body) last)))

abbrev pub term_asserted : Bool → Item → Script → Outcome Script ⊤
term_asserted replaces_lets i s =
    and_then (read_term i (record { scope = []; settings = limited replaces_lets }) s) (λ t after.
    if sort_eq t.sort Sort.Bool then done tt (with_assertion t.tree after) else refuse SortMismatch (place_of i) after)

-- what a command does, where lets of assertions are replaced or not
unfoldable pub script_performed : Bool → ScriptCommand → Script → Outcome Script ⊤
script_performed replaces_lets (set_logic n) s = logic_set n s
script_performed replaces_lets without_effect s = done tt s
script_performed replaces_lets (declare_sort n arity_place arity) s = sort_declared n arity_place arity s
script_performed replaces_lets (declare_fun n arguments target) s = function_declared n arguments target s
script_performed replaces_lets (define_fun n parameters target body) s = function_defined n parameters target body s
script_performed replaces_lets (assert_term i) s = term_asserted replaces_lets i s
script_performed replaces_lets check_sat s = done tt (record s { is_checked = true })
script_performed replaces_lets exit s = done tt s

-- after an exit nothing is judged
abbrev pub ends : ScriptCommand → Bool
ends exit = true
ends other = false

abbrev pub goes_on_after : Bool → ScriptCommand → Script → (Script → Outcome Script ⊤) → Outcome Script ⊤
goes_on_after replaces_lets c s next = if ends c then done tt s else and_then (script_performed replaces_lets c s) (λ _ after. next after)

-- the commands of a text, in their order
unfoldable pub script_commands : Bool → Items → Script → Outcome Script ⊤
script_commands replaces_lets no_items s = done tt s
script_commands replaces_lets (item i rest) s =
    going_on (script_command_of s.is_checked i) s (λ c before. goes_on_after replaces_lets c before (script_commands replaces_lets rest))

-- what the items of a whole text come to
abbrev pub problem : Bool → Items → Outcome Script ⊤
problem replaces_lets items = script_commands replaces_lets items empty_script

-- The text is without a fault and stands for this script.
pub record StandsForProblem (source : List ℕ) (replaces_lets : Bool) (s : Script) : Type 0 where
  pub items : Items
  pub nested : StandsForItems source items
  pub read : problem replaces_lets items ≡ done tt s

-- the text has the form of nested items, and this is the first fault of its commands
pub record IsCommandFault (source : List ℕ) (replaces_lets : Bool) (refusal : Refusal) : Type 0 where
  pub items : Items
  pub nested : StandsForItems source items
  pub refused : (problem replaces_lets items).result ≡ Err refusal

-- The first fault of the text: one of its form, or else one of its commands.
abbrev pub IsFirstFault : List ℕ → Bool → Refusal → Type 0
IsFirstFault source replaces_lets refusal = IsFormFault source refusal ⊎ IsCommandFault source replaces_lets refusal

-- no variable that a let binds has the name of a declared function
abbrev pub HasNamesApart : Script → Type 0
HasNamesApart s = (f : Fun) → Contains s.functions f → Contains s.let_names f.name → ⊥
