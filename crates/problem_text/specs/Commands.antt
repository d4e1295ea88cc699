-- Public. The commands of a problem (SMT-LIB 2.6, "Scripts" and "Commands") and their shapes, which reach down
-- to the terms and sorts of a command, but not into them.
use Rattle.std.specs.Prelude.{ℕ, Bool, if◌then◌else◌, List, [], ◌∷◌, codes, bytes_eq, Option, Some, None, Result, Ok, Err}
use Rattle.std.specs.Option.{option_or}
use Rattle.sexpr.specs.declared.causes.Cause.{Cause}
use Rattle.sexpr.specs.declared.causes.Cause.TheVariants.{UnknownCommand, BadCommand, LeftOut}
use Rattle.sexpr.specs.declared.causes.Refusal.{Refusal}
use Rattle.sexpr.specs.Words.{is_numeral, is_symbol, numeral_value}
use Rattle.sexpr.specs.Items.{Item, word, list, Items, no_items, item, place_of}
use Rattle.text_items.specs.Spelling.{is_keyword_item}
use Rattle.problem_text.specs.Words.{is_among, left_out_commands}
use Rattle.text_items.specs.ItemShapes.{Name, name_at, excess, symbol_fault, pairs_fault}
use Rattle.text_items.specs.ItemShapes.{items_of}
use Rattle.text_items.specs.Keywords.{list_fault}

-- A command by its items: sorts, parameters and terms are still to be read. A declaration of a sort has the place
-- and the value of its numeral. A declaration of a constant is that of a function without arguments.
pub data ScriptCommand : Type 0 where
  set_logic : Name → ScriptCommand
  without_effect : ScriptCommand
  declare_sort : Name → ℕ → ℕ → ScriptCommand
  declare_fun : Name → Items → Item → ScriptCommand
  define_fun : Name → Items → Item → Item → ScriptCommand
  assert_term : Item → ScriptCommand
  check_sat : ScriptCommand
  exit : ScriptCommand

abbrev pub refused : {A : Type 0} → Cause → ℕ → Result A Refusal
refused cause place = Err (record { cause = cause; at = place })

-- a command of the right shape, or the first place where it has another
abbrev pub shaped : {C : Type 0} → Option ℕ → C → Result C Refusal
shaped (Some place) c = refused BadCommand place
shaped None c = Ok c

abbrev pub numeral_fault : Item → Option ℕ
numeral_fault (word place spelling) = if is_numeral spelling then None else Some place
numeral_fault other = Some (place_of other)

abbrev pub value_of_numeral : Item → ℕ
value_of_numeral (word place spelling) = numeral_value spelling
value_of_numeral other = 0

abbrev pub keyword_fault : Item → Option ℕ
keyword_fault i = if is_keyword_item i then None else Some (place_of i)

-- a list of parameters with their sorts
abbrev pub parameters_fault : Item → Option ℕ
parameters_fault (list place items) = pairs_fault items
parameters_fault other = Some (place_of other)

-- The commands by what stands after their words. Each begins at this place, and one that lacks an item is faulty there.
abbrev pub set_logic_shape : ℕ → Items → Result ScriptCommand Refusal
set_logic_shape place (item logic rest) = shaped (option_or (symbol_fault logic) (excess rest)) (set_logic (name_at logic))
set_logic_shape place _ = refused BadCommand place

abbrev pub attribute_shape : ℕ → Items → Result ScriptCommand Refusal
attribute_shape place (item keyword rest) = shaped (keyword_fault keyword) without_effect
attribute_shape place _ = refused BadCommand place

abbrev pub declare_sort_shape : ℕ → Items → Result ScriptCommand Refusal
declare_sort_shape place (item name (item arity rest)) =
    shaped (option_or (symbol_fault name) (option_or (numeral_fault arity) (excess rest)))
    (declare_sort (name_at name) (place_of arity) (value_of_numeral arity))
declare_sort_shape place _ = refused BadCommand place

abbrev pub declare_fun_shape : ℕ → Items → Result ScriptCommand Refusal
declare_fun_shape place (item name (item sorts (item target rest))) =
    shaped (option_or (symbol_fault name) (option_or (list_fault sorts) (excess rest)))
    (declare_fun (name_at name) (items_of sorts) target)
declare_fun_shape place _ = refused BadCommand place

abbrev pub declare_const_shape : ℕ → Items → Result ScriptCommand Refusal
declare_const_shape place (item name (item target rest)) =
    shaped (option_or (symbol_fault name) (excess rest)) (declare_fun (name_at name) no_items target)
declare_const_shape place _ = refused BadCommand place

abbrev pub define_fun_shape : ℕ → Items → Result ScriptCommand Refusal
define_fun_shape place (item name (item parameters (item target (item body rest)))) =
    shaped (option_or (symbol_fault name) (option_or (parameters_fault parameters) (excess rest)))
    (define_fun (name_at name) (items_of parameters) target body)
define_fun_shape place _ = refused BadCommand place

abbrev pub assert_shape : ℕ → Items → Result ScriptCommand Refusal
assert_shape place (item t rest) = shaped (excess rest) (assert_term t)
assert_shape place _ = refused BadCommand place

-- The command of this word, whose place is the second. No assertion is read after a check.
abbrev pub script_command_named : Bool → ℕ → ℕ → List ℕ → Items → Result ScriptCommand Refusal
script_command_named checked place word_place name items =
    if bytes_eq name (codes "assert") then (if checked then refused LeftOut word_place else assert_shape place items)
    else if bytes_eq name (codes "declare-fun") then declare_fun_shape place items
    else if bytes_eq name (codes "declare-const") then declare_const_shape place items
    else if bytes_eq name (codes "define-fun") then define_fun_shape place items
    else if bytes_eq name (codes "declare-sort") then declare_sort_shape place items
    else if bytes_eq name (codes "set-logic") then set_logic_shape place items
    else if is_among (codes "set-info" ∷ codes "set-option" ∷ []) name then attribute_shape place items
    else if bytes_eq name (codes "check-sat") then shaped (excess items) check_sat
    else if is_among (codes "get-proof" ∷ codes "get-unsat-core" ∷ []) name then shaped (excess items) without_effect
    else if bytes_eq name (codes "exit") then shaped (excess items) exit
    else if is_among left_out_commands name then refused LeftOut word_place
    else refused UnknownCommand word_place

-- The word of a command stands without bars.
abbrev pub headed_script_command : Bool → ℕ → Item → Items → Result ScriptCommand Refusal
headed_script_command checked place (word word_place spelling) items =
    if is_symbol spelling then script_command_named checked place word_place spelling items else refused BadCommand word_place
headed_script_command checked place head items = refused BadCommand (place_of head)

-- The command that a top item of the text is, where a check stands before it or none does.
unfoldable pub script_command_of : Bool → Item → Result ScriptCommand Refusal
script_command_of checked (list place (item head items)) = headed_script_command checked place head items
script_command_of checked other = refused BadCommand (place_of other)
