-- What the commands of a problem are made of: names of symbols, and items that have such names.
use Rattle.std.proofs.Common.{ℕ, Bool, true, false, Option, Some, None, Result, IfOk, List, [], ◌∷◌, if◌then◌else◌, codes, bytes_eq}
use Rattle.std.specs.Prelude.{⊤}
use Rattle.sexpr.specs.Items.{Item, word, quoted, string, list, Items, no_items, item}
use Rattle.sexpr.specs.Words.{is_symbol}
use Rattle.rule_model.specs.RuleNames.{IsSymbolName}
use Rattle.sexpr.specs.declared.causes.Refusal.{Refusal}
use Rattle.problem_text.specs.Commands.{ScriptCommand, set_logic, without_effect, declare_sort, declare_fun, define_fun, assert_term, check_sat, exit}
use Rattle.problem_text.specs.Commands.{shaped, set_logic_shape, attribute_shape, declare_sort_shape, declare_fun_shape, declare_const_shape}
use Rattle.problem_text.specs.Commands.{define_fun_shape, assert_shape, script_command_named, script_command_of}
use Rattle.problem_text.specs.Words.{is_among, left_out_commands}
use Rattle.alethe_text.specs.CommandNames.{HasNames, HaveNames}
use Rattle.alethe_text.proofs.SymbolNames.{name_is}

abbrev pub IsGoodCommand : ScriptCommand → Type 0
IsGoodCommand (set_logic n) = ⊤
IsGoodCommand without_effect = ⊤
IsGoodCommand (declare_sort n place arity) = ⊤
IsGoodCommand (declare_fun n arguments target) = IsSymbolName n.name × HasNames target
IsGoodCommand (define_fun n parameters target body) = HasNames body
IsGoodCommand (assert_term i) = HasNames i
IsGoodCommand check_sat = ⊤
IsGoodCommand exit = ⊤

abbrev IsGood : Result ScriptCommand Refusal → Type 0
IsGood r = IfOk r IsGoodCommand

shape_good : (o : Option ℕ) (c : ScriptCommand) → IsGoodCommand c → IsGood (shaped o c)
shape_good (Some place) c h = tt
shape_good None c h = h

either : (b : Bool) (x y : Result ScriptCommand Refusal) → IsGood x → IsGood y → IsGood (if b then x else y)
either true x y h k = h
either false x y h k = k

logic_good : (place : ℕ) (items : Items) → IsGood (set_logic_shape place items)
logic_good place no_items = tt
logic_good place (item logic rest) = shape_good _ _ tt

attribute_good : (place : ℕ) (items : Items) → IsGood (attribute_shape place items)
attribute_good place no_items = tt
attribute_good place (item keyword rest) = shape_good _ _ tt

sort_good : (place : ℕ) (items : Items) → IsGood (declare_sort_shape place items)
sort_good place no_items = tt
sort_good place (item name no_items) = tt
sort_good place (item name (item arity rest)) = shape_good _ _ tt

fun_good : (place : ℕ) (items : Items) → HaveNames items → IsGood (declare_fun_shape place items)
fun_good place no_items h = tt
fun_good place (item name no_items) h = tt
fun_good place (item name (item sorts no_items)) h = tt
fun_good place (item name (item sorts (item target rest))) h = shape_good _ _ (name_is name h.0, h.1.1.0)

const_good : (place : ℕ) (items : Items) → HaveNames items → IsGood (declare_const_shape place items)
const_good place no_items h = tt
const_good place (item name no_items) h = tt
const_good place (item name (item target rest)) h = shape_good _ _ (name_is name h.0, h.1.0)

define_good : (place : ℕ) (items : Items) → HaveNames items → IsGood (define_fun_shape place items)
define_good place no_items h = tt
define_good place (item name no_items) h = tt
define_good place (item name (item parameters no_items)) h = tt
define_good place (item name (item parameters (item target no_items))) h = tt
define_good place (item name (item parameters (item target (item body rest)))) h = shape_good _ _ h.1.1.1.0

assert_good : (place : ℕ) (items : Items) → HaveNames items → IsGood (assert_shape place items)
assert_good place no_items h = tt
assert_good place (item t rest) h = shape_good _ _ h.0

named_good : (checked : Bool) (place at : ℕ) (name : List ℕ) (items : Items) → HaveNames items → IsGood (script_command_named checked place at name items)
named_good checked place at name items h =
    either (bytes_eq name (codes "assert")) _ _ (either checked _ _ tt (assert_good place items h))
    (either (bytes_eq name (codes "declare-fun")) _ _ (fun_good place items h)
    (either (bytes_eq name (codes "declare-const")) _ _ (const_good place items h)
    (either (bytes_eq name (codes "define-fun")) _ _ (define_good place items h)
    (either (bytes_eq name (codes "declare-sort")) _ _ (sort_good place items)
    (either (bytes_eq name (codes "set-logic")) _ _ (logic_good place items)
    (either (is_among (codes "set-info" ∷ codes "set-option" ∷ []) name) _ _ (attribute_good place items)
    (either (bytes_eq name (codes "check-sat")) _ _ (shape_good _ _ tt)
    (either (is_among (codes "get-proof" ∷ codes "get-unsat-core" ∷ []) name) _ _ (shape_good _ _ tt)
    (either (bytes_eq name (codes "exit")) _ _ (shape_good _ _ tt)
    (either (is_among left_out_commands name) _ _ tt tt))))))))))

pub command_good : (checked : Bool) (i : Item) → HasNames i → IfOk (script_command_of checked i) IsGoodCommand
unfolding script_command_of
command_good checked (word place spelling) h = tt
command_good checked (quoted place spelling) h = tt
command_good checked (string place spelling) h = tt
command_good checked (list place no_items) h = tt
command_good checked (list place (item (word at spelling) items)) h = either (is_symbol spelling) _ _ (named_good checked place at spelling items h.1) tt
command_good checked (list place (item (quoted at spelling) items)) h = tt
command_good checked (list place (item (string at spelling) items)) h = tt
command_good checked (list place (item (list at inner) items)) h = tt
