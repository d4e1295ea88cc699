-- What the commands of a proof are made of: names of symbols, and items that have such names.
use Rattle.std.proofs.Common.{ℕ, Bool, true, false, Option, Some, None, Result, IfOk, List, [], ◌∷◌, if◌then◌else◌, codes, bytes_eq}
use Rattle.std.specs.Prelude.{⊤}
use Rattle.std.specs.List.{AllByRecursion}
use Rattle.sexpr.specs.declared.causes.Refusal.{Refusal}
use Rattle.sexpr.specs.Items.{Item, word, quoted, string, list, Items, no_items, item}
use Rattle.sexpr.specs.Words.{is_symbol}
use Rattle.term_model.proofs.Lists.{all_joined}
use Rattle.rule_model.specs.RuleNames.{IsSymbolName}
use Rattle.text_items.specs.ItemShapes.{name_at, items_of}
use Rattle.text_items.specs.Keywords.{is_spelled, behind_first}
use Rattle.problem_text.specs.Commands.{shaped}
use Rattle.alethe_text.specs.CommandNames.{HasNames, HaveNames}
use Rattle.alethe_text.specs.Commands.{Attribute, rule, premises, arguments, discharge, Argument, variable_alone, assigned, Command, assume, step, anchor}
use Rattle.alethe_text.specs.Commands.{names_in, attribute_of, attribute_with, attributes_of, assume_shape, step_shape, assigned_to, argument_of}
use Rattle.alethe_text.specs.Commands.{arguments_in, argument_items, anchor_shape, command_named, command_of}
use Rattle.alethe_text.proofs.SymbolNames.{name_is}

abbrev pub IsGoodAttribute : Attribute → Type 0
IsGoodAttribute (rule n) = ⊤
IsGoodAttribute (premises ns) = ⊤
IsGoodAttribute (arguments items) = HaveNames items
IsGoodAttribute (discharge ns) = ⊤

abbrev pub IsGoodArgument : Argument → Type 0
IsGoodArgument (variable_alone place) = ⊤
IsGoodArgument (assigned place x sort i) = IsSymbolName x.name × HasNames i

abbrev pub IsGoodCommand : Command → Type 0
IsGoodCommand (assume n i) = HasNames i
IsGoodCommand (step n literals others) = HaveNames literals × AllByRecursion IsGoodAttribute others
IsGoodCommand (anchor place n others) = AllByRecursion IsGoodArgument others

shape_good : (o : Option ℕ) (c : Command) → IsGoodCommand c → IfOk (shaped o c) IsGoodCommand
shape_good (Some place) c h = tt
shape_good None c h = h

either : (b : Bool) (x y : Result Command Refusal) → IfOk x IsGoodCommand → IfOk y IsGoodCommand → IfOk (if b then x else y) IsGoodCommand
either true x y h k = h
either false x y h k = k

inner_items : (i : Item) → HasNames i → HaveNames (items_of i)
inner_items (word place spelling) h = tt
inner_items (quoted place spelling) h = tt
inner_items (string place spelling) h = tt
inner_items (list place items) h = h

rest_items : (items : Items) → HaveNames items → HaveNames (behind_first items)
rest_items no_items h = tt
rest_items (item i rest) h = h.1

attribute_good : (keyword value : Item) → HasNames value → AllByRecursion IsGoodAttribute (attribute_of keyword value)
attribute_good keyword value h =
    go (is_spelled (codes ":rule") keyword) (is_spelled (codes ":premises") keyword) (is_spelled (codes ":args") keyword)
    (is_spelled (codes ":discharge") keyword)
  where
    go : (a b c d : Bool) → AllByRecursion IsGoodAttribute
        (if a then rule (name_at value) ∷ []
        else if b then premises (names_in (items_of value)) ∷ []
        else if c then arguments (items_of value) ∷ []
        else if d then discharge (names_in (items_of value)) ∷ []
        else [])
    go true b c d = (tt, tt)
    go false true c d = (tt, tt)
    go false false true d = (inner_items value h, tt)
    go false false false true = (tt, tt)
    go false false false false = tt

with_good : (keyword : Item) (rest : Items) → HaveNames rest → AllByRecursion IsGoodAttribute (attribute_with keyword rest)
with_good keyword no_items h = tt
with_good keyword (item value rest) h = attribute_good keyword value h.0

attributes_good : (items : Items) → HaveNames items → AllByRecursion IsGoodAttribute (attributes_of items)
attributes_good no_items h = tt
attributes_good (item i rest) h =
    all_joined IsGoodAttribute (attribute_with i rest) (attributes_of rest) (with_good i rest h.1) (attributes_good rest h.1)

assigned_good : (place : ℕ) (x t : Item) → HasNames x → HasNames t → IsGoodArgument (assigned_to place x t)
assigned_good place (word at spelling) t h k = (name_is (word at spelling) h, k)
assigned_good place (quoted at spelling) t h k = (name_is (quoted at spelling) h, k)
assigned_good place (string at spelling) t h k = (name_is (string at spelling) h, k)
assigned_good place (list at no_items) t h k = (name_is (list at no_items) h, k)
assigned_good place (list at (item x no_items)) t h k = (name_is (list at (item x no_items)) h, k)
assigned_good place (list at (item x (item sort rest))) t h k = (name_is x h.0, k)

argument_good : (i : Item) → HasNames i → IsGoodArgument (argument_of i)
argument_good (word place spelling) h = tt
argument_good (quoted place spelling) h = tt
argument_good (string place spelling) h = tt
argument_good (list place no_items) h = tt
argument_good (list place (item assigns no_items)) h = tt
argument_good (list place (item assigns (item x no_items))) h = tt
argument_good (list place (item assigns (item x (item t rest)))) h = assigned_good place x t h.1.0 h.1.1.0

arguments_good : (items : Items) → HaveNames items → AllByRecursion IsGoodArgument (arguments_in items)
arguments_good no_items h = tt
arguments_good (item i rest) h = (argument_good i h.0, arguments_good rest h.1)

argument_names : (items : Items) → HaveNames items → HaveNames (argument_items items)
argument_names no_items h = tt
argument_names (item keyword no_items) h = tt
argument_names (item keyword (item items rest)) h = inner_items items h.1.0

assume_good : (place : ℕ) (items : Items) → HaveNames items → IfOk (assume_shape place items) IsGoodCommand
assume_good place no_items h = tt
assume_good place (item id no_items) h = tt
assume_good place (item id (item t rest)) h = shape_good _ _ h.1.0

step_good : (place : ℕ) (items : Items) → HaveNames items → IfOk (step_shape place items) IsGoodCommand
step_good place no_items h = tt
step_good place (item id no_items) h = tt
step_good place (item id (item clause rest)) h =
    shape_good _ _ (rest_items (items_of clause) (inner_items clause h.1.0), attributes_good rest h.1.1)

anchor_good : (place : ℕ) (items : Items) → HaveNames items → IfOk (anchor_shape place items) IsGoodCommand
anchor_good place no_items h = tt
anchor_good place (item keyword no_items) h = tt
anchor_good place (item keyword (item id rest)) h = shape_good _ _ (arguments_good (argument_items rest) (argument_names rest h.1.1))

word_good : (place at : ℕ) (name : List ℕ) (items : Items) → HaveNames items → IfOk (command_named place at name items) IsGoodCommand
word_good place at name items h =
    either (bytes_eq name (codes "assume")) _ _ (assume_good place items h)
    (either (bytes_eq name (codes "step")) _ _ (step_good place items h)
    (either (bytes_eq name (codes "anchor")) _ _ (anchor_good place items h)
    (either (bytes_eq name (codes "define-fun")) _ _ tt tt)))

pub command_good : (i : Item) → HasNames i → IfOk (command_of i) IsGoodCommand
unfolding command_of
command_good (word place spelling) h = tt
command_good (quoted place spelling) h = tt
command_good (string place spelling) h = tt
command_good (list place no_items) h = tt
command_good (list place (item (word at spelling) items)) h = either (is_symbol spelling) _ _ (word_good place at spelling items h.1) tt
command_good (list place (item (quoted at spelling) items)) h = tt
command_good (list place (item (string at spelling) items)) h = tt
command_good (list place (item (list at inner) items)) h = tt
