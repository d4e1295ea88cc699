-- The ids and rules of commands are names of symbols.
use Rattle.std.proofs.Common.{◌≡◌, ℕ, List, [], ◌∷◌, Bool, true, false, Option, Some, None, Result, Ok, IfOk, subst, if◌then◌else◌}
use Rattle.std.specs.Prelude.{codes}
use Rattle.std.specs.List.{AllByRecursion}
use Rattle.std.specs.Str.{bytes_eq}
use Rattle.std.proofs.lemmas.List.Elements.{All-nil}
use Rattle.sexpr.specs.declared.causes.Refusal.{Refusal}
use Rattle.sexpr.specs.Words.{is_symbol}
use Rattle.sexpr.specs.Items.{Item, word, quoted, string, list, Items, no_items, item, StandsForItems}
use Rattle.rule_model.specs.RuleNames.{IsSymbolName}
use Rattle.text_items.specs.ItemShapes.{name_at, items_of}
use Rattle.text_items.specs.Keywords.{is_spelled}
use Rattle.term_model.proofs.Lists.{all_joined}
use Rattle.alethe_text.specs.CommandNames.{HasNames, HaveNames, IsRuleNamed, IsNamed}
use Rattle.alethe_text.specs.Commands.{Attribute, rule, premises, arguments, discharge, Command, is_symbol_of, names_in, attribute_of, attribute_with, attributes_of, assume_shape, step_shape, anchor_shape, command_named, command_of}
use Rattle.problem_text.specs.Commands.{shaped}
use Rattle.alethe_text.specs.Steps.{rule_word}
use Rattle.alethe_text.specs.ProofTexts.{behind_answer, unwrapped_commands, is_list_of_commands}
use Rattle.alethe_text.proofs.SymbolNames.{AreSpelled, name_is, text_named}

shape_named : (o : Option ℕ) (c : Command) → IsNamed c → IfOk (shaped o c) IsNamed
shape_named (Some place) c h = tt
shape_named None c h = h

either : (b : Bool) (x y : Result Command Refusal) → IfOk x IsNamed → IfOk y IsNamed → IfOk (if b then x else y) IsNamed
either true x y h k = h
either false x y h k = k

attribute_named : (keyword value : Item) → HasNames value → AllByRecursion IsRuleNamed (attribute_of keyword value)
attribute_named keyword value h =
    go (is_spelled (codes ":rule") keyword) (is_spelled (codes ":premises") keyword) (is_spelled (codes ":args") keyword) (is_spelled (codes ":discharge") keyword)
  where
    go : (a b c d : Bool) → AllByRecursion IsRuleNamed (if a then rule (name_at value) ∷ [] else if b then premises (names_in (items_of value)) ∷ [] else if c then arguments (items_of value) ∷ [] else if d then discharge (names_in (items_of value)) ∷ [] else [])
    go true b c d = (name_is value h, tt)
    go false true c d = (tt, tt)
    go false false true d = (tt, tt)
    go false false false true = (tt, tt)
    go false false false false = tt

with_named : (keyword : Item) (rest : Items) → HaveNames rest → AllByRecursion IsRuleNamed (attribute_with keyword rest)
with_named keyword no_items h = tt
with_named keyword (item value rest) h = attribute_named keyword value h.0

attributes_named : (items : Items) → HaveNames items → AllByRecursion IsRuleNamed (attributes_of items)
attributes_named no_items h = tt
attributes_named (item i rest) h =
    all_joined IsRuleNamed (attribute_with i rest) (attributes_of rest) (with_named i rest h.1) (attributes_named rest h.1)

assume_named : (place : ℕ) (items : Items) → HaveNames items → IfOk (assume_shape place items) IsNamed
assume_named place no_items h = tt
assume_named place (item id no_items) h = tt
assume_named place (item id (item t rest)) h = shape_named _ _ (name_is id h.0)

step_named : (place : ℕ) (items : Items) → HaveNames items → IfOk (step_shape place items) IsNamed
step_named place no_items h = tt
step_named place (item id no_items) h = tt
step_named place (item id (item clause rest)) h = shape_named _ _ (name_is id h.0, attributes_named rest h.1.1)

anchor_named : (place : ℕ) (items : Items) → HaveNames items → IfOk (anchor_shape place items) IsNamed
anchor_named place no_items h = tt
anchor_named place (item keyword no_items) h = tt
anchor_named place (item keyword (item id rest)) h = shape_named _ _ (name_is id h.1.0)

word_named : (place at : ℕ) (name : List ℕ) (items : Items) → HaveNames items → IfOk (command_named place at name items) IsNamed
word_named place at name items h =
    either (bytes_eq name (codes "assume")) _ _ (assume_named place items h)
    (either (bytes_eq name (codes "step")) _ _ (step_named place items h)
    (either (bytes_eq name (codes "anchor")) _ _ (anchor_named place items h)
    (either (bytes_eq name (codes "define-fun")) _ _ tt tt)))

pub command_is_named : (i : Item) → HasNames i → IfOk (command_of i) IsNamed
unfolding command_of
command_is_named (word place spelling) h = tt
command_is_named (quoted place spelling) h = tt
command_is_named (string place spelling) h = tt
command_is_named (list place no_items) h = tt
command_is_named (list place (item (word at spelling) items)) h = either (is_symbol spelling) _ _ (word_named place at spelling items h.1) tt
command_is_named (list place (item (quoted at spelling) items)) h = tt
command_is_named (list place (item (string at spelling) items)) h = tt
command_is_named (list place (item (list at inner) items)) h = tt

pub is_named_so : (i : Item) (c : Command) → command_of i ≡ Ok c → HasNames i → IsNamed c
is_named_so i c is h = subst (λ (r : Result Command Refusal). IfOk r IsNamed) is (command_is_named i h)

pub behind_named : (items : Items) → HaveNames items → HaveNames (behind_answer items)
behind_named no_items h = tt
behind_named (item i rest) h = go (is_symbol_of (codes "unsat") i)
  where
    go : (b : Bool) → HaveNames (if b then rest else item i rest)
    go true = h.1
    go false = h

inside_named : (i : Item) → HasNames i → HaveNames (items_of i)
inside_named (word place spelling) h = tt
inside_named (quoted place spelling) h = tt
inside_named (string place spelling) h = tt
inside_named (list place items) h = h

pub inner_named : (items : Items) → HaveNames items → HaveNames (unwrapped_commands items)
inner_named no_items h = tt
inner_named (item i rest) h = go (is_list_of_commands i)
  where
    go : (b : Bool) → HaveNames (if b then items_of i else item i rest)
    go true = inside_named i h.0
    go false = h

-- the commands of a text have names
pub commands_named : AreSpelled → (source : List ℕ) (items : Items) → StandsForItems source items → HaveNames (unwrapped_commands (behind_answer items))
commands_named law source items h = inner_named (behind_answer items) (behind_named items (text_named law source items h))

-- a rule's word is empty where there is none
pub rule_is_named : (others : List Attribute) → AllByRecursion IsRuleNamed others → IsSymbolName (rule_word others)
rule_is_named [] h = All-nil _
rule_is_named (rule n ∷ others) h = h.0
rule_is_named (premises ns ∷ others) h = rule_is_named others h.1
rule_is_named (arguments items ∷ others) h = rule_is_named others h.1
rule_is_named (discharge ns ∷ others) h = rule_is_named others h.1
