-- Private. What the parts of the reading of a command return.
use Rattle.std.specs.Prelude.{◌≡◌, ℕ, ◌+◌, ◌≤◌, ⊤, length, Option, Some, None, if◌then◌else◌, List, codes, bytes_eq, Result, Ok, Err}
use Rattle.sexpr.specs.declared.causes.Cause.TheVariants.{BadCommand, LeftOut, UnknownCommand}
use Rattle.sexpr.specs.declared.causes.Refusal.{Refusal}
use Rattle.sexpr.specs.Items.{Items}
use Rattle.text_items.specs.ItemShapes.{items_of}
use Rattle.text_items.specs.ItemsAt.{ItemsView, end_at, item_at, items_at}
use Rattle.text_items.specs.Keywords.{is_it}
use Rattle.text_items.specs.Stepping.{EndBy}
use Rattle.problem_text.specs.Commands.{refused}
use Rattle.alethe_text.specs.Commands.{Command as Shape, attributes_of, argument_items, assume_shape, step_shape, anchor_shape}
use Rattle.text_items.specs.Keywords.{behind_first}
use Rattle.alethe_commands.specs.declared.commands.CommandWord.{CommandWord}
use Rattle.alethe_commands.specs.declared.attributes.AttributeWord.{AttributeWord}
use Rattle.alethe_commands.specs.declared.attributes.StepAttribute.{StepAttribute}
use Rattle.alethe_commands.specs.CommandNodes.{AreAttributesAt, AreArgumentsAt, HasFirstAttribute}

-- a command with a fault at a place is a bad one
abbrev pub without_fault : Option ℕ → Result ⊤ Refusal
without_fault (Some place) = Err (record { cause = BadCommand; at = place })
without_fault None = Ok tt

-- what a command's word asks for
abbrev pub word_named : List ℕ → CommandWord
word_named name =
    if bytes_eq (codes "assume") name then CommandWord.Assume
    else if bytes_eq (codes "step") name then CommandWord.Step
    else if bytes_eq (codes "anchor") name then CommandWord.Anchor
    else if bytes_eq (codes "define-fun") name then CommandWord.LeftOut
    else CommandWord.Unknown

-- the command of a word of this kind
abbrev pub command_so : CommandWord → ℕ → ℕ → Items → Result Shape Refusal
command_so CommandWord.Assume place word_place items = assume_shape place items
command_so CommandWord.Step place word_place items = step_shape place items
command_so CommandWord.Anchor place word_place items = anchor_shape place items
command_so CommandWord.LeftOut place word_place items = refused LeftOut word_place
command_so CommandWord.Unknown place word_place items = refused UnknownCommand word_place

-- the attribute that a keyword asks for
abbrev pub attribute_word : Option (List ℕ) → Option AttributeWord
attribute_word keyword =
    if is_it (codes ":rule") keyword then Some AttributeWord.Rule
    else if is_it (codes ":premises") keyword then Some AttributeWord.Premises
    else if is_it (codes ":args") keyword then Some AttributeWord.Arguments
    else if is_it (codes ":discharge") keyword then Some AttributeWord.Discharge
    else None

-- the attribute of a word, whose value stands from node k to before node m
abbrev pub attribute_nodes : AttributeWord → ℕ → ℕ → StepAttribute
attribute_nodes AttributeWord.Rule k m = StepAttribute.Rule k
attribute_nodes AttributeWord.Premises k m = StepAttribute.Premises (k + 1) m
attribute_nodes AttributeWord.Arguments k m = StepAttribute.Arguments (k + 1) m
attribute_nodes AttributeWord.Discharge k m = StepAttribute.Discharge (k + 1) m

-- the node of a rule's name, where the attribute is a rule
abbrev pub rule_node : StepAttribute → Option ℕ
rule_node (StepAttribute.Rule k) = Some k
rule_node (StepAttribute.Premises first last) = None
rule_node (StepAttribute.Arguments first last) = None
rule_node (StepAttribute.Discharge first last) = None

-- The literals of the clause at node k stand behind its first two nodes, and end where it ends.
pub record HasLiterals (items : ItemsView) (k : ℕ) : Type 0 where
  pub inside : k + 2 ≤ end_at items k
  pub same : behind_first (items_of (item_at items k)) ≡ items_at items (k + 2) (end_at items k)
  pub nested : EndBy items (k + 2) (end_at items k)

-- Of the items from node k on, to the end, the arguments of an anchor stand from node `first` on, to the end.
pub record HasArguments (items : ItemsView) (k first : ℕ) : Type 0 where
  pub same : argument_items (items_at items k (length items.nodes)) ≡ items_at items first (length items.nodes)
  pub there : AreArgumentsAt items first (length items.nodes)
  pub inside : first ≤ length items.nodes

-- The attributes from node k on, to before node m, are those from node `next` on.
pub record IsPassed (items : ItemsView) (k next m : ℕ) : Type 0 where
  pub same : attributes_of (items_at items k m) ≡ attributes_of (items_at items next m)
  pub others : AreAttributesAt items next m

-- The items from node k on begin with an attribute and its value, or with an item that is none.
abbrev pub IsAttributeFrom : ItemsView → ℕ → ℕ → Option StepAttribute → Type 0
IsAttributeFrom items k m (Some said) = HasFirstAttribute items k said (end_at items (end_at items k)) m
IsAttributeFrom items k m None = IsPassed items k (end_at items k) m
