-- Public. Commands of a proof as nodes say them: each by the places of its nodes.
use Rattle.std.specs.Prelude.{◌≡◌, ◌<◌, ◌≤◌, ℕ, ⊤, false, Option, Some, None, [], ◌∷◌, length, Result, Ok, Err}
use Rattle.sexpr.specs.declared.causes.Refusal.{Refusal}
use Rattle.text_items.specs.declared.keywords.Next.{Next}
use Rattle.text_items.specs.ItemsAt.{ItemsView, item_at, items_at}
use Rattle.text_items.specs.Stepping.{EndBy, IsSymbolAt, name_in}
use Rattle.text_items.specs.Keywords.{misplaced, at_end, is_value, symbols_fault}
use Rattle.sexpr.specs.Items.{Item}
use Rattle.alethe_text.specs.Commands.{Attribute, rule, premises, arguments, discharge, Argument, variable_alone, assigned, Command as Shape, assume, step}
use Rattle.alethe_text.specs.Commands.{anchor, step_keywords, names_in, attributes_of, each_argument_fault, argument_of, arguments_in}
use Rattle.alethe_commands.specs.declared.commands.Command.{Command}
use Rattle.alethe_commands.specs.declared.attributes.StepAttribute.{StepAttribute}
use Rattle.alethe_commands.specs.declared.arguments.AnchorArgument.{AnchorArgument}

-- the items from node k on, to before node m, end there
pub record AreItemsAt (items : ItemsView) (k m : ℕ) : Type 0 where
  pub inside : m ≤ length items.nodes
  pub nested : EndBy items k m

-- the items from node k on, to before node m, are symbols
pub record AreSymbolsAt (items : ItemsView) (k m : ℕ) : Type 0 where
  pub inside : m ≤ length items.nodes
  pub symbols : symbols_fault (items_at items k m) ≡ None

-- The items from node k on, to before node m, end there, and are attributes of a step without a fault of shape, or those behind
-- the first of them.
pub record AreAttributesAt (items : ItemsView) (k m : ℕ) : Type 0 where
  pub inside : m ≤ length items.nodes
  pub nested : EndBy items k m
  pub next : Next
  pub fit : misplaced step_keywords next (items_at items k m) ≡ None
  pub ended : is_value (at_end step_keywords next (items_at items k m)) ≡ false

-- the attribute that nodes say
abbrev pub attribute_said : ItemsView → StepAttribute → Attribute
attribute_said items (StepAttribute.Rule k) = rule (name_in items k)
attribute_said items (StepAttribute.Premises first last) = premises (names_in (items_at items first last))
attribute_said items (StepAttribute.Arguments first last) = arguments (items_at items first last)
attribute_said items (StepAttribute.Discharge first last) = discharge (names_in (items_at items first last))

-- the nodes of an attribute are there
abbrev pub IsAttributeThere : ItemsView → StepAttribute → Type 0
IsAttributeThere items (StepAttribute.Rule k) = IsSymbolAt items k
IsAttributeThere items (StepAttribute.Premises first last) = AreSymbolsAt items first last
IsAttributeThere items (StepAttribute.Arguments first last) = AreItemsAt items first last
IsAttributeThere items (StepAttribute.Discharge first last) = AreSymbolsAt items first last

-- What stands in the attribute's list lies between these nodes.
abbrev pub LiesWithin : ℕ → StepAttribute → ℕ → Type 0
LiesWithin low (StepAttribute.Rule k) high = ⊤
LiesWithin low (StepAttribute.Premises first last) high = (low ≤ first) × (last ≤ high)
LiesWithin low (StepAttribute.Arguments first last) high = (low ≤ first) × (last ≤ high)
LiesWithin low (StepAttribute.Discharge first last) high = (low ≤ first) × (last ≤ high)

-- The first of the attributes from node k on, to before node m, is said by these nodes, and the others stand from `next` on.
pub record HasFirstAttribute (items : ItemsView) (k : ℕ) (said : StepAttribute) (next m : ℕ) : Type 0 where
  pub split : attributes_of (items_at items k m) ≡ attribute_said items said ∷ attributes_of (items_at items next m)
  pub there : IsAttributeThere items said
  pub within : LiesWithin k said next
  pub later : k < next
  pub inside : next ≤ m
  pub others : AreAttributesAt items next m

-- the next of the attributes, or none
abbrev pub IsNextAttribute : ItemsView → ℕ → ℕ → ℕ → Option StepAttribute → Type 0
IsNextAttribute items k next m (Some said) = HasFirstAttribute items k said next m
IsNextAttribute items k next m None = attributes_of (items_at items k m) ≡ []

-- the items from node k on, to before node m, are arguments of an anchor without a fault of shape
pub record AreArgumentsAt (items : ItemsView) (k m : ℕ) : Type 0 where
  pub inside : m ≤ length items.nodes
  pub fit : each_argument_fault (items_at items k m) ≡ None

abbrev pub sort_said : ItemsView → Option ℕ → Option Item
sort_said items None = None
sort_said items (Some k) = Some (item_at items k)

-- the argument that nodes say
abbrev pub argument_said : ItemsView → AnchorArgument → Argument
argument_said items (AnchorArgument.Alone place) = variable_alone place
argument_said items (AnchorArgument.Assigned place variable sort term) = assigned place (name_in items variable) (sort_said items sort) (item_at items term)

abbrev pub IsSortThere : ItemsView → Option ℕ → Type 0
IsSortThere items None = ⊤
IsSortThere items (Some k) = k < length items.nodes

pub record IsAssignedThere (items : ItemsView) (variable : ℕ) (sort : Option ℕ) (term : ℕ) : Type 0 where
  pub name_there : IsSymbolAt items variable
  pub sort_there : IsSortThere items sort
  pub term_there : term < length items.nodes

-- the nodes of an argument are there
abbrev pub IsArgumentThere : ItemsView → AnchorArgument → Type 0
IsArgumentThere items (AnchorArgument.Alone place) = ⊤
IsArgumentThere items (AnchorArgument.Assigned place variable sort term) = IsAssignedThere items variable sort term

-- the nodes say the argument at node k
pub record IsArgumentAt (items : ItemsView) (k : ℕ) (said : AnchorArgument) : Type 0 where
  pub same : argument_of (item_at items k) ≡ argument_said items said
  pub there : IsArgumentThere items said

-- The first of the arguments from node k on, to before node m, is said by these nodes, and the others stand from `next` on.
pub record HasFirstArgument (items : ItemsView) (k : ℕ) (said : AnchorArgument) (next m : ℕ) : Type 0 where
  pub split : arguments_in (items_at items k m) ≡ argument_said items said ∷ arguments_in (items_at items next m)
  pub there : IsArgumentThere items said
  pub later : k < next
  pub inside : next ≤ length items.nodes
  pub others : AreArgumentsAt items next m

-- the next of the arguments, or none
abbrev pub IsNextArgument : ItemsView → ℕ → ℕ → ℕ → Option AnchorArgument → Type 0
IsNextArgument items k next m (Some said) = HasFirstArgument items k said next m
IsNextArgument items k next m None = arguments_in (items_at items k m) ≡ []

-- the command that nodes say
abbrev pub command_said : ItemsView → Command → Shape
command_said items (Command.Assume id term) = assume (name_in items id) (item_at items term)
command_said items (Command.Step id first others) =
    step (name_in items id) (items_at items first others) (attributes_of (items_at items others (length items.nodes)))
command_said items (Command.Anchor place id first) = anchor place (name_in items id) (arguments_in (items_at items first (length items.nodes)))

pub record IsAssumeThere (items : ItemsView) (id term : ℕ) : Type 0 where
  pub name_there : IsSymbolAt items id
  pub term_there : term < length items.nodes

pub record IsStepThere (items : ItemsView) (id first others : ℕ) : Type 0 where
  pub name_there : IsSymbolAt items id
  pub ordered : first ≤ others
  pub literals_there : AreItemsAt items first others
  pub attributes_there : AreAttributesAt items others (length items.nodes)

pub record IsAnchorThere (items : ItemsView) (id first : ℕ) : Type 0 where
  pub name_there : IsSymbolAt items id
  pub arguments_there : AreArgumentsAt items first (length items.nodes)
  pub inside : first ≤ length items.nodes

-- the nodes of a command are there
abbrev pub IsCommandThere : ItemsView → Command → Type 0
IsCommandThere items (Command.Assume id term) = IsAssumeThere items id term
IsCommandThere items (Command.Step id first others) = IsStepThere items id first others
IsCommandThere items (Command.Anchor place id first) = IsAnchorThere items id first

-- the result is the command or the refusal that is expected
abbrev pub IsCommand : ItemsView → Result Command Refusal → Result Shape Refusal → Type 0
IsCommand items (Err r) expected = expected ≡ Err r
IsCommand items (Ok c) expected = (expected ≡ Ok (command_said items c)) × IsCommandThere items c
