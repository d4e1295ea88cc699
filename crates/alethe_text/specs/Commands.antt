-- Public. The commands of a proof (Alethe, "The Proof Format") and their shapes, which reach down to the terms and sorts of
-- a command, but not into them.
use Rattle.std.specs.Prelude.{ℕ, Bool, true, false, if◌then◌else◌, List, [], ◌∷◌, ◌++◌, codes, bytes_eq, Option, Some, None, is_some, Result}
use Rattle.std.specs.Option.{option_or}
use Rattle.sexpr.specs.declared.causes.Cause.TheVariants.{UnknownCommand, BadCommand, LeftOut}
use Rattle.sexpr.specs.declared.causes.Refusal.{Refusal}
use Rattle.sexpr.specs.Words.{is_symbol}
use Rattle.sexpr.specs.Items.{Item, word, list, Items, no_items, item, place_of, symbol_name}
use Rattle.text_items.specs.declared.keywords.Wanted.TheVariants as wanted
use Rattle.text_items.specs.ItemShapes.{Name, name_at, excess, symbol_fault, pair_fault, items_of}
use Rattle.text_items.specs.Keywords.{Known, is_spelled, list_fault, behind_first, earlier, attributes_fault}
use Rattle.problem_text.specs.Commands.{refused, shaped}

-- An attribute of a step that has an effect: its rule, its premises, its arguments, the assumes that it discharges.
pub data Attribute : Type 0 where
  rule : Name → Attribute
  premises : List Name → Attribute
  arguments : Items → Attribute
  discharge : List Name → Attribute

-- An item of an anchor's arguments, with the place of its bracket: a variable alone; or a variable and the term that it
-- stands for, with the variable's sort where the text has it.
pub data Argument : Type 0 where
  variable_alone : ℕ → Argument
  assigned : ℕ → Name → Option Item → Item → Argument

-- A command by its items: sorts and terms are still to be read. An assume has its id and its term; a step its id, its
-- literals and its attributes; an anchor the place of its bracket, the id of the step that is to close it, and its arguments.
pub data Command : Type 0 where
  assume : Name → Item → Command
  step : Name → Items → List Attribute → Command
  anchor : ℕ → Name → List Argument → Command

-- the item is the symbol of this name
abbrev pub is_symbol_of : List ℕ → Item → Bool
is_symbol_of name i = bytes_eq (name_at i).name name

abbrev pub names_in : Items → List Name
names_in no_items = []
names_in (item i rest) = name_at i ∷ names_in rest

-- The attributes of a step that have an effect: its rule, which it needs, its premises, its arguments, and the assumes that it
-- discharges.
abbrev pub step_keywords : List Known
step_keywords =
    record { spelling = codes ":rule"; wants = wanted.Name; once = true; needed = true }
    ∷ record { spelling = codes ":premises"; wants = wanted.Names; once = true; needed = false }
    ∷ record { spelling = codes ":args"; wants = wanted.AnyList; once = true; needed = false }
    ∷ record { spelling = codes ":discharge"; wants = wanted.Names; once = true; needed = false } ∷ []

-- the attribute that a keyword and its value are, where it has an effect
abbrev pub attribute_of : Item → Item → List Attribute
attribute_of keyword value =
    if is_spelled (codes ":rule") keyword then rule (name_at value) ∷ []
    else if is_spelled (codes ":premises") keyword then premises (names_in (items_of value)) ∷ []
    else if is_spelled (codes ":args") keyword then arguments (items_of value) ∷ []
    else if is_spelled (codes ":discharge") keyword then discharge (names_in (items_of value)) ∷ []
    else []

abbrev pub attribute_with : Item → Items → List Attribute
attribute_with keyword no_items = []
attribute_with keyword (item value rest) = attribute_of keyword value

abbrev pub attributes_of : Items → List Attribute
attributes_of no_items = []
attributes_of (item i rest) = attribute_with i rest ++ attributes_of rest

-- a clause is a list that begins with the symbol `cl`
abbrev pub clause_fault : Item → Option ℕ
clause_fault (list place (item head literals)) = if is_symbol_of (codes "cl") head then None else Some (place_of head)
clause_fault other = Some (place_of other)

-- The commands by what stands after their words. Each begins at this place, and one that lacks an item is faulty there.
abbrev pub assume_shape : ℕ → Items → Result Command Refusal
assume_shape place (item id (item t rest)) = shaped (option_or (symbol_fault id) (excess rest)) (assume (name_at id) t)
assume_shape place _ = refused BadCommand place

abbrev pub step_shape : ℕ → Items → Result Command Refusal
step_shape place (item id (item clause rest)) =
    shaped (earlier (attributes_fault step_keywords place rest) (option_or (symbol_fault id) (clause_fault clause)))
    (step (name_at id) (behind_first (items_of clause)) (attributes_of rest))
step_shape place _ = refused BadCommand place

-- a variable, alone or with its sort
abbrev pub variable_fault : Item → Option ℕ
variable_fault (list place items) = pair_fault (list place items)
variable_fault other = symbol_fault other

-- A variable and its term, behind the `:=` of an argument that begins at this place.
abbrev pub assigned_fault : ℕ → Items → Option ℕ
assigned_fault place (item x (item t rest)) = option_or (variable_fault x) (excess rest)
assigned_fault place _ = Some place

-- An argument is a list of two items or more: a variable and its term behind `:=`, or a variable alone and its sort.
abbrev pub argument_fault : Item → Option ℕ
argument_fault (list place (item head (item i rest))) =
    if is_spelled (codes ":=") head then assigned_fault place (item i rest)
    else if is_some (symbol_name head) then excess rest
    else Some (place_of head)
argument_fault other = Some (place_of other)

abbrev pub each_argument_fault : Items → Option ℕ
each_argument_fault no_items = None
each_argument_fault (item i rest) = option_or (argument_fault i) (each_argument_fault rest)

-- where a keyword has to stand
abbrev pub word_fault : List ℕ → Item → Option ℕ
word_fault spelling i = if is_spelled spelling i then None else Some (place_of i)

-- what may stand behind the id of an anchor
abbrev pub arguments_fault : Items → Option ℕ
arguments_fault no_items = None
arguments_fault (item keyword no_items) = Some (place_of keyword)
arguments_fault (item keyword (item items rest)) =
    option_or (word_fault (codes ":args") keyword)
    (option_or (list_fault items) (option_or (each_argument_fault (items_of items)) (excess rest)))

-- a variable with the sort that the text gives it
abbrev pub assigned_to : ℕ → Item → Item → Argument
assigned_to place (list pair (item x (item sort rest))) t = assigned place (name_at x) (Some sort) t
assigned_to place x t = assigned place (name_at x) None t

abbrev pub argument_of : Item → Argument
argument_of (list place (item assigns (item x (item t rest)))) = assigned_to place x t
argument_of other = variable_alone (place_of other)

abbrev pub arguments_in : Items → List Argument
arguments_in no_items = []
arguments_in (item i rest) = argument_of i ∷ arguments_in rest

abbrev pub argument_items : Items → Items
argument_items (item keyword (item items rest)) = items_of items
argument_items _ = no_items

-- the word `:args` at the end lacks its list
abbrev pub list_lacking : ℕ → Items → Option ℕ
list_lacking place (item keyword no_items) = if is_spelled (codes ":args") keyword then Some place else None
list_lacking place _ = None

-- The form of an anchor goes by places: `:step` and the id of the step that is to close it, and behind them perhaps `:args` and
-- the list of the arguments.
abbrev pub anchor_shape : ℕ → Items → Result Command Refusal
anchor_shape place (item keyword (item id rest)) =
    shaped (option_or (list_lacking place rest)
    (option_or (word_fault (codes ":step") keyword) (option_or (symbol_fault id) (arguments_fault rest))))
    (anchor place (name_at id) (arguments_in (argument_items rest)))
anchor_shape place _ = refused BadCommand place

-- The command of this word, whose place is the second. Functions are defined in proofs together with quantifiers, which are
-- left out.
abbrev pub command_named : ℕ → ℕ → List ℕ → Items → Result Command Refusal
command_named place word_place name items =
    if bytes_eq name (codes "assume") then assume_shape place items
    else if bytes_eq name (codes "step") then step_shape place items
    else if bytes_eq name (codes "anchor") then anchor_shape place items
    else if bytes_eq name (codes "define-fun") then refused LeftOut word_place
    else refused UnknownCommand word_place

-- The word of a command stands without bars.
abbrev pub headed_command : ℕ → Item → Items → Result Command Refusal
headed_command place (word word_place spelling) items =
    if is_symbol spelling then command_named place word_place spelling items else refused BadCommand word_place
headed_command place head items = refused BadCommand (place_of head)

-- the command that an item of a proof is
unfoldable pub command_of : Item → Result Command Refusal
command_of (list place (item head items)) = headed_command place head items
command_of other = refused BadCommand (place_of other)
