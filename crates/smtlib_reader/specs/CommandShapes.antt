-- Private. Commands as nodes spell them.
use Rattle.std.specs.Prelude.{◌≡◌, ℕ, ◌<◌, ◌≤◌, ◌==◌, ⊤, Bool, List, [], ◌∷◌, length, Option, Some, None, if◌then◌else◌, codes, bytes_eq, Result, Ok, Err}
use Rattle.sexpr.specs.declared.causes.Cause.TheVariants.{BadCommand, LeftOut, UnknownCommand}
use Rattle.sexpr.specs.declared.causes.Refusal.{Refusal}
use Rattle.sexpr.specs.Items.{Items, place_of}
use Rattle.smtlib_reader.specs.declared.commands.Command.{Command}
use Rattle.smtlib_reader.specs.declared.commands.FunctionHead.{FunctionHead}
use Rattle.smtlib_reader.specs.declared.commands.SortHead.{SortHead}
use Rattle.smtlib_reader.specs.declared.command_words.CommandWord.{CommandWord}
use Rattle.problem_text.specs.Words.{is_among, left_out_commands}
use Rattle.text_items.specs.ItemShapes.{excess, pairs_fault}
use Rattle.problem_text.specs.Commands.{ScriptCommand as Shape, set_logic, without_effect, declare_sort, declare_fun, define_fun, assert_term, check_sat}
use Rattle.problem_text.specs.Commands.{exit, refused, shaped, assert_shape, declare_fun_shape, declare_const_shape, define_fun_shape}
use Rattle.problem_text.specs.Commands.{declare_sort_shape, set_logic_shape, attribute_shape, value_of_numeral}
use Rattle.text_items.specs.ItemsAt.{ItemsView, item_at, items_at}
use Rattle.text_items.specs.Stepping.{IsSymbolAt, name_in}

-- the command that nodes say
abbrev pub command_said : ItemsView → Command → Shape
command_said items (Command.SetLogic name) = set_logic (name_in items name)
command_said items Command.WithoutEffect = without_effect
command_said items (Command.DeclareSort head) = declare_sort (name_in items head.name) (place_of (item_at items head.arity))
    (value_of_numeral (item_at items head.arity))
command_said items (Command.DeclareFun head) = declare_fun (name_in items head.name) (items_at items head.first head.end) (item_at items head.target)
command_said items (Command.DefineFun head body) = define_fun (name_in items head.name) (items_at items head.first head.end) (item_at items head.target)
    (item_at items body)
command_said items (Command.Assert term) = assert_term (item_at items term)
command_said items Command.CheckSat = check_sat
command_said items Command.Exit = exit

-- the parts of a declaration of a sort are there, and it says whether the numeral is 0
pub record IsSortThere (items : ItemsView) (head : SortHead) : Type 0 where
  pub name_there : IsSymbolAt items head.name
  pub arity_there : head.arity < length items.nodes
  pub zero : head.is_zero ≡ (value_of_numeral (item_at items head.arity) == 0)

-- the parts of a function are there, but for its body
pub record IsFunctionThere (items : ItemsView) (head : FunctionHead) : Type 0 where
  pub name_there : IsSymbolAt items head.name
  pub inside : head.end ≤ length items.nodes
  pub target_there : head.target < length items.nodes

-- the parts of a defined function are there, and its parameters are pairs
pub record IsDefinitionThere (items : ItemsView) (head : FunctionHead) (body : ℕ) : Type 0 where
  pub head_there : IsFunctionThere items head
  pub pairs : pairs_fault (items_at items head.first head.end) ≡ None
  pub body_there : body < length items.nodes
  pub in_order : head.end ≤ body

-- the nodes of a command are there
abbrev pub IsCommandThere : ItemsView → Command → Type 0
IsCommandThere items (Command.SetLogic name) = IsSymbolAt items name
IsCommandThere items Command.WithoutEffect = ⊤
IsCommandThere items (Command.DeclareSort head) = IsSortThere items head
IsCommandThere items (Command.DeclareFun head) = IsFunctionThere items head
IsCommandThere items (Command.DefineFun head body) = IsDefinitionThere items head body
IsCommandThere items (Command.Assert term) = term < length items.nodes
IsCommandThere items Command.CheckSat = ⊤
IsCommandThere items Command.Exit = ⊤

-- the result is the command or the refusal that is expected
abbrev pub IsScriptCommand : ItemsView → Result Command Refusal → Result Shape Refusal → Type 0
IsScriptCommand items (Err r) expected = expected ≡ Err r
IsScriptCommand items (Ok c) expected = (expected ≡ Ok (command_said items c)) × IsCommandThere items c

-- what a command's word asks for
abbrev pub script_word_named : List ℕ → CommandWord
script_word_named name =
    if bytes_eq name (codes "assert") then CommandWord.Assert
    else if bytes_eq name (codes "declare-fun") then CommandWord.DeclareFun
    else if bytes_eq name (codes "declare-const") then CommandWord.DeclareConst
    else if bytes_eq name (codes "define-fun") then CommandWord.DefineFun
    else if bytes_eq name (codes "declare-sort") then CommandWord.DeclareSort
    else if bytes_eq name (codes "set-logic") then CommandWord.SetLogic
    else if is_among (codes "set-info" ∷ codes "set-option" ∷ []) name then CommandWord.Attribute
    else if bytes_eq name (codes "check-sat") then CommandWord.CheckSat
    else if is_among (codes "get-proof" ∷ codes "get-unsat-core" ∷ []) name then CommandWord.Question
    else if bytes_eq name (codes "exit") then CommandWord.Exit
    else if is_among left_out_commands name then CommandWord.LeftOut
    else CommandWord.Unknown

-- the command of a word of this kind
abbrev pub script_command_so : CommandWord → Bool → ℕ → ℕ → Items → Result Shape Refusal
script_command_so CommandWord.Assert checked place word_place items = if checked then refused LeftOut word_place else assert_shape place items
script_command_so CommandWord.DeclareFun checked place word_place items = declare_fun_shape place items
script_command_so CommandWord.DeclareConst checked place word_place items = declare_const_shape place items
script_command_so CommandWord.DefineFun checked place word_place items = define_fun_shape place items
script_command_so CommandWord.DeclareSort checked place word_place items = declare_sort_shape place items
script_command_so CommandWord.SetLogic checked place word_place items = set_logic_shape place items
script_command_so CommandWord.Attribute checked place word_place items = attribute_shape place items
script_command_so CommandWord.CheckSat checked place word_place items = shaped (excess items) check_sat
script_command_so CommandWord.Question checked place word_place items = shaped (excess items) without_effect
script_command_so CommandWord.Exit checked place word_place items = shaped (excess items) exit
script_command_so CommandWord.LeftOut checked place word_place items = refused LeftOut word_place
script_command_so CommandWord.Unknown checked place word_place items = refused UnknownCommand word_place

-- the command, unless a fault stands at a place
abbrev pub script_unless : Option ℕ → Command → Result Command Refusal
script_unless (Some place) c = Err (record { cause = BadCommand; at = place })
script_unless None c = Ok c
