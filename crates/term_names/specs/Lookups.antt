-- Private. What entries and symbols say of a name.
use Rattle.std.specs.Prelude.{ℕ, List, Option, option_map, option_and_then}
use Rattle.std.specs.Option.{option_or}
use Rattle.problem_text.specs.Names.{Place, Meaning, macro, function, operator, meaning_of_named}
use Rattle.problem_text.specs.Scripts.{Script}
use Rattle.problem_text.specs.Words.{operator_named}
use Rattle.term_names.specs.Standing.{named_in_script, macro_in, function_in}

-- the named term or the macro of a name, and the function or the operator
abbrev pub meaning_of_entry : Place → Script → List ℕ → Option Meaning
meaning_of_entry p sc name =
    option_or (option_and_then (λ n. meaning_of_named p n.meant) (named_in_script sc name)) (option_map macro (macro_in sc name))

abbrev pub meaning_of_symbol : Script → List ℕ → Option Meaning
meaning_of_symbol sc name = option_or (option_map function (function_in sc name)) (option_map operator (operator_named name))

-- what a name means that no variable in scope has
abbrev pub meaning_outside : Place → Script → List ℕ → Option Meaning
meaning_outside p sc name = option_or (meaning_of_entry p sc name) (meaning_of_symbol sc name)
