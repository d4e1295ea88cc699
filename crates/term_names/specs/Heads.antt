-- Public. What is applied to arguments.
use Rattle.std.specs.Prelude.{◌≡◌, ℕ, Some, Option, ◌⊎◌}
use Rattle.sym_table.specs.Table.{Table, IsLeaf}
use Rattle.sym_table.specs.Leaf as leaf
use Rattle.term_model.specs.Terms.{Fun}
use Rattle.term_model.specs.declared.symbols.Op.{Op}
use Rattle.term_pool.specs.StandsFor.{function_leaf}
use Rattle.term_names.specs.Known.{KnownView, macro_of}
use Rattle.problem_text.specs.Names.{Meaning, value, macro, function, operator}
use Rattle.problem_text.specs.TypedTerms.{Typed}
use Rattle.problem_text.specs.Scripts.{Macro}
use Rattle.term_names.specs.Standing.{IsMacroOf}
use Rattle.term_names.specs.declared.entries.Macro as held
use Rattle.term_names.specs.declared.heads.Head.{Head}
use Rattle.term_expansion.specs.SymbolsAndTerms.{SymbolsAndTerms}

-- the leaf is that of a declared function or of an operator, and the meaning is that
abbrev pub IsSymbolOf : Table → ℕ → Meaning → Type 0
IsSymbolOf s k m =
    ((f : Fun) × IsLeaf s k (function_leaf f) × (m ≡ function f)) ⊎ ((op : Op) × IsLeaf s k (leaf.operator op) × (m ≡ operator op))

-- the macro is this meaning
abbrev pub IsMacroMeant : SymbolsAndTerms → Option held.Macro → Meaning → Type 0
IsMacroMeant w o m = (h : held.Macro) × (d : Macro) × (o ≡ Some h) × IsMacroOf w h d × (m ≡ macro d)

-- what is applied has this meaning
abbrev pub HeadMeans : SymbolsAndTerms → KnownView → Head → Meaning → Type 0
HeadMeans w k (Head.Symbol n) m = IsSymbolOf w.symbols n m
HeadMeans w k (Head.Macro which) m = IsMacroMeant w (macro_of k which) m
HeadMeans w k Head.Fixed m = (t : Typed) × (m ≡ value t)
