-- Public. What a name is found to be.
use Rattle.std.specs.Prelude.{◌≡◌, true, if◌then◌else◌, Option, Some, None}
use Rattle.std.specs.List.{list_all}
use Rattle.term_names.specs.Heads.{IsSymbolOf, IsMacroMeant}
use Rattle.term_names.specs.Known.{KnownView, macro_of, named_of}
use Rattle.problem_text.specs.Names.{Place, Meaning, value, is_bound, replacement}
use Rattle.rule_model.specs.Replacement.{replaced, free_variables}
use Rattle.problem_text.specs.TypedTerms.{Typed}
use Rattle.problem_text.specs.Scripts.{Named}
use Rattle.term_names.specs.Standing.{IsNamedOf}
use Rattle.term_expansion.specs.Values.{IsValue}
use Rattle.term_names.specs.declared.looking_up.Found.{Found}
use Rattle.term_names.specs.declared.entries.Named as held
use Rattle.term_expansion.specs.SymbolsAndTerms.{SymbolsAndTerms}

-- what a use of a named term stands for at a place
abbrev pub term_used : Place → Typed → Typed
term_used p t = if p.settings.replaces_lets then record { tree = replaced (replacement p.scope) t.tree; sort = t.sort } else t

-- every free variable of the term is bound here
abbrev pub IsBoundHere : Place → Typed → Type 0
IsBoundHere p t = list_all (is_bound p.scope) (free_variables t.tree) ≡ true

abbrev pub IsNamedMeant : SymbolsAndTerms → Place → Option held.Named → Meaning → Type 0
IsNamedMeant w p o m =
    (n : held.Named) × (d : Named) × (o ≡ Some n) × IsNamedOf w n d × (m ≡ value (term_used p d.meant)) × IsBoundHere p d.meant

-- what was found has this meaning at a place, or the name is unknown there
abbrev pub IsFoundMeaning : SymbolsAndTerms → KnownView → Place → Found → Option Meaning → Type 0
IsFoundMeaning w k p (Found.Term c) o = (t : Typed) × (o ≡ Some (value t)) × IsValue w c t
IsFoundMeaning w k p (Found.Named which) o = (m : Meaning) × (o ≡ Some m) × IsNamedMeant w p (named_of k which) m
IsFoundMeaning w k p (Found.Macro which) o = (m : Meaning) × (o ≡ Some m) × IsMacroMeant w (macro_of k which) m
IsFoundMeaning w k p (Found.Symbol n) o = (m : Meaning) × (o ≡ Some m) × IsSymbolOf w.symbols n m
IsFoundMeaning w k p Found.Unknown o = o ≡ None
