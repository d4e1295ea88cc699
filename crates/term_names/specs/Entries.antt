-- Public. What names are those of: functions, macros and named terms.
use Rattle.std.specs.Prelude.{◌≡◌, ℕ, ◌<◌, List, [], ◌∷◌, length, if◌then◌else◌, bytes_eq, Option, Some, None}
use Rattle.term_names.specs.declared.entries.Entry.{Entry}
use Rattle.term_names.specs.declared.entries.Entry.TheVariants.{Function, Reserved, Macro, Named}
use Rattle.term_names.specs.declared.entries.Macro as macro
use Rattle.term_names.specs.declared.entries.Named as named

-- each name that has an entry with that entry, and the macros and the named terms by their numbers
pub record EntriesView : Type 0 where
  pub names : List (List ℕ × Entry)
  pub macros : List macro.Macro
  pub named : List named.Named

abbrev pub no_entries : EntriesView
no_entries = record { names = []; macros = []; named = [] }

-- the entry of a name
abbrev pub lookup : List (List ℕ × Entry) → List ℕ → Option Entry
lookup [] name = None
lookup (e ∷ es) name = if bytes_eq name e.0 then Some e.1 else lookup es name

-- the name has this entry now, and each other name the one that it had
abbrev pub Puts : List (List ℕ × Entry) → List ℕ → Entry → List (List ℕ × Entry) → Type 0
Puts old name entry new = (other : List ℕ) → lookup new other ≡ (if bytes_eq other name then Some entry else lookup old other)

-- the number of the entry is that of a macro or of a named term
abbrev pub IsThere : EntriesView → Entry → Type 0
IsThere v (Function leaf) = Unit {0}
IsThere v Reserved = Unit {0}
IsThere v (Macro n) = n < length v.macros
IsThere v (Named n) = n < length v.named
