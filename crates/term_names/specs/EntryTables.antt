-- Private. What a table of names holds of functions, macros and named terms.
use Rattle.std.specs.Prelude.{◌≡◌, ℕ, ◌<◌, List, length, nat_eq, Option, Some, IfSome}
use Rattle.std.specs.Map as map
use Rattle.term_names.specs.NameTable.{NameTableView, entries_of}
use Rattle.term_names.specs.declared.entries.Macro as macro
use Rattle.term_names.specs.declared.entries.Named as named
use Rattle.term_names.specs.Entries.{EntriesView, lookup, IsThere}

-- what contracts see of the names in a table, of macros and of named terms
abbrev pub entries_view : NameTableView → List macro.Macro → List named.Named → EntriesView
entries_view table macros named = record { names = entries_of table; macros = macros; named = named }

-- what the entry of each name is that of, is there
abbrev pub AreThere : EntriesView → Type 0
AreThere v = (name : List ℕ) → IfSome (lookup v.names name) (IsThere v)

-- the number that is kept for a reference
abbrev pub number_given : List (ℕ × ℕ) → ℕ → Option ℕ
number_given given r = map.lookup (nat_eq r) given

-- each number that is kept for a reference is that of one of so many names
abbrev pub AreTableNumbers : List (ℕ × ℕ) → ℕ → Type 0
AreTableNumbers given count = (r n : ℕ) → number_given given r ≡ Some n → n < count

-- what each entry is that of is there, and what was given to terms are numbers of names
pub record IsInStep (table : NameTableView) (macros : List macro.Macro) (named : List named.Named) (given : List (ℕ × ℕ)) : Type 0 where
  pub there : AreThere (entries_view table macros named)
  pub numbers : AreTableNumbers given (length table.names)
