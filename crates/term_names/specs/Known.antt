-- Public. Two lots of entries: those of a problem, and those of a reader of terms.
use Rattle.std.specs.Prelude.{◌≡◌, ℕ, List, if◌then◌else◌, bytes_eq, Option, Some, slice_get, option_map, IsSome}
use Rattle.std.specs.Borrow.{Bor}
use Rattle.std.specs.Option.{option_or, option_map_or}
use Rattle.term_names.specs.declared.entries.Entry.{Entry}
use Rattle.term_names.specs.declared.entries.Macro as macro
use Rattle.term_names.specs.declared.entries.Named as named
use Rattle.term_names.specs.declared.names.Which.{Which}
use Rattle.term_names.specs.declared.names.Which.TheVariants.{Base, Own}
use Rattle.term_names.specs.declared.names.KnownEntry.{KnownEntry}
use Rattle.term_names.specs.Entries.{EntriesView, no_entries, lookup}

pub record KnownView : Type 0 where
  pub base : EntriesView
  pub own : EntriesView

-- the entries that a reader starts from
abbrev pub base_of : Option (Bor EntriesView) → EntriesView
base_of base = option_map_or (λ b. b.now) base no_entries

abbrev pub own_entry : Entry → KnownEntry
own_entry (Entry.Function leaf) = KnownEntry.Function leaf
own_entry Entry.Reserved = KnownEntry.Reserved
own_entry (Entry.Macro n) = KnownEntry.Macro (Own n)
own_entry (Entry.Named n) = KnownEntry.Named (Own n)

abbrev pub base_entry : Entry → KnownEntry
base_entry (Entry.Function leaf) = KnownEntry.Function leaf
base_entry Entry.Reserved = KnownEntry.Reserved
base_entry (Entry.Macro n) = KnownEntry.Macro (Base n)
base_entry (Entry.Named n) = KnownEntry.Named (Base n)

-- what a name is that of
abbrev pub known_entry : KnownView → List ℕ → Option KnownEntry
known_entry k name = option_or (option_map own_entry (lookup k.own.names name)) (option_map base_entry (lookup k.base.names name))

-- the name has this entry now, and each other name the one that it had
abbrev pub PutsKnown : KnownView → List ℕ → KnownEntry → KnownView → Type 0
PutsKnown old name entry new =
    (other : List ℕ) → known_entry new other ≡ (if bytes_eq other name then Some entry else known_entry old other)

abbrev pub macro_of : KnownView → Which → Option macro.Macro
macro_of k (Base n) = slice_get k.base.macros n
macro_of k (Own n) = slice_get k.own.macros n

abbrev pub named_of : KnownView → Which → Option named.Named
named_of k (Base n) = slice_get k.base.named n
named_of k (Own n) = slice_get k.own.named n

-- the macro or the named term is there
abbrev pub IsKnownThere : KnownView → KnownEntry → Type 0
IsKnownThere k (KnownEntry.Function leaf) = Unit {0}
IsKnownThere k KnownEntry.Reserved = Unit {0}
IsKnownThere k (KnownEntry.Macro which) = IsSome (macro_of k which)
IsKnownThere k (KnownEntry.Named which) = IsSome (named_of k which)
