-- Public. The variables in scope, and what a name means where they are, as contracts see it.
use Rattle.std.specs.Prelude.{ℕ, List, find, bytes_eq, Option, option_map}
use Rattle.std.specs.Option.{option_or}
use Rattle.term_expansion.specs.declared.values.Bound.{Bound}
use Rattle.term_names.specs.Known.{KnownView, base_of, known_entry, own_entry, IsKnownThere}
use Rattle.term_names.specs.Entries.{EntriesView, lookup}
use Rattle.term_names.specs.declared.settings.ReadSettings.{ReadSettings}
use Rattle.term_names.specs.declared.names.Meant.{Meant}

pub record Scoped : Type 0 where
  pub name : List ℕ
  pub bound : Bound

-- the innermost variable of a name
abbrev pub bound_of : List Scoped → List ℕ → Option Bound
bound_of scope name = option_map (λ e. e.bound) (find (λ e. bytes_eq e.name name) scope)

-- the entries, and the variables in scope
pub record NamesView : Type 0 where
  pub known : KnownView
  pub scope : List Scoped

-- what a name means: the innermost variable of that name, or else what it is that of
abbrev pub meant_of : NamesView → List ℕ → Option Meant
meant_of n name = option_or (option_map Meant.Variable (bound_of n.scope name)) (option_map Meant.Entry (known_entry n.known name))

-- what a reader has itself: its own entries, and the variables in scope
pub record OwnNames : Type 0 where
  pub own : EntriesView
  pub scope : List Scoped

-- with the entries that it starts from
abbrev pub all_names : ReadSettings → OwnNames → NamesView
all_names e n = record { known = record { base = base_of e.base; own = n.own }; scope = n.scope }

abbrev pub known_in : ReadSettings → OwnNames → KnownView
known_in e n = (all_names e n).known

-- what a name means by what a reader has itself
abbrev pub own_meant_of : OwnNames → List ℕ → Option Meant
own_meant_of n name = option_or (option_map Meant.Variable (bound_of n.scope name)) (option_map (λ e. Meant.Entry (own_entry e)) (lookup n.own.names name))

-- what is meant is there
abbrev pub IsMeantThere : NamesView → Meant → Type 0
IsMeantThere n (Meant.Variable bound) = Unit {0}
IsMeantThere n (Meant.Entry entry) = IsKnownThere n.known entry
