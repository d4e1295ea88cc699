-- Private. Whether a reader was told a name.
use Rattle.std.specs.Prelude.{◌≡◌, ◌≤◌, length}
use Rattle.term_names.specs.Scope.{OwnNames}

-- The entries are what they were, or more terms are named.
pub record KeepsEntries (old new : OwnNames) : Type 0 where
  pub more : length old.own.named ≤ length new.own.named
  pub same : length new.own.named ≡ length old.own.named → new.own ≡ old.own
