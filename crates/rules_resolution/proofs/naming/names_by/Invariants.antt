use Rattle.std.proofs.Common.{◌≡◌, ℕ, ◌<◌, ◌≤◌, length, get_or}
use Rattle.rules_resolution.specs.declared.naming.Key.{Key}
use Rattle.rules_resolution.specs.Renaming.{atom_name_at}
use Rattle.rules_resolution.specs.Naming.{IsRun, key_number_in}
use Rattle.rules_resolution.proofs.naming.names_by.Given as goal

abbrev pub invariant-loop-at : goal.invariant-loop-at
invariant-loop-at l =
    (l.first ≤ l.at)
    × IsRun l.keys l.first l.at
    × (length l.names.items ≡ l.count)
    × ((q : ℕ) (d : Key) → q < l.at → atom_name_at l.names.items (get_or l.keys q d).number ≡ key_number_in l.keys (get_or l.keys q d).atom)
