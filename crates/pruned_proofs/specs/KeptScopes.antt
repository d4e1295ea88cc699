-- Public. Where a command that is kept stands in what is left of the proof.
use Rattle.std.specs.Prelude.{List, Bool}
use Rattle.rule_model.specs.Commands.{IndexedCommand, assume, step, closing, Line}
use Rattle.rule_model.specs.Scopes.{Nesting, outermost, inside, Scope, at, first_index}
use Rattle.pruned_proofs.specs.Pruned.{renumbered, kept_items}

-- where a scope stands whose commands are kept, and the scope as far as it is written
abbrev pub kept_nesting : {V T : Type 0} → List Bool → Nesting V T → Nesting V T
kept_nesting marks outermost = outermost
kept_nesting marks (inside around before anchor) =
    inside (kept_nesting marks around) (kept_items marks (first_index around) before) anchor

abbrev pub kept_scope : {V T : Type 0} → List Bool → Scope V T → Scope V T
kept_scope marks scope =
    at (kept_nesting marks scope.nesting) (kept_items marks (first_index scope.nesting) scope.items)

-- the command with the new indices, and its line
abbrev pub kept_command : {T : Type 0} → List Bool → IndexedCommand T → IndexedCommand T
kept_command marks (assume id t) = assume id t
kept_command marks (step s) = step (renumbered marks s)
kept_command marks (closing s) = closing (renumbered marks s)

abbrev pub kept_line : {V T : Type 0} → List Bool → Line V T → Line V T
kept_line marks line = record { scope = kept_scope marks line.scope; command = kept_command marks line.command }
