-- Public. The proof that is left when the commands are dropped that no mark keeps.
use Rattle.std.specs.Prelude.{◌+◌, ℕ, zero, suc, Bool, List, map, if◌then◌else◌}
use Rattle.rule_model.specs.Proofs.{Step, ProofItems, no_items, with_assume, with_step, with_subproof}
use Rattle.rule_model.specs.Scopes.{commands_in}
use Rattle.pruned_proofs.specs.Reached.{is_kept}

-- the new index of a command: how many commands before it are kept
abbrev pub new_index : List Bool → ℕ → ℕ
new_index marks zero = 0
new_index marks (suc n) = if is_kept marks n then suc (new_index marks n) else new_index marks n

-- the step with the new indices of its premises and of the assumes that it discharges
abbrev pub renumbered : {T : Type 0} → List Bool → Step T → Step T
renumbered marks s =
    record s { premises = map (new_index marks) s.premises; discharged = map (new_index marks) s.discharged }

-- Those items that are kept, where the first command among the items has this index. A subproof is kept where the step that
-- closes it is.
abbrev pub kept_items : {V T : Type 0} → List Bool → ℕ → ProofItems V T → ProofItems V T
kept_items marks first no_items = no_items
kept_items marks first (with_assume items id t) =
    if is_kept marks (first + commands_in items) then with_assume (kept_items marks first items) id t
    else kept_items marks first items
kept_items marks first (with_step items s) =
    if is_kept marks (first + commands_in items) then with_step (kept_items marks first items) (renumbered marks s)
    else kept_items marks first items
kept_items marks first (with_subproof items bindings proof s) =
    if is_kept marks (first + commands_in items + commands_in proof)
    then with_subproof (kept_items marks first items) bindings (kept_items marks (first + commands_in items) proof) (renumbered marks s)
    else kept_items marks first items

-- the whole proof
abbrev pub pruned : {V T : Type 0} → List Bool → ProofItems V T → ProofItems V T
pruned marks proof = kept_items marks 0 proof
