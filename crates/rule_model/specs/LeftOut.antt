-- Public. Proofs that are the same but for the ids of their commands, or for the pivots of their steps. Premises and discharged
-- assumes are indices, so that no id plays a part in what a proof shows; and conditions look at pivots in strict mode alone.
use Rattle.std.specs.Prelude.{◌≡◌, ℕ, Bool, List, []}
use Rattle.rule_model.specs.Proofs.{Step, ProofItems, no_items, with_assume, with_step, with_subproof}

-- the step with this made of its id, and of its pivots
abbrev pub changed_step : {T : Type 0} → (List ℕ → List ℕ) → (List (T × Bool) → List (T × Bool)) → Step T → Step T
changed_step f g s = record s { id = f s.id; pivots = g s.pivots }

-- the proof with this made of each id, and of the pivots of each step
abbrev pub changed : {V T : Type 0} → (List ℕ → List ℕ) → (List (T × Bool) → List (T × Bool)) → ProofItems V T → ProofItems V T
changed f g no_items = no_items
changed f g (with_assume items id t) = with_assume (changed f g items) (f id) t
changed f g (with_step items s) = with_step (changed f g items) (changed_step f g s)
changed f g (with_subproof items bindings proof s) =
    with_subproof (changed f g items) bindings (changed f g proof) (changed_step f g s)

-- with the empty id in the place of each; and with no pivots
abbrev pub without_ids : {V T : Type 0} → ProofItems V T → ProofItems V T
without_ids items = changed (λ id. []) (λ pivots. pivots) items

abbrev pub without_pivots : {V T : Type 0} → ProofItems V T → ProofItems V T
without_pivots items = changed (λ id. id) (λ pivots. []) items

abbrev pub IsSameUpToIds : {V T : Type 0} → ProofItems V T → ProofItems V T → Type 0
IsSameUpToIds p q = without_ids p ≡ without_ids q

abbrev pub IsSameUpToPivots : {V T : Type 0} → ProofItems V T → ProofItems V T → Type 0
IsSameUpToPivots p q = without_pivots p ≡ without_pivots q
