-- Public. The printed proof: the same commands, whose ids are c1, c2 and so on in file order.
use Rattle.std.specs.Prelude.{◌<◌, ◌^◌, ℕ, ◌+◌, List, [], ◌∷◌, ◌++◌, codes, decimal, ⊤}
use Rattle.std.specs.List.{AllByRecursion}
use Rattle.rule_model.specs.Proofs.{Step, ProofItems, no_items, with_assume, with_step, with_subproof}
use Rattle.rule_model.specs.Scopes.{Nesting, outermost, inside, inner, Scope, at, first_index, commands_in}

-- the id of the command of an index
abbrev pub printed_id : ℕ → List ℕ
printed_id index = codes "c" ++ decimal (index + 1)

abbrev pub numbered_step : {T : Type 0} → ℕ → Step T → Step T
numbered_step index s = record s { id = printed_id index }

-- the items of a scope that stands here
abbrev pub numbered : {V T : Type 0} → Nesting V T → ProofItems V T → ProofItems V T
numbered nesting no_items = no_items
numbered nesting (with_assume items id t) = with_assume (numbered nesting items) (printed_id (first_index nesting + commands_in items)) t
numbered nesting (with_step items s) = with_step (numbered nesting items) (numbered_step (first_index nesting + commands_in items) s)
numbered nesting (with_subproof items bindings proof s) =
    with_subproof (numbered nesting items) bindings (numbered (inner nesting items bindings s) proof)
    (numbered_step (first_index nesting + (commands_in items + commands_in proof)) s)

-- the whole proof
abbrev pub numbered_proof : {V T : Type 0} → ProofItems V T → ProofItems V T
numbered_proof proof = numbered outermost proof

-- A scope as far as it is written, where these are the indices of the steps that are to close the open scopes, that of the innermost
-- one first: an anchor has the id of its closing step.
abbrev pub numbered_nesting : {V T : Type 0} → List ℕ → Nesting V T → Nesting V T
numbered_nesting closings outermost = outermost
numbered_nesting [] (inside around before anchor) = inside (numbered_nesting [] around) (numbered around before) (record anchor { id = [] })
numbered_nesting (k ∷ closings) (inside around before anchor) =
    inside (numbered_nesting closings around) (numbered around before) (record anchor { id = printed_id k })

abbrev pub numbered_scope : {V T : Type 0} → List ℕ → Scope V T → Scope V T
numbered_scope closings scope = at (numbered_nesting closings scope.nesting) (numbered scope.nesting scope.items)

-- one closing step for each open scope
abbrev pub CloseEach : {V T : Type 0} → List ℕ → Nesting V T → Type 0
CloseEach [] outermost = ⊤
CloseEach (k ∷ closings) outermost = ⊥
CloseEach [] (inside around before anchor) = ⊥
CloseEach (k ∷ closings) (inside around before anchor) = CloseEach closings around

-- They come behind an index, and few commands in all.
abbrev pub AreBehind : ℕ → List ℕ → Type 0
AreBehind index closings = AllByRecursion (λ k. (index < k) × (k < 2 ^ 32)) closings
