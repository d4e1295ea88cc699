-- Public. Scopes and how they stand in one another, and the numbers of commands and scopes.
use Rattle.std.specs.Prelude.{ℕ, suc, ◌+◌, List, [], Option, Some, None}
use Rattle.rule_model.specs.Proofs.{Step, ProofItems, no_items, with_assume, with_step, with_subproof}

-- an anchor: the id of the step that closes its scope, and what it binds, each variable with its term, in order
pub record Anchor (V T : Type 0) : Type 0 where
  pub id : List ℕ
  pub bindings : List (V × T)

-- Where a scope stands: it is the outermost one, or an anchor opened it, inside another scope, behind these items of
-- the other one.
pub data Nesting (V T : Type 0) : Type 0 where
  outermost : Nesting V T
  inside : Nesting V T → ProofItems V T → Anchor V T → Nesting V T

-- a scope as far as it is written: where it stands, and its items so far
pub record Scope (V T : Type 0) : Type 0 where
  pub nesting : Nesting V T
  pub items : ProofItems V T

abbrev pub at : {V T : Type 0} → Nesting V T → ProofItems V T → Scope V T
at nesting items = record { nesting = nesting; items = items }

-- what stands around the scope that a step with this id closes
abbrev pub inner : {V T : Type 0} → Nesting V T → ProofItems V T → List (V × T) → Step T → Nesting V T
inner nesting items bindings closing = inside nesting items (record { id = closing.id; bindings = bindings })

-- how many commands there are among the items, at any depth
abbrev pub commands_in : {V T : Type 0} → ProofItems V T → ℕ
commands_in no_items = 0
commands_in (with_assume items id t) = suc (commands_in items)
commands_in (with_step items s) = suc (commands_in items)
commands_in (with_subproof items bindings proof closing) = suc (commands_in items + commands_in proof)

-- how many subproofs
abbrev pub subproofs_in : {V T : Type 0} → ProofItems V T → ℕ
subproofs_in no_items = 0
subproofs_in (with_assume items id t) = subproofs_in items
subproofs_in (with_step items s) = subproofs_in items
subproofs_in (with_subproof items bindings proof closing) = suc (subproofs_in items + subproofs_in proof)

-- A scope's number is its anchor's place among the anchors in file order, from 1. The outermost scope has the number 0.
abbrev pub scope_number : {V T : Type 0} → Nesting V T → ℕ
scope_number outermost = 0
scope_number (inside around before anchor) = suc (scope_number around + subproofs_in before)

-- the index that the first command of the scope has
abbrev pub first_index : {V T : Type 0} → Nesting V T → ℕ
first_index outermost = 0
first_index (inside around before anchor) = first_index around + commands_in before

-- the index of the next command, and the number of the next scope
abbrev pub next_index : {V T : Type 0} → Scope V T → ℕ
next_index scope = first_index scope.nesting + commands_in scope.items

abbrev pub next_scope : {V T : Type 0} → Scope V T → ℕ
next_scope scope = suc (scope_number scope.nesting + subproofs_in scope.items)

-- the number of the scope around, which all but the outermost one have
abbrev pub parent_number : {V T : Type 0} → Nesting V T → Option ℕ
parent_number outermost = None
parent_number (inside around before anchor) = Some (scope_number around)

-- what the scope's anchor binds
abbrev pub own_bindings : {V T : Type 0} → Nesting V T → List (V × T)
own_bindings outermost = []
own_bindings (inside around before anchor) = anchor.bindings

-- the index of the last command that stands directly in the scope: of a subproof it is the closing step
abbrev pub last_index : {V T : Type 0} → Nesting V T → ProofItems V T → Option ℕ
last_index nesting no_items = None
last_index nesting (with_assume items id t) = Some (first_index nesting + commands_in items)
last_index nesting (with_step items s) = Some (first_index nesting + commands_in items)
last_index nesting (with_subproof items bindings proof closing) =
    Some (first_index nesting + (commands_in items + commands_in proof))
