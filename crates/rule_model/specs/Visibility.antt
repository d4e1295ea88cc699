-- Public. What can be seen where a scope is written (Alethe, "Subproofs"): the commands that stand directly in it or in
-- a scope around it, before that place.
use Rattle.std.specs.Prelude.{ℕ, ◌+◌, List, [], ◌∷◌, ◌++◌, map}
use Rattle.rule_model.specs.Proofs.{ProofItems, no_items, with_assume, with_step, with_subproof}
use Rattle.rule_model.specs.Scopes.{Nesting, outermost, inside, first_index, scope_number, commands_in}

-- a command that can be seen: its index and its id
pub record Sight : Type 0 where
  pub index : ℕ
  pub id : List ℕ

abbrev pub sight : ℕ → List ℕ → Sight
sight index id = record { index = index; id = id }

-- the commands that stand directly in a scope; of a subproof it is the closing step
abbrev pub direct : {V T : Type 0} → Nesting V T → ProofItems V T → List Sight
direct nesting no_items = []
direct nesting (with_assume items id t) =
    direct nesting items ++ sight (first_index nesting + commands_in items) id ∷ []
direct nesting (with_step items s) = direct nesting items ++ sight (first_index nesting + commands_in items) s.id ∷ []
direct nesting (with_subproof items bindings proof s) =
    direct nesting items ++ sight (first_index nesting + (commands_in items + commands_in proof)) s.id ∷ []

-- those of them that are assumes, and their indices
abbrev pub direct_assumes : {V T : Type 0} → Nesting V T → ProofItems V T → List Sight
direct_assumes nesting no_items = []
direct_assumes nesting (with_assume items id t) =
    direct_assumes nesting items ++ sight (first_index nesting + commands_in items) id ∷ []
direct_assumes nesting (with_step items s) = direct_assumes nesting items
direct_assumes nesting (with_subproof items bindings proof s) = direct_assumes nesting items

abbrev pub assumes_in : {V T : Type 0} → Nesting V T → ProofItems V T → List ℕ
assumes_in nesting items = map (λ s. s.index) (direct_assumes nesting items)

-- what can be seen from where a scope is opened, and from where it is written up to now
abbrev pub seen_around : {V T : Type 0} → Nesting V T → List Sight
seen_around outermost = []
seen_around (inside around before anchor) = seen_around around ++ direct around before

abbrev pub seen : {V T : Type 0} → Nesting V T → ProofItems V T → List Sight
seen nesting items = seen_around nesting ++ direct nesting items

-- the indices, and the ids, that are visible
abbrev pub visible : {V T : Type 0} → Nesting V T → ProofItems V T → List ℕ
visible nesting items = map (λ s. s.index) (seen nesting items)

abbrev pub visible_ids : {V T : Type 0} → Nesting V T → ProofItems V T → List (List ℕ)
visible_ids nesting items = map (λ s. s.id) (seen nesting items)

-- the ids of the anchors that are open, the outermost first
abbrev pub open_ids : {V T : Type 0} → Nesting V T → List (List ℕ)
open_ids outermost = []
open_ids (inside around before anchor) = open_ids around ++ anchor.id ∷ []

-- the numbers of the scopes that are open, the outermost first
abbrev pub open_scopes : {V T : Type 0} → Nesting V T → List ℕ
open_scopes outermost = 0 ∷ []
open_scopes (inside around before anchor) = open_scopes around ++ scope_number (inside around before anchor) ∷ []

-- what the open anchors bind, the outermost first
abbrev pub open_bindings : {V T : Type 0} → Nesting V T → List (V × T)
open_bindings outermost = []
open_bindings (inside around before anchor) = open_bindings around ++ anchor.bindings
