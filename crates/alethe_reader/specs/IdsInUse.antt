-- Public. The ids that are in use where a scope is written: those of the commands that are visible there and of the anchors
-- that are open, in the order of the text.
use Rattle.std.specs.Prelude.{ℕ, ◌+◌, List, [], ◌∷◌, ◌++◌, Option, Some, None}
use Rattle.rule_model.specs.Proofs.{ProofItems, no_items, with_assume, with_step, with_subproof}
use Rattle.rule_model.specs.Scopes.{Nesting, outermost, inside, Scope, first_index, scope_number, commands_in}
use Rattle.rule_model.specs.Visibility.{Sight, sight}
use Rattle.alethe_reader.specs.declared.ids.Role.{Role}
use Rattle.alethe_reader.specs.declared.ids.Role.TheVariants.{Assume, Step, Anchor}
use Rattle.alethe_reader.specs.Ids.{Used}

abbrev pub in_use : List ℕ → Role → ℕ → Used
in_use id role number = record { id = id; role = role; number = number }

-- those of the commands that stand directly in a scope
abbrev pub own_ids : {V T : Type 0} → Nesting V T → ProofItems V T → List Used
own_ids nesting no_items = []
own_ids nesting (with_assume items id t) = own_ids nesting items ++ in_use id Assume (first_index nesting + commands_in items) ∷ []
own_ids nesting (with_step items s) = own_ids nesting items ++ in_use s.id Step (first_index nesting + commands_in items) ∷ []
own_ids nesting (with_subproof items bindings proof s) =
    own_ids nesting items ++ in_use s.id Step (first_index nesting + (commands_in items + commands_in proof)) ∷ []

-- those that are in use where a scope is opened
abbrev pub ids_around : {V T : Type 0} → Nesting V T → List Used
ids_around outermost = []
ids_around (inside around before anchor) =
    (ids_around around ++ own_ids around before) ++ in_use anchor.id Anchor (scope_number (inside around before anchor)) ∷ []

abbrev pub ids_in : {V T : Type 0} → Scope V T → List Used
ids_in scope = ids_around scope.nesting ++ own_ids scope.nesting scope.items

-- the command of an id in use, where it is one
abbrev pub sight_at : Role → ℕ → List ℕ → Option Sight
sight_at Assume number id = Some (sight number id)
sight_at Step number id = Some (sight number id)
sight_at Anchor number id = None

-- the same ids, as if assumes were the only commands
abbrev pub hidden : Role → Role
hidden Assume = Assume
hidden Step = Anchor
hidden Anchor = Anchor
