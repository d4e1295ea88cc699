-- Public. Anchors and commands as they stand in a file, one behind another, for printers that go from command to command: before a
-- command stand the anchors of the scopes around it that are not open yet.
use Rattle.std.specs.Prelude.{◌≡◌, ℕ, ◌+◌, ⊤, max, nat_le, if◌then◌else◌, List, [], ◌∷◌, ◌++◌}
use Rattle.sexpr.specs.Items.{Item, list, Items, no_items, item}
use Rattle.term_model.specs.Terms.{Var, Term}
use Rattle.rule_model.specs.Commands.{IndexedCommand, Line}
use Rattle.rule_model.specs.Commands.{assume, step, closing}
use Rattle.rule_model.specs.Proofs.{ProofItems, with_assume, with_step, with_subproof}
use Rattle.rule_model.specs.Proofs as proof
use Rattle.rule_model.specs.Scopes.{Nesting, outermost, inside, inner, at, scope_number, first_index, commands_in, next_index}
use Rattle.problem_text.specs.Scripts.{Script}
use Rattle.alethe_text.specs.PrintedCommands.{assume_item, anchor_item, printed_arguments}
use Rattle.printed_proofs.specs.Numbered.{printed_id}
use Rattle.printed_proofs.specs.PrintedProof.{shared_step, behind_step, shared_bindings, behind_bindings}
use Rattle.printed_proofs.specs.Shared.{Plan, shared_item, behind_term}

-- the anchor of a scope, or a command where it is reached
pub data Event : Type 0 where
  opens : Nesting Var Term → Event
  reaches : Line Var Term → Event

-- the anchors of a scope and of those around it that have a greater number than this
abbrev pub anchors_above : ℕ → Nesting Var Term → List Event
anchors_above opened outermost = []
anchors_above opened (inside around before anchor) =
    if nat_le (scope_number (inside around before anchor)) opened then [] else anchors_above opened around ++ opens (inside around before anchor) ∷ []

-- the events of commands in file order, behind so many anchors
abbrev pub file_order : ℕ → List (Line Var Term) → List Event
file_order opened [] = []
file_order opened (l ∷ ls) =
    anchors_above opened l.scope.nesting ++ (reaches l ∷ file_order (max opened (scope_number l.scope.nesting)) ls)

-- the events of a scope's items, scope by scope
abbrev pub scope_events : Nesting Var Term → ProofItems Var Term → List Event
scope_events nesting proof.no_items = []
scope_events nesting (with_assume items id t) =
    scope_events nesting items ++ reaches (record { scope = at nesting items; command = assume id t }) ∷ []
scope_events nesting (with_step items s) = scope_events nesting items ++ reaches (record { scope = at nesting items; command = step s }) ∷ []
scope_events nesting (with_subproof items bindings within s) =
    scope_events nesting items
    ++ (opens (inner nesting items bindings s)
    ∷ (scope_events (inner nesting items bindings s) within
    ++ reaches (record { scope = at (inner nesting items bindings s) within; command = closing s }) ∷ []))

-- The item of an event, where scopes of these numbers are closed by the commands of these indices, and the state behind it.
abbrev pub command_item : Plan → Script → ℕ → IndexedCommand Term → Item
command_item plan s index (assume id t) = assume_item (printed_id index) (shared_item plan s t)
command_item plan s index (step st) = shared_step plan s index st
command_item plan s index (closing st) = shared_step plan s index st

abbrev pub behind_command : Plan → Script → IndexedCommand Term → Script
behind_command plan s (assume id t) = behind_term plan s t
behind_command plan s (step st) = behind_step plan s st
behind_command plan s (closing st) = behind_step plan s st

abbrev pub event_item : (ℕ → ℕ) → Plan → Script → Event → Item
event_item closed_by plan s (opens outermost) = list 0 no_items
event_item closed_by plan s (opens (inside around before anchor)) =
    anchor_item (printed_id (closed_by (scope_number (inside around before anchor)))) (printed_arguments (shared_bindings plan around s anchor.bindings))
event_item closed_by plan s (reaches l) = command_item plan s (next_index l.scope) l.command

abbrev pub behind_event : Plan → Script → Event → Script
behind_event plan s (opens outermost) = s
behind_event plan s (opens (inside around before anchor)) = behind_bindings plan around s anchor.bindings
behind_event plan s (reaches l) = behind_command plan s l.command

abbrev pub event_items : (ℕ → ℕ) → Plan → Script → List Event → Items
event_items closed_by plan s [] = no_items
event_items closed_by plan s (e ∷ es) = item (event_item closed_by plan s e) (event_items closed_by plan (behind_event plan s e) es)

abbrev pub behind_events : Plan → Script → List Event → Script
behind_events plan s [] = s
behind_events plan s (e ∷ es) = behind_events plan (behind_event plan s e) es

-- Each scope inside is closed by the command of its index.
abbrev pub AreClosedBy : (ℕ → ℕ) → Nesting Var Term → ProofItems Var Term → Type 0
AreClosedBy closed_by nesting proof.no_items = ⊤
AreClosedBy closed_by nesting (with_assume items id t) = AreClosedBy closed_by nesting items
AreClosedBy closed_by nesting (with_step items s) = AreClosedBy closed_by nesting items
AreClosedBy closed_by nesting (with_subproof items bindings within s) =
    AreClosedBy closed_by nesting items
    × (closed_by (scope_number (inner nesting items bindings s)) ≡ first_index nesting + commands_in items + commands_in within)
    × AreClosedBy closed_by (inner nesting items bindings s) within
