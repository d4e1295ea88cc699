-- Private. How a proof is gone over: from command to command, through the anchors between them.
use Rattle.std.specs.Prelude.{ℕ, zero, suc, List, [], ◌∷◌, slice_get}
use Rattle.std.specs.Option.{option_map_or}
use Rattle.rule_model.specs.Commands.{Line, lines_in}
use Rattle.rule_model.specs.Proofs.{ProofItems}
use Rattle.rule_model.specs.Scopes.{Anchor, outermost, Scope, scope_number}
use Rattle.rule_model.specs.Writing.{unwritten, open_anchor, add_command}

-- from a scope, as far as it is written, only anchors are opened up to another
pub data Opens : Scope ℕ ℕ → Scope ℕ ℕ → Type 0 where
  none_opened : (scope : Scope ℕ ℕ) → Opens scope scope
  one_opened : (scope inner : Scope ℕ ℕ) (anchor : Anchor ℕ ℕ) → Opens (open_anchor scope anchor) inner → Opens scope inner

-- what is written of a proof behind its first commands
abbrev pub after : ℕ → Scope ℕ ℕ → List (Line ℕ ℕ) → Scope ℕ ℕ
after zero scope lines = scope
after (suc i) scope [] = scope
after (suc i) scope (line ∷ lines) = after i (add_command line.scope line.command) lines

abbrev pub written_to : ProofItems ℕ ℕ → ℕ → Scope ℕ ℕ
written_to proof i = after i unwritten (lines_in outermost proof)

-- the number of the scope in which a command is reached
abbrev pub inner_at : ProofItems ℕ ℕ → ℕ → ℕ
inner_at proof i = option_map_or (λ (line : Line ℕ ℕ). scope_number line.scope.nesting) (slice_get (lines_in outermost proof) i) 0
