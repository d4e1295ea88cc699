-- Public. How a proof is written, command by command: what each adds to the scope that is written.
use Rattle.std.specs.Prelude.{◌≡◌, ℕ, List, Bool, true, false, if◌then◌else◌}
use Rattle.std.specs.Str.{bytes_eq}
use Rattle.rule_model.specs.Proofs.{Step, ProofItems, no_items, with_assume, with_step, with_subproof}
use Rattle.rule_model.specs.Scopes.{Anchor, Nesting, outermost, inside, Scope, at}
use Rattle.rule_model.specs.Commands.{IndexedCommand, assume, step, closing}
use Rattle.rule_model.specs.WellFormed.{IsNewId, MayStand, MayClose}

-- nothing is written
abbrev pub unwritten : {V T : Type 0} → Scope V T
unwritten = at outermost no_items

abbrev pub add_assume : {V T : Type 0} → Scope V T → List ℕ → T → Scope V T
add_assume scope id t = at scope.nesting (with_assume scope.items id t)

abbrev pub add_step : {V T : Type 0} → Scope V T → Step T → Scope V T
add_step scope s = at scope.nesting (with_step scope.items s)

-- an anchor opens a scope inside, which is then written
abbrev pub open_anchor : {V T : Type 0} → Scope V T → Anchor V T → Scope V T
open_anchor scope anchor = at (inside scope.nesting scope.items anchor) no_items

-- a step closes the scope: it goes behind the subproof, in the scope around
abbrev pub close_scope : {V T : Type 0} → Nesting V T → ProofItems V T → Step T → Scope V T
close_scope outermost items s = at outermost items
close_scope (inside around before anchor) items s = at around (with_subproof before anchor.bindings items s)

-- the id is that of the innermost open anchor
abbrev pub is_open_id : {V T : Type 0} → Nesting V T → List ℕ → Bool
is_open_id outermost id = false
is_open_id (inside around before anchor) id = bytes_eq id anchor.id

-- a step with the id of the innermost open anchor closes its scope, and any other is added to the scope
abbrev pub take_step : {V T : Type 0} → Scope V T → Step T → Scope V T
take_step scope s =
    if is_open_id scope.nesting s.id then close_scope scope.nesting scope.items s else add_step scope s

-- the step may stand where the scope is written up to now
abbrev pub MayCloseHere : {V T : Type 0} → Nesting V T → ProofItems V T → Step T → Type 0
MayCloseHere outermost items s = ⊥
MayCloseHere (inside around before anchor) items s = MayClose around before (inside around before anchor) items s

pub record MayTake {V T : Type 0} (scope : Scope V T) (s : Step T) : Type 0 where
  pub closing : is_open_id scope.nesting s.id ≡ true → MayCloseHere scope.nesting scope.items s
  pub standing : is_open_id scope.nesting s.id ≡ false → MayStand scope.nesting scope.items s

-- what a command adds where it is reached: the scope to which it belongs, written up to it
abbrev pub add_command : {V T : Type 0} → Scope V T → IndexedCommand T → Scope V T
add_command scope (assume id t) = add_assume scope id t
add_command scope (step s) = add_step scope s
add_command scope (closing s) = close_scope scope.nesting scope.items s

-- where the scope stands to which a command belongs: a closing step belongs to the scope around
abbrev pub own_nesting : {V T : Type 0} → Nesting V T → IndexedCommand T → Nesting V T
own_nesting nesting (assume id t) = nesting
own_nesting nesting (step s) = nesting
own_nesting outermost (closing s) = outermost
own_nesting (inside around before anchor) (closing s) = around

-- the command may stand where the scope is written up to now
abbrev pub MayAddHere : {V T : Type 0} → Scope V T → IndexedCommand T → Type 0
MayAddHere scope (assume id t) = IsNewId scope.nesting scope.items id
MayAddHere scope (step s) = MayStand scope.nesting scope.items s
MayAddHere scope (closing s) = MayCloseHere scope.nesting scope.items s
