-- Public. Ids (Alethe, "The Proof Format" and "Subproofs"): which a command may have, and which commands a step may name.
use Rattle.std.specs.Prelude.{ℕ, not, if◌then◌else◌, List, [], ◌∷◌, find, bytes_eq, ⊤}
use Rattle.sexpr.specs.declared.causes.Cause.{Cause}
use Rattle.sexpr.specs.declared.causes.Cause.TheVariants.{Repeated, NoStep, BadAnchor}
use Rattle.term_model.specs.Terms.{Var, Term}
use Rattle.rule_model.specs.Proofs.{ProofItems}
use Rattle.rule_model.specs.Scopes.{Nesting, outermost, inside, Scope}
use Rattle.rule_model.specs.Visibility.{Sight, direct_assumes, seen, visible_ids, open_ids}
use Rattle.rule_model.specs.Writing.{is_open_id}
use Rattle.text_items.specs.ItemShapes.{Name}
use Rattle.problem_text.specs.Words.{is_among}
use Rattle.alethe_text.specs.States.{Reading, ◌>>=◌, give, demand, found, seen_in}

-- The id of a command that closes nothing is neither that of an open anchor, which has this cause, nor that of a visible
-- command.
abbrev pub id_judged : Cause → Name → Reading ⊤
id_judged of_anchor n = do
  scope ← seen_in (λ s. s.scope)
  _ ← demand (not (is_among (open_ids scope.nesting) n.name)) of_anchor n.place
  demand (not (is_among (visible_ids scope.nesting scope.items) n.name)) Repeated n.place

-- Where a step stands: the scope to which it belongs, the commands that it sees, and the assumes that it may discharge.
pub record Standing : Type 0 where
  pub nesting : Nesting Var Term
  pub sees : List Sight
  pub discharges : List Sight

abbrev pub stands_in : Scope Var Term → Standing
stands_in scope = record { nesting = scope.nesting; sees = seen scope.nesting scope.items; discharges = [] }

-- a step that closes a scope belongs to the scope around
abbrev pub closes_scope : Nesting Var Term → ProofItems Var Term → Standing
closes_scope outermost items = record { nesting = outermost; sees = []; discharges = [] }
closes_scope (inside around before anchor) items =
    record { nesting = around; sees = seen around before; discharges = direct_assumes (inside around before anchor) items }

-- A step with the id of the innermost open anchor closes its scope.
unfoldable pub standing_of : Name → Reading Standing
standing_of n = do
  scope ← seen_in (λ s. s.scope)
  if is_open_id scope.nesting n.name then give (closes_scope scope.nesting scope.items)
      else id_judged BadAnchor n >>= λ _. give (stands_in scope)

-- the commands of these ids, by their indices, where all are among those that are seen
unfoldable pub indices_of : List Sight → List Name → Reading (List ℕ)
indices_of sights [] = give []
indices_of sights (n ∷ ns) = do
  c ← found (find (λ c. bytes_eq c.id n.name) sights) NoStep n.place
  indices ← indices_of sights ns
  give (c.index ∷ indices)
