-- Private. How a step stands by its id.
use Rattle.std.specs.Prelude.{◌≡◌, ℕ, true, false, List, length, take, Option, Some, None, Result, Ok, Err}
use Rattle.sexpr.specs.declared.causes.Refusal.{Refusal}
use Rattle.term_model.specs.Terms.{Var, Term}
use Rattle.rule_model.specs.Scopes.{Nesting, outermost, inside, at}
use Rattle.rule_model.specs.WellFormed.{IsNewId}
use Rattle.rule_model.specs.Writing.{is_open_id}
use Rattle.text_items.specs.ItemShapes.{Name}
use Rattle.problem_text.specs.Outcomes.{done}
use Rattle.alethe_text.specs.Ids as text
use Rattle.alethe_text.specs.States.{ProofState}
use Rattle.alethe_reader.specs.declared.session.OpenAnchor.{OpenAnchor}
use Rattle.alethe_reader.specs.declared.standing.Standing.{Standing}
use Rattle.alethe_reader.specs.Ids.{Used, IsUnused}
use Rattle.alethe_reader.specs.IdsInUse.{ids_in}
use Rattle.alethe_reader.specs.Reach.{IsReach}

-- the anchor is that of the scope
abbrev pub IsAnchorOf : Nesting Var Term → OpenAnchor → Type 0
IsAnchorOf outermost a = ⊥
IsAnchorOf (inside around before anchor) a = (a.ids ≡ length (ids_in (at around before))) × (a.variables ≡ length anchor.bindings)

-- it closes the scope of an anchor with its id, which was not in use before that anchor, or has a new id
abbrev pub IsClosing : List Used → ProofState → List ℕ → text.Standing → Option OpenAnchor → Type 0
IsClosing used p id here None =
    (is_open_id p.scope.nesting id ≡ false) × (here ≡ text.stands_in p.scope) × IsUnused used id × IsNewId p.scope.nesting p.scope.items id
IsClosing used p id here (Some a) =
    (is_open_id p.scope.nesting id ≡ true) × (here ≡ text.closes_scope p.scope.nesting p.scope.items) × IsAnchorOf p.scope.nesting a ×
    IsUnused (take a.ids used) id

pub record IsStandingOf (used : List Used) (p : ProofState) (n : Name) (t : Standing) : Type 0 where
  pub here : text.Standing
  pub comes : text.standing_of n p ≡ done here p
  pub closes : IsClosing used p n.name here t.closes
  pub premises : IsReach used t.premises here.sees
  pub discharges : IsReach used t.discharges here.discharges

abbrev pub IsStanding : List Used → ProofState → Name → Result Standing Refusal → Type 0
IsStanding used p n (Ok t) = IsStandingOf used p n t
IsStanding used p n (Err refusal) = (text.standing_of n p).result ≡ Err refusal
