-- Private. A way over the equalities that premises state, and the links that say that it leads on.
use Rattle.std.specs.Prelude.{◌≡◌, ◌<◌, ◌⊎◌, ℕ, List, [], ◌∷◌, Option}
use Rattle.proof_store.specs.AddedSteps.{AddedStep}
use Rattle.proof_store.specs.declared.added.Link.{Link}
use Rattle.rule_model.specs.declared.rules.Rule.{Rule}
use Rattle.rule_model.specs.Scopes.{commands_in}
use Rattle.term_model.specs.declared.symbols.Sort.{Sort}
use Rattle.term_model.specs.Flips.{equality}
use Rattle.term_model.specs.Terms.{Term}
use Rattle.term_pool.specs.Views.{TermsView, RefersTo}
use Rattle.equality_blocks.specs.Commands.{clause_of_command}
use Rattle.equality_blocks.specs.Made.{IsMadeFor}
use Rattle.equality_steps.specs.declared.site.Site.{Site}
use Rattle.equality_steps.specs.Blocks.{EndsBy}
use Rattle.equality_steps.specs.Links.{LinkEquates}
use Rattle.equality_steps.specs.Sites.{IsSideAt}
use Rattle.equality_ways.specs.Sides.{AreSidesOfUnits}
use Rattle.equality_ways.specs.Ways.{IsNeverTwice, IsWayOver}
use Rattle.elab_equality.specs.Linked.{ArePremises}
use Rattle.elab_equality.specs.declared.linking.Walk.{Walk}

-- the clause has one literal
pub record HasOneLiteral (p : Site) : Type 0 where
  pub literal : ℕ
  pub clause : clause_of_command p ≡ literal ∷ []

-- the clause is an equality
pub record StatesEquality (p : Site) (v : TermsView) : Type 0 where
  pub literal : ℕ
  pub clause : clause_of_command p ≡ literal ∷ []
  pub left : Term
  pub right : Term
  pub refers : RefersTo p.symbols.now v literal (equality left right)

-- the clause is `(= t u)`, and the references stand for t and u
pub record IsClauseOfSides (p : Site) (v : TermsView) (a b : ℕ) : Type 0 where
  pub literal : ℕ
  pub clause : clause_of_command p ≡ literal ∷ []
  pub left : Term
  pub right : Term
  pub literal_refers : RefersTo p.symbols.now v literal (equality left right)
  pub left_refers : RefersTo p.symbols.now v a left
  pub right_refers : RefersTo p.symbols.now v b right

-- these are the sides of the premises, place by place
pub record AreSidesGiven (p : Site) (v : TermsView) (sides : List (Option (ℕ × ℕ))) : Type 0 where
  pub within : p.command < commands_in p.proof.now
  pub premises : List (List Term)
  pub are : ArePremises p v premises
  pub sides_are : AreSidesOfUnits p.symbols.now v sides premises

-- a way from the one side of the clause to the other over the sides of the premises
pub record IsWalk (p : Site) (v : TermsView) (x : Walk) : Type 0 where
  pub ends : IsClauseOfSides p v x.from x.to
  pub given : AreSidesGiven p v x.sides.items
  pub way : IsWayOver x.sides.items x.from x.to x.used.items
  pub once : IsNeverTwice x.used.items

-- the reference stands for a term that may stand there as a side, and its equality with itself is made for the command
pub record MayEqualItself (p : Site) (v : TermsView) (a : ℕ) : Type 0 where
  pub sort : Sort
  pub term : Term
  pub refers : RefersTo p.symbols.now v a term
  pub fits : IsSideAt p sort term
  pub made : IsMadeFor p v (equality term term)

-- each link says that the reference to which the ones before it have led is equal to a next one
abbrev pub LeadOn : Site → TermsView → List AddedStep → ℕ → List Link → ℕ → Type 0
LeadOn p v steps a [] b = a ≡ b
LeadOn p v steps a (link ∷ links) b = (next : ℕ) × LinkEquates p v steps link a next × LeadOn p v steps next links b

-- the last step is by trans or by eq_reflexive
abbrev pub EndsByEither : List AddedStep → Type 0
EndsByEither steps = EndsBy steps Rule.Trans ⊎ EndsBy steps Rule.EqReflexive
