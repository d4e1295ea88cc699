-- Private. A clause that is carried along a chain of resolutions, with the sources and the pivots of what it was resolved with.
use Rattle.std.specs.Prelude.{◌≡◌, ◌<◌, ℕ, Bool, false, not, List, [], ◌∷◌, length, map, All}
use Rattle.term_model.specs.Terms.{Var, Term}
use Rattle.rule_model.specs.declared.rules.Rule.{Rule}
use Rattle.rule_model.specs.Conditions.{Met}
use Rattle.rule_model.specs.Resolution.{IsFirstsOf, Joins}
use Rattle.clause_chain.specs.declared.signed_term.SignedTerm.{SignedTerm}
use Rattle.chain_plan.specs.declared.plan.Source.{Source}
use Rattle.chain_plan.specs.Plans.{PlannedStep, clause_of, IsSource, judged, AreMet, HavePlannedRules, IsBridgeRule}
use Rattle.chain_plan.specs.Towers.{Towers, HasNegation, AreNumbered, side}

-- what contracts see of a clause that is carried
pub record Carried : Type 0 where
  pub list : List SignedTerm
  pub sources : List Source
  pub pivots : List (ℕ × Bool)

-- what the pivots take away
abbrev pub taken_by : ℕ × Bool → SignedTerm × SignedTerm
taken_by p = (side p.0 p.1, side p.0 (not p.1))

-- where nothing was resolved yet the list is the first clause without repeats, and else what the chain comes to
abbrev pub ComesTo : List SignedTerm → List (List SignedTerm) → List (ℕ × Bool) → List SignedTerm → Type 0
ComesTo first [] [] list = IsFirstsOf [] first list
ComesTo first [] (p ∷ pivots) list = ⊥
ComesTo first (o ∷ others) pivots list = Joins first (o ∷ others) (map taken_by pivots) list

abbrev pub IsCarriedFrom : List (List SignedTerm) → List PlannedStep → List Source → List (ℕ × Bool) → List SignedTerm → Type 0
IsCarriedFrom given steps [] pivots list = ⊥
IsCarriedFrom given steps (first ∷ others) pivots list =
    ComesTo (clause_of given steps first) (map (clause_of given steps) others) pivots list

-- the item is that of a number
pub record IsItem (t : Towers) (item : SignedTerm) : Type 0 where
  pub unsigned : item.negative ≡ false
  pub within : item.term < length t.nots

-- the items of every clause that a step may name as a premise are numbers
abbrev pub AreAllItems : Towers → List (List SignedTerm) → List PlannedStep → Type 0
AreAllItems t given steps = (source : Source) → IsSource given steps source → All (IsItem t) (clause_of given steps source)

-- what sources name stays
pub record KeepsSources (old new : List PlannedStep) : Type 0 where
  pub are : (given : List (List SignedTerm)) (source : Source) → IsSource given old source → IsSource given new source
  pub same : (given : List (List SignedTerm)) (source : Source) → IsSource given old source →
      clause_of given new source ≡ clause_of given old source

-- the steps are met, whatever the terms are
pub record AreSound (t : Towers) (given : List (List SignedTerm)) (steps : List PlannedStep) : Type 0 where
  pub met : (terms : ℕ → Term) → AreNumbered t terms → AreMet terms given steps
  pub items : AreAllItems t given steps
  pub rules : HavePlannedRules steps

-- the clause is carried from what is given and from these steps
pub record IsGoing (t : Towers) (given : List (List SignedTerm)) (steps : List PlannedStep) (c : Carried) : Type 0 where
  pub sources : All (IsSource given steps) c.sources
  pub pivots : All (λ p. HasNegation t p.0) c.pivots
  pub items : All (IsItem t) c.list
  pub carried : IsCarriedFrom given steps c.sources c.pivots c.list

-- whatever the terms are, the clause meets the condition of the rule without a premise
abbrev pub IsMetAlone : Towers → Rule → List SignedTerm → Type 0
IsMetAlone t rule clause =
    (terms : ℕ → Term) → AreNumbered t terms → (anchors : List (List (Var × Term))) →
    Met (judged terms [] [] (record { rule = rule; clause = clause; premises = []; pivots = [] }) anchors)

-- it is by a rule that has no pivots
abbrev pub IsTrueAlone : Towers → Rule → List SignedTerm → Type 0
IsTrueAlone t rule clause = IsBridgeRule rule × IsMetAlone t rule clause
