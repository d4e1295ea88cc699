-- Private. What a clause has beside literals of the command's clause: denied equalities that are still to be replaced.
use Rattle.std.specs.Prelude.{◌≡◌, ◌⊎◌, ℕ, Bool, false, true, List, [], ◌∷◌, Contains, Option, Some}
use Rattle.term_model.specs.Flips.{equality}
use Rattle.term_model.specs.Terms.{Term, not_of}
use Rattle.term_pool.specs.Views.{TermsView, RefersTo}
use Rattle.proof_store.specs.AddedSteps.{AddedStep}
use Rattle.proof_store.specs.declared.added.Link.{Link}
use Rattle.rule_model.specs.Resolution.{IsResolvent}
use Rattle.equality_steps.specs.Links.{LinkSays}
use Rattle.equality_steps.specs.declared.site.Site.{Site}
use Rattle.equality_ways.specs.declared.table.Table.{Table}
use Rattle.equality_ways.specs.Tables.{IsTableOf}
use Rattle.equality_ways.specs.Ways.{AreEnds}
use Rattle.equality_blocks.specs.Commands.{clause_of_command}
use Rattle.equality_blocks.specs.Made.{IsMadeFor}
use Rattle.elab_denials.specs.declared.needs.Need.{Need}
use Rattle.elab_denials.specs.Working.{AreFlipsAt, IsPlaceAt}

-- the term is a literal of the command's clause
pub record IsGiven (p : Site) (v : TermsView) (x : Term) : Type 0 where
  pub reference : ℕ
  pub among : Contains (clause_of_command p) reference
  pub refers : RefersTo p.symbols.now v reference x

-- `(not (= a b))`, where the references of the pair stand for a and b
pub record IsDenialOf (p : Site) (v : TermsView) (q : ℕ × ℕ) (x : Term) : Type 0 where
  pub left : Term
  pub right : Term
  pub left_refers : RefersTo p.symbols.now v q.0 left
  pub right_refers : RefersTo p.symbols.now v q.1 right
  pub is : x ≡ not_of (equality left right)

-- x is this for one of the pairs, and is made for the command
pub record IsOwed (p : Site) (v : TermsView) (pairs : List (ℕ × ℕ)) (x : Term) : Type 0 where
  pub pair : ℕ × ℕ
  pub among : Contains pairs pair
  pub denies : IsDenialOf p v pair x
  pub made : IsMadeFor p v x

-- the clause has it
pub record HasDenial (p : Site) (v : TermsView) (clause : List Term) (q : ℕ × ℕ) : Type 0 where
  pub literal : Term
  pub among : Contains clause literal
  pub denies : IsDenialOf p v q literal

-- the command's clause has it
pub record IsDenialGiven (p : Site) (v : TermsView) (q : ℕ × ℕ) : Type 0 where
  pub literal : Term
  pub given : IsGiven p v literal
  pub denies : IsDenialOf p v q literal

-- The link says a clause in which the denials of the pairs stand, and beside them only literals of the command's clause.
pub record IsOwing (p : Site) (v : TermsView) (steps : List AddedStep) (link : Link) (pairs : List (ℕ × ℕ)) : Type 0 where
  pub clause : List Term
  pub says : LinkSays p v steps link clause
  pub each : (x : Term) → Contains clause x → IsGiven p v x ⊎ IsOwed p v pairs x
  pub all : (q : ℕ × ℕ) → Contains pairs q → HasDenial p v clause q

-- the link says a clause of literals of the command's clause
pub record SaysGiven (p : Site) (v : TermsView) (steps : List AddedStep) (link : Link) : Type 0 where
  pub clause : List Term
  pub says : LinkSays p v steps link clause
  pub each : (x : Term) → Contains clause x → IsGiven p v x

-- the link says a clause with `(= a b)`, and beside it only literals of the command's clause
pub record Frees (p : Site) (v : TermsView) (steps : List AddedStep) (link : Link) (q : ℕ × ℕ) : Type 0 where
  pub left : Term
  pub right : Term
  pub left_refers : RefersTo p.symbols.now v q.0 left
  pub right_refers : RefersTo p.symbols.now v q.1 right
  pub clause : List Term
  pub says : LinkSays p v steps link clause
  pub has : Contains clause (equality left right)
  pub others : (x : Term) → Contains clause x → (x ≡ equality left right) ⊎ IsGiven p v x

-- Two links say clauses of terms made for the command, `(not (= a b))` stands in the first one and `(= a b)` in the second.
pub record AreOpposedOn (p : Site) (v : TermsView) (steps : List AddedStep) (left right : Link) (q : ℕ × ℕ) : Type 0 where
  pub one : Term
  pub other : Term
  pub one_refers : RefersTo p.symbols.now v q.0 one
  pub other_refers : RefersTo p.symbols.now v q.1 other
  pub left_clause : List Term
  pub left_says : LinkSays p v steps left left_clause
  pub left_has : Contains left_clause (not_of (equality one other))
  pub left_made : (x : Term) → Contains left_clause x → IsMadeFor p v x
  pub right_clause : List Term
  pub right_says : LinkSays p v steps right right_clause
  pub right_has : Contains right_clause (equality one other)
  pub right_made : (x : Term) → Contains right_clause x → IsMadeFor p v x

-- the link says what is left of two clauses that are resolved on an atom
pub record SaysResolvent (p : Site) (v : TermsView) (steps : List AddedStep) (link : Link) (ts us : List Term) (atom : Term) : Type 0 where
  pub clause : List Term
  pub says : LinkSays p v steps link clause
  pub is : IsResolvent ts us atom false clause

-- What the first of the pairs needs, by the sides of the equalities that the command denies: nothing where it is one of them, or comes
-- again; that it is turned round; or a step that says that its terms are equal.
abbrev pub IsNeed : List (Option (ℕ × ℕ)) → List (ℕ × ℕ) → Need → Type 0
IsNeed sides [] need = ⊥
IsNeed sides (q ∷ pairs) Need.Nothing = Contains sides (Some q) ⊎ Contains pairs q
IsNeed sides (q ∷ pairs) Need.Turning = (¬ Contains pairs q) × Contains sides (Some (q.1, q.0))
IsNeed sides (q ∷ pairs) Need.Paying = (¬ Contains pairs q) × (¬ AreEnds sides q.0 q.1)

-- Each of the pairs is of terms of the command that are equal up to flips, or are the sides of an equality that it denies.
pub record AreRepairable (p : Site) (v : TermsView) (table : Table) (pairs : List (ℕ × ℕ)) : Type 0 where
  pub sides : List (Option (ℕ × ℕ))
  pub is_table : IsTableOf sides table
  pub denied : (q : ℕ × ℕ) → Contains sides (Some q) → IsDenialGiven p v q
  pub places : (q : ℕ × ℕ) → Contains pairs q → IsPlaceAt p v q.0 q.1
  pub linked : (q : ℕ × ℕ) → Contains pairs q → AreEnds sides q.0 q.1 ⊎ AreFlipsAt p v q.0 q.1

-- what `equiv1` makes of `(= a b)`
pub record MakesImplied (p : Site) (v : TermsView) (a b : ℕ) : Type 0 where
  pub one : Term
  pub other : Term
  pub one_refers : RefersTo p.symbols.now v a one
  pub other_refers : RefersTo p.symbols.now v b other
  pub denied_made : IsMadeFor p v (not_of one)
  pub other_made : IsMadeFor p v other

-- the link says `(not (= b a))` `(= a b)`
pub record SaysTurned (p : Site) (v : TermsView) (steps : List AddedStep) (link : Link) (a b : ℕ) : Type 0 where
  pub one : Term
  pub other : Term
  pub one_refers : RefersTo p.symbols.now v a one
  pub other_refers : RefersTo p.symbols.now v b other
  pub says : LinkSays p v steps link (not_of (equality other one) ∷ equality one other ∷ [])

-- the terms of a pair are equal up to flips, or where `is_turned`, the command denies that they are equal, with the sides exchanged
abbrev pub IsFreedBy : Site → TermsView → ℕ × ℕ → Bool → Type 0
IsFreedBy p v q true = IsDenialGiven p v (q.1, q.0)
IsFreedBy p v q false = AreFlipsAt p v q.0 q.1

-- the clause that a link says owes this pair, and perhaps others
pub record IsOwingOne (p : Site) (v : TermsView) (steps : List AddedStep) (link : Link) (q : ℕ × ℕ) : Type 0 where
  pub rest : List (ℕ × ℕ)
  pub owing : IsOwing p v steps link (q ∷ rest)
