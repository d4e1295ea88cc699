-- Private. A way over the equalities that a clause denies.
use Rattle.std.specs.Prelude.{◌≡◌, ◌≤◌, ◌++◌, ℕ, List, [], ◌∷◌, length, Contains, Option, Some}
use Rattle.rule_model.specs.Congruence.{AreSides, IsConnected, denials, units}
use Rattle.term_model.specs.Flips.{equality}
use Rattle.term_model.specs.Terms.{Term}
use Rattle.term_pool.specs.Views.{TermsView, RefersTo, ReferToAll}
use Rattle.equality_steps.specs.declared.site.Site.{Site}
use Rattle.equality_ways.specs.declared.pairs.Used.{Used}
use Rattle.equality_ways.specs.Tables.{IsTableOf}
use Rattle.equality_ways.specs.Ways.{AreEnds, LeadsTo}
use Rattle.equality_blocks.specs.Commands.{clause_of_command}
use Rattle.elab_denials.specs.declared.transitive.Plan.{Plan}
use Rattle.elab_denials.specs.Owing.{IsDenialGiven, IsGiven}

-- the equality that is used leads on from the reference
pub record HasNext (sides : List (Option (ℕ × ℕ))) (used : Used) (from : ℕ) : Type 0 where
  pub next : ℕ
  pub leads : LeadsTo sides used from next

-- the pairs of neighbors in a list that begins with this reference, and its last one
abbrev pub pairs_from : ℕ → List ℕ → List (ℕ × ℕ)
pairs_from a [] = []
pairs_from a (b ∷ bs) = (a, b) ∷ pairs_from b bs

abbrev pub last_of : ℕ → List ℕ → ℕ
last_of a [] = a
last_of a (b ∷ bs) = last_of b bs

-- References lead from the one end to the other; these are the pairs of neighbors among them, which are sides of equalities.
pub record IsTrailOver (sides : List (Option (ℕ × ℕ))) (ends : ℕ × ℕ) (refs : List ℕ) (pairs : List (ℕ × ℕ)) : Type 0 where
  pub others : List ℕ
  pub refs_are : refs ≡ ends.0 ∷ others
  pub pairs_are : pairs ≡ pairs_from ends.0 others
  pub last : last_of ends.0 others ≡ ends.1
  pub linked : (q : ℕ × ℕ) → Contains pairs q → AreEnds sides q.0 q.1

-- the sides are those of equalities that the command's clause denies
abbrev pub AreGivenDenials : Site → TermsView → List (Option (ℕ × ℕ)) → Type 0
AreGivenDenials p v sides = (q : ℕ × ℕ) → Contains sides (Some q) → IsDenialGiven p v q

-- the command's clause has `(= a b)`, where the references of the pair stand for a and b
pub record IsEqualityGiven (p : Site) (v : TermsView) (q : ℕ × ℕ) : Type 0 where
  pub left : Term
  pub right : Term
  pub left_refers : RefersTo p.symbols.now v q.0 left
  pub right_refers : RefersTo p.symbols.now v q.1 right
  pub given : IsGiven p v (equality left right)

-- References lead over equalities that the command's clause denies to what it equates with the first one.
pub record IsWayGiven (p : Site) (v : TermsView) (ends : ℕ × ℕ) (refs : List ℕ) (pairs : List (ℕ × ℕ)) : Type 0 where
  pub sides : List (Option (ℕ × ℕ))
  pub trail : IsTrailOver sides ends refs pairs
  pub denied : AreGivenDenials p v sides
  pub given : IsEqualityGiven p v ends

-- The command's clause denies equalities that connect two terms, and then equates these; the references of the pair stand for them.
pub record EquatesEnds (p : Site) (v : TermsView) (q : ℕ × ℕ) : Type 0 where
  pub sides : List (Term × Term)
  pub left : Term
  pub right : Term
  pub left_refers : RefersTo p.symbols.now v q.0 left
  pub right_refers : RefersTo p.symbols.now v q.1 right
  pub stands : ReferToAll p.symbols.now v (clause_of_command p) (denials sides ++ equality left right ∷ [])
  pub connected : IsConnected (AreSides (units sides)) left right

-- The command's clause equates the ends, and denies equalities with these sides that connect them.
pub record AreConnectedEnds (p : Site) (v : TermsView) (sides : List (Option (ℕ × ℕ))) (ends : ℕ × ℕ) : Type 0 where
  pub denied : AreGivenDenials p v sides
  pub given : IsEqualityGiven p v ends
  pub connected : IsConnected (AreEnds sides) ends.0 ends.1

-- a way over denied equalities of the command, as long as its clause at most, and the table of these
pub record IsPlan (p : Site) (v : TermsView) (plan : Plan) : Type 0 where
  pub sides : List (Option (ℕ × ℕ))
  pub is_table : IsTableOf sides plan.table
  pub trail : IsTrailOver sides plan.ends plan.trail.refs.items plan.trail.pairs.items
  pub denied : AreGivenDenials p v sides
  pub given : IsEqualityGiven p v plan.ends
  pub short : length plan.trail.pairs.items ≤ length (clause_of_command p)
