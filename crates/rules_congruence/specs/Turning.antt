-- Private. Equalities that are turned round.
use Rattle.std.specs.Prelude.{◌≡◌}
use Rattle.term_model.specs.Flips.{equality}
use Rattle.term_model.specs.Terms.{Term}
use Rattle.rule_model.specs.Clausal.{as_it_stands}

-- the two terms are one equality, as it stands or denied, with its sides exchanged
pub record AreTurned (sign : Term → Term) (t u : Term) : Type 0 where
  pub left : Term
  pub right : Term
  pub old : t ≡ sign (equality left right)
  pub new : u ≡ sign (equality right left)

-- the term is `(= t t)`
pub record HasEqualSides (t : Term) : Type 0 where
  pub side : Term
  pub is : t ≡ equality side side

-- the term is `(= (= t u) (= u t))`
pub record HasTurnedSides (t : Term) : Type 0 where
  pub one : Term
  pub other : Term
  pub is : t ≡ equality one other
  pub turned : AreTurned as_it_stands one other
