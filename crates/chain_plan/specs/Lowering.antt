-- Private. Clauses that are the same but for pairs of `not`, and how far pairs have been taken from a literal.
use Rattle.std.specs.Prelude.{◌≡◌, ◌≢◌, ◌⊎◌, ◌+◌, ◌*◌, ◌≤◌, ◌<◌, ℕ, Bool, not, List, Contains}
use Rattle.clause_chain.specs.declared.signed_term.SignedTerm.{SignedTerm}
use Rattle.chain_plan.specs.Carried.{IsItem}
use Rattle.chain_plan.specs.Towers.{Towers, HasNegation, nots_at, plain_of, item_of, side}

-- the item is that of a number whose term begins with at most one `not`
pub record IsPlain (t : Towers) (x : SignedTerm) : Type 0 where
  pub item : IsItem t x
  pub few : nots_at t x.term < 2

-- the pivot against a number: a term that begins with no `not`, and the sign with which it is opposed to the number's literal
pub record IsPivotAgainst (t : Towers) (number pivot : ℕ) (sign : Bool) : Type 0 where
  pub none : nots_at t pivot ≡ 0
  pub above : HasNegation t pivot
  pub there : side pivot (not sign) ≡ item_of (plain_of t number)

-- the item is what is left of one of the clause without its pairs of `not`
abbrev pub IsPlainOfSome : Towers → List SignedTerm → SignedTerm → Type 0
IsPlainOfSome t goal x = (g : SignedTerm) × Contains goal g × (x ≡ item_of (plain_of t g.term))

abbrev pub ArePlainsOf : Towers → List SignedTerm → List SignedTerm → Type 0
ArePlainsOf t list goal = (x : SignedTerm) → Contains list x → IsPlainOfSome t goal x

-- the number stands so many pairs of `not` below another one
pub record StandsBelow (t : Towers) (number goal : ℕ) : Type 0 where
  pub pairs : ℕ
  pub is : number + 2 * pairs ≡ goal
  pub nots : 2 * pairs ≤ nots_at t goal

-- for each item of a clause another one has an item that is the same without pairs of `not`
abbrev pub HasPlainsOf : Towers → List SignedTerm → List SignedTerm → Type 0
HasPlainsOf t xs ys = (x : SignedTerm) → Contains xs x → (y : SignedTerm) × Contains ys y × (plain_of t y.term ≡ plain_of t x.term)

pub record AreAlike (t : Towers) (old new : List SignedTerm) : Type 0 where
  pub stays : HasPlainsOf t old new
  pub was : HasPlainsOf t new old

-- the number has come down to another, and so has the literal in the clause
pub record HasComeDown (t : Towers) (number current : ℕ) (old new : List SignedTerm) : Type 0 where
  pub above : HasNegation t current
  pub plain : plain_of t current ≡ plain_of t number
  pub there : Contains new (item_of current)
  pub gone : (current ≢ number) → ¬ Contains new (item_of number)
  pub lower : current ≤ number
  pub was : (x : SignedTerm) → Contains new x → Contains old x ⊎ (x ≡ item_of current)
  pub alike : AreAlike t old new
