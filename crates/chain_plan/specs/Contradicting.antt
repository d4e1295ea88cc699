-- Private. How a clause contradicts itself, by the plain numbers of its literals.
use Rattle.std.specs.Prelude.{◌≡◌, ◌+◌, ℕ, Bool, true, false, List, length, slice_index_or, Contains}
use Rattle.term_model.specs.Terms.{Term}
use Rattle.rule_model.specs.Consequence.{Contradicts}
use Rattle.rule_model.specs.Resolution.{as_clause}
use Rattle.clause_chain.specs.declared.signed_term.SignedTerm.{SignedTerm}
use Rattle.chain_plan.specs.Towers.{Towers, AreNumbered, HasNegation, nots_at, plain_of, terms_of}

-- the number of what is left of a literal without its pairs of `not`
abbrev pub IsPlainNumberOf : Towers → List SignedTerm → ℕ → Type 0
IsPlainNumberOf t goal k = (g : SignedTerm) × Contains goal g × (k ≡ plain_of t g.term)

-- these numbers are marked
pub record AreMarks (t : Towers) (goal : List SignedTerm) (marks : List Bool) : Type 0 where
  pub long : length marks ≡ length t.nots
  pub marked : (k : ℕ) → slice_index_or marks k false ≡ true → IsPlainNumberOf t goal k
  pub all : (g : SignedTerm) → Contains goal g → slice_index_or marks (plain_of t g.term) false ≡ true

-- the number of a term that begins with no `not` is marked, and so is that of its negation
pub record IsMarkedPair (t : Towers) (marks : List Bool) (k : ℕ) : Type 0 where
  pub above : HasNegation t k
  pub none : nots_at t k ≡ 0
  pub one : slice_index_or marks k false ≡ true
  pub two : slice_index_or marks (k + 1) false ≡ true

-- the clause contradicts itself, whatever terms have these numbers
pub record ContradictsBy (t : Towers) (goal : List SignedTerm) : Type 0 where
  pub terms : ℕ → Term
  pub named : AreNumbered t terms
  pub contradicts : Contradicts (as_clause (terms_of terms goal))
