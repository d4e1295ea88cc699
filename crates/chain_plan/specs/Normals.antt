-- Private. Clauses without pairs of `not` for given clauses, and where they stand.
use Rattle.std.specs.Prelude.{◌≡◌, ◌<◌, ℕ, List, [], length, slice_index_or, Contains}
use Rattle.clause_chain.specs.declared.signed_term.SignedTerm.{SignedTerm}
use Rattle.chain_plan.specs.declared.plan.Source.{Source}
use Rattle.chain_plan.specs.Lowering.{AreAlike, IsPlain}
use Rattle.chain_plan.specs.Plans.{PlannedStep, IsSource, clause_of}
use Rattle.chain_plan.specs.Towers.{Towers}

-- what contracts see of a clause without pairs of `not`
pub record NormalClause : Type 0 where
  pub source : Source
  pub clause : List SignedTerm

-- it has the literals of another clause but for pairs of `not`, and none of these
pub record IsPlainForm (t : Towers) (clause : List SignedTerm) (n : NormalClause) : Type 0 where
  pub alike : AreAlike t clause n.clause
  pub plain : (x : SignedTerm) → Contains n.clause x → IsPlain t x

-- it stands where it says
pub record IsStanding (given : List (List SignedTerm)) (steps : List PlannedStep) (n : NormalClause) : Type 0 where
  pub source : IsSource given steps n.source
  pub same : clause_of given steps n.source ≡ n.clause

-- there is one for each of the given clauses, in order
pub record ArePlainForms (t : Towers) (given : List (List SignedTerm)) (ns : List NormalClause) : Type 0 where
  pub count : length ns ≡ length given
  pub each : (i : ℕ) (n : NormalClause) → i < length ns → IsPlainForm t (slice_index_or given i []) (slice_index_or ns i n)
