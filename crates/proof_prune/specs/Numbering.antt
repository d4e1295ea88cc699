-- Public. When each assume that is kept has an assertion, and which assertions are used.
use Rattle.std.specs.Prelude.{ℕ, Bool, List, Any}
use Rattle.term_model.specs.Flips.{EqualUpToFlips}
use Rattle.term_model.specs.Terms.{Var, Term}
use Rattle.rule_model.specs.Proofs.{ProofItems}
use Rattle.pruned_proofs.specs.Core.{IsKeptAssume, IsCore}

-- some assertion is equal to the term up to flips
abbrev pub IsEqualToOne : List Term → Term → Type 0
IsEqualToOne assertions t = Any (λ a. EqualUpToFlips a t) assertions

-- an assertion is equal to the term of each assume of the outermost scope that is kept
abbrev pub AreAsserted : List Bool → List Term → ProofItems Var Term → Type 0
AreAsserted marks assertions proof = (index : ℕ) (t : Term) → IsKeptAssume marks proof index t → IsEqualToOne assertions t

-- the numbers of the assertions that are used
pub record HasCore (marks : List Bool) (assertions : List Term) (proof : ProofItems Var Term) : Type 0 where
  pub numbers : List ℕ
  pub is : IsCore marks assertions proof numbers
