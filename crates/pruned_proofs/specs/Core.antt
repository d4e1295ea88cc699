-- Public. Which assertions a refutation uses.
use Rattle.std.specs.Prelude.{◌≡◌, ◌<◌, ℕ, Bool, true, List, [], ◌∷◌, slice_get, Some, AllPairs, Contains}
use Rattle.std.specs.Option.{option_map_or}
use Rattle.term_model.specs.Flips.{EqualUpToFlips}
use Rattle.term_model.specs.Terms.{Var, Term}
use Rattle.rule_model.specs.Proofs.{ProofItems}
use Rattle.rule_model.specs.Reading.{clause_at, rule_at, scope_at, is_assume}
use Rattle.rule_model.specs.Statuses.{Checking}
use Rattle.pruned_proofs.specs.Reached.{is_kept}

-- the first assertion that is equal to the term up to flips has this number, from 0 in file order
pub record IsFirstEqual (assertions : List Term) (t : Term) (number : ℕ) : Type 0 where
  pub assertion : Term
  pub there : slice_get assertions number ≡ Some assertion
  pub equal : EqualUpToFlips assertion t
  pub first : (k : ℕ) (a : Term) → k < number → slice_get assertions k ≡ Some a → ¬ EqualUpToFlips a t

-- an assume of the outermost scope is kept, and this is its term, which is all of its clause
pub record IsKeptAssume {V T : Type 0} (marks : List Bool) (proof : ProofItems V T) (index : ℕ) (t : T) : Type 0 where
  pub kept : is_kept marks index ≡ true
  pub scope : scope_at proof index ≡ 0
  pub assume : is_assume (rule_at proof index) ≡ true
  pub term : Contains (clause_at proof index) t

-- the first assertion that is equal to the term of such an assume has this number
pub record IsUsed (marks : List Bool) (assertions : List Term) (proof : ProofItems Var Term) (number : ℕ) : Type 0 where
  pub index : ℕ
  pub term : Term
  pub assume : IsKeptAssume marks proof index term
  pub first : IsFirstEqual assertions term number

-- the term's first equal assertion is among these numbers
pub record HasNumber (assertions : List Term) (numbers : List ℕ) (t : Term) : Type 0 where
  pub number : ℕ
  pub first : IsFirstEqual assertions t number
  pub among : Contains numbers number

-- the numbers of the assertions that are used, each once and in rising order
pub record IsCore (marks : List Bool) (assertions : List Term) (proof : ProofItems Var Term) (numbers : List ℕ) : Type 0 where
  pub rising : AllPairs (λ m n. m < n) numbers
  pub only : (number : ℕ) → Contains numbers number → IsUsed marks assertions proof number
  pub each : (index : ℕ) (t : Term) → IsKeptAssume marks proof index t → HasNumber assertions numbers t

-- the items of these numbers
abbrev pub chosen : {X : Type 0} → List X → List ℕ → List X
chosen xs [] = []
chosen xs (number ∷ numbers) = option_map_or (λ x. x ∷ chosen xs numbers) (slice_get xs number) (chosen xs numbers)

-- the same checking for the assertions of these numbers alone
abbrev pub checking_for : Checking → List ℕ → Checking
checking_for c numbers =
    record { mode = c.mode; unknown_are_holes = c.unknown_are_holes; assertions = chosen c.assertions numbers }
