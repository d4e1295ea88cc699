-- Public. What the soundness of a proof over its nesting is stated by.
use Rattle.std.specs.Prelude.{◌≡◌, ◌≤◌, ◌⊎◌, ℕ, None}
use Rattle.term_model.specs.Terms.{Var, Term}
use Rattle.rule_model.specs.declared.statuses.Status.{Status}
use Rattle.rule_model.specs.Proofs.{ProofItems}
use Rattle.rule_model.specs.Reading.{closes_at}
use Rattle.rule_model.specs.Statuses.{Checking, IsStatusAt}
use Rattle.rule_model.specs.Truth.{FollowsAt}

-- The command at an index is Ok, or it closes nothing and its clause is true in its scope wherever its premises' clauses
-- are.
abbrev pub IsJustified : Checking → ProofItems Var Term → ℕ → Type 0
IsJustified c proof i =
    IsStatusAt c proof i Status.Ok ⊎ ((closes_at proof i ≡ None) × FollowsAt c.assertions proof i)

-- so are the commands up to an index
abbrev pub AreJustifiedTo : Checking → ProofItems Var Term → ℕ → Type 0
AreJustifiedTo c proof i = (j : ℕ) → j ≤ i → IsJustified c proof j
