-- Public. The status of each command of a proof, and what the statuses come to. Each command has one status, and the first
-- in file order that is faulty or too wide decides.
use Rattle.std.specs.Prelude.{◌≡◌, ◌<◌, ℕ, Bool, List, [], slice_get, length, Some, All, Any, Contains, if◌then◌else◌, ⊤}
use Rattle.term_model.specs.Flips.{EqualUpToFlips}
use Rattle.term_model.specs.Terms.{Var, Term}
use Rattle.rule_model.specs.declared.kinds.Kind.{Kind}
use Rattle.rule_model.specs.declared.rules.Mode.{Mode}
use Rattle.rule_model.specs.declared.rules.Rule.{Rule}
use Rattle.rule_model.specs.declared.rules.StepCause.{StepCause}
use Rattle.rule_model.specs.declared.statuses.Status.{Status}
use Rattle.rule_model.specs.declared.statuses.Verdict.{Verdict}
use Rattle.rule_model.specs.Conditions.{IsMetAt, IsTooWideAt}
use Rattle.rule_model.specs.Proofs.{ProofItems}
use Rattle.rule_model.specs.Reading.{rule_at, clause_at, scope_at}
use Rattle.rule_model.specs.RuleNames.{kind_of}
use Rattle.rule_model.specs.Scopes.{commands_in}

-- by what a proof is checked: the column of the conditions, whether a step of an unknown rule counts as a hole, and the
-- assertions of the problem
pub record Checking : Type 0 where
  pub mode : Mode
  pub unknown_are_holes : Bool
  pub assertions : List Term

-- the term is an assertion, up to flips in check mode
abbrev pub IsAsserted : Mode → List Term → Term → Type 0
IsAsserted Mode.Check assertions t = Any (λ a. EqualUpToFlips a t) assertions
IsAsserted Mode.Strict assertions t = Contains assertions t

-- the command at an index may assume its term: what the outermost scope assumes is asserted
abbrev pub MayAssume : Checking → ProofItems Var Term → ℕ → Type 0
MayAssume c proof i = scope_at proof i ≡ 0 → All (IsAsserted c.mode c.assertions) (clause_at proof i)

-- an unknown rule leaves a hole where it is asked so
abbrev pub kind_under : Bool → Kind → Kind
kind_under ignored Kind.Unknown = if ignored then Kind.Hole else Kind.Unknown
kind_under ignored kind = kind

-- how the command of a rule is judged
abbrev pub kind_of_rule : Checking → Rule → Kind
kind_of_rule c rule = kind_under c.unknown_are_holes (kind_of rule)

-- the statuses that a command of each kind may have
abbrev pub IsStatusBy : Kind → Checking → ProofItems Var Term → ℕ → Status → Type 0
IsStatusBy Kind.Assumed c proof i Status.Ok = MayAssume c proof i
IsStatusBy Kind.Assumed c proof i (Status.Faulty StepCause.NotAsserted) = ¬ MayAssume c proof i
IsStatusBy Kind.Hole c proof i Status.Hole = ⊤
IsStatusBy Kind.Unknown c proof i (Status.Faulty StepCause.UnknownRule) = ⊤
IsStatusBy (Kind.Judged family) c proof i Status.Ok = (¬ IsTooWideAt c.mode proof i) × IsMetAt c.mode proof i
IsStatusBy (Kind.Judged family) c proof i (Status.Faulty StepCause.NotMet) = (¬ IsTooWideAt c.mode proof i) × (¬ IsMetAt c.mode proof i)
IsStatusBy (Kind.Judged family) c proof i Status.Wide = IsTooWideAt c.mode proof i
IsStatusBy kind c proof i status = ⊥

-- the status of the command at an index
abbrev pub IsStatusAt : Checking → ProofItems Var Term → ℕ → Status → Type 0
IsStatusAt c proof i status = IsStatusBy (kind_of_rule c (rule_at proof i)) c proof i status

-- these are the statuses of the commands, in file order
pub record AreStatuses (c : Checking) (proof : ProofItems Var Term) (statuses : List Status) : Type 0 where
  pub count : length statuses ≡ commands_in proof
  pub each : (i : ℕ) (status : Status) → slice_get statuses i ≡ Some status → IsStatusAt c proof i status

-- Ok and holes let a check go on
abbrev pub Passes : Status → Type 0
Passes Status.Ok = ⊤
Passes Status.Hole = ⊤
Passes status = ⊥

-- the command at this index has this status, and all before it let the check go on
pub record IsFirstAt (statuses : List Status) (i : ℕ) (status : Status) : Type 0 where
  pub before : (k : ℕ) (s : Status) → k < i → slice_get statuses k ≡ Some s → Passes s
  pub here : slice_get statuses i ≡ Some status

-- some step of the outermost scope has the empty clause
pub record ReachesEmpty {V T : Type 0} (proof : ProofItems V T) : Type 0 where
  pub index : ℕ
  pub within : index < commands_in proof
  pub scope : scope_at proof index ≡ 0
  pub empty : clause_at proof index ≡ []

-- what the statuses come to
abbrev pub IsVerdict : {V T : Type 0} → List Status → ProofItems V T → Verdict → Type 0
IsVerdict statuses proof (Verdict.InvalidAt i cause) = IsFirstAt statuses i (Status.Faulty cause)
IsVerdict statuses proof (Verdict.Unknown i) = IsFirstAt statuses i Status.Wide
IsVerdict statuses proof Verdict.NoEmpty = All Passes statuses × (¬ ReachesEmpty proof)
IsVerdict statuses proof Verdict.Holey = All Passes statuses × Contains statuses Status.Hole × ReachesEmpty proof
IsVerdict statuses proof Verdict.Valid = All (λ s. s ≡ Status.Ok) statuses × ReachesEmpty proof
