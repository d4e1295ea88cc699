-- Public. Steps that are added to a proof, by command: what they may be, and how many commands there are with them.
use Rattle.std.specs.Prelude.{◌≡◌, ◌<◌, ◌+◌, ◌-◌, ◌⊎◌, ℕ, suc, List, [], ◌∷◌, length, map, flat_map, slice_get, Some, All, Contains, Vec}
use Rattle.std.specs.declared.alloc.Global.{Global}
use Rattle.proof_store.specs.declared.added.Link.{Link}
use Rattle.proof_store.specs.AddedSteps.{AddedStep}
use Rattle.rule_model.specs.declared.rules.Rule.{Rule}
use Rattle.rule_model.specs.Commands.{IndexedCommand, assume, step, closing, Line, lines_in}
use Rattle.rule_model.specs.Proofs.{ProofItems, no_items}
use Rattle.rule_model.specs.Reading.{clause_of}
use Rattle.rule_model.specs.RuleNames.{kind_of, IsJudged}
use Rattle.rule_model.specs.Scopes.{Nesting, outermost, inside, Scope, at, commands_in}
use Rattle.rule_model.specs.Visibility.{visible}

-- the steps that are added for each command, which are handed in by pieces
abbrev pub blocks_of : List (Vec (Vec AddedStep Global) Global) → List (List AddedStep)
blocks_of pieces = flat_map (λ piece. map (λ (block : Vec AddedStep Global). block.items) piece.items) pieces

-- Where a command belongs, as far as that scope is written before it. A closing step belongs to the scope around, which is
-- written up to the anchor.
abbrev pub outside : {V T : Type 0} → Nesting V T → Scope V T
outside outermost = at outermost no_items
outside (inside around before anchor) = at around before

abbrev pub standing : {V T : Type 0} → Line V T → IndexedCommand T → Scope V T
standing line (assume id t) = line.scope
standing line (step s) = line.scope
standing line (closing s) = outside line.scope.nesting

-- A link names a command that is visible there, or one of the steps of its block before it.
abbrev pub IsLink : List ℕ → ℕ → Link → Type 0
IsLink seen number (Link.Old command) = Contains seen command
IsLink seen number (Link.New other) = other < number

-- A step by a rule that has a condition; only resolution has pivots.
pub record IsAddedStep (scope : Scope ℕ ℕ) (number : ℕ) (a : AddedStep) : Type 0 where
  pub judged : IsJudged (kind_of a.rule)
  pub pivots : ((a.rule ≡ Rule.Resolution) ⊎ (a.rule ≡ Rule.ThResolution)) ⊎ (a.pivots ≡ [])
  pub links : All (IsLink (visible scope.nesting scope.items) number) a.premises

-- In the outermost scope an assume may be added.
pub record IsAddedAssume (scope : Scope ℕ ℕ) (a : AddedStep) : Type 0 where
  pub rule : a.rule ≡ Rule.Assume
  pub outer : scope.nesting ≡ outermost
  pub term : ℕ
  pub clause : a.clause ≡ term ∷ []
  pub premises : a.premises ≡ []
  pub pivots : a.pivots ≡ []

abbrev pub MayBeAdded : Scope ℕ ℕ → ℕ → AddedStep → Type 0
MayBeAdded scope number a = IsAddedStep scope number a ⊎ IsAddedAssume scope a

-- Steps may be put in the place of an assume of the outermost scope, and of a step by a rule that has a condition.
abbrev pub MayBeReplaced : Nesting ℕ ℕ → IndexedCommand ℕ → Type 0
MayBeReplaced nesting (assume id t) = nesting ≡ outermost
MayBeReplaced nesting (step s) = IsJudged (kind_of s.rule)
MayBeReplaced nesting (closing s) = IsJudged (kind_of s.rule)

-- The steps may be added for a command: the last one takes its place, and has its clause.
pub record IsBlockOf (line : Line ℕ ℕ) (block : List AddedStep) : Type 0 where
  pub replaced : MayBeReplaced line.scope.nesting line.command
  pub each : (k : ℕ) (a : AddedStep) → slice_get block k ≡ Some a → MayBeAdded (standing line line.command) k a
  pub last : AddedStep
  pub is_last : slice_get block (length block - 1) ≡ Some last
  pub judged : IsJudged (kind_of last.rule)
  pub clause : last.clause ≡ clause_of line.command

-- for each command there are such steps, or none
pub record AreBlocksOf (proof : ProofItems ℕ ℕ) (blocks : List (List AddedStep)) : Type 0 where
  pub count : length blocks ≡ commands_in proof
  pub each : (i : ℕ) (line : Line ℕ ℕ) (block : List AddedStep) →
      slice_get (lines_in outermost proof) i ≡ Some line → slice_get blocks i ≡ Some block →
      (block ≡ []) ⊎ IsBlockOf line block

-- how many commands there are with them: where none is added, the command itself
abbrev pub commands_for : List AddedStep → ℕ
commands_for [] = 1
commands_for (a ∷ block) = suc (length block)

abbrev pub commands_needed : List (List AddedStep) → ℕ
commands_needed [] = 0
commands_needed (block ∷ blocks) = commands_for block + commands_needed blocks
