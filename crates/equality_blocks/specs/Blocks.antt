-- Public. Steps in the place of a command.
use Rattle.std.specs.Prelude.{◌≡◌, ◌⊎◌, ◌++◌, [], ◌∷◌, ℕ, List, length, map, Some, None, All}
use Rattle.std.specs.List.{AllZip}
use Rattle.term_model.specs.Terms.{Term}
use Rattle.term_pool.specs.Views.{TermsView, ReferToAll}
use Rattle.proof_store.specs.AddedSteps.{AddedStep}
use Rattle.rule_model.specs.declared.rules.Rule.{Rule}
use Rattle.rule_model.specs.Reading.{closes_at}
use Rattle.rule_model.specs.RuleNames.{kind_of, IsJudged}
use Rattle.elaboration_laws.specs.StrictBlocks.{ClosesWith}
use Rattle.elaborator.specs.Sources.{linked_clause}
use Rattle.equality_steps.specs.declared.site.Site.{Site}
use Rattle.equality_steps.specs.Blocks.{IsBlockAt}
use Rattle.equality_steps.specs.Links.{IsLinkAt}
use Rattle.equality_blocks.specs.Commands.{IsToElaborate, clause_of_command}
use Rattle.equality_blocks.specs.Counts.{IsFew}
use Rattle.equality_blocks.specs.Made.{AreMadeSteps}

-- The last step has the clause of the command, and is by a rule that has a condition: it is no assume.
pub record EndsInClause (p : Site) (block : List AddedStep) : Type 0 where
  pub before : List AddedStep
  pub last : AddedStep
  pub is : block ≡ before ++ last ∷ []
  pub judged : IsJudged (kind_of last.rule)
  pub clause : last.clause ≡ clause_of_command p

-- Steps in the place of a command that closes nothing: each is met in strict mode where it stands, their terms are made for the command,
-- there are few of them, and the last one has the clause of the command.
pub record IsBlockFor (p : Site) (v : TermsView) (block : List AddedStep) : Type 0 where
  pub command : IsToElaborate p v
  pub closes_nothing : closes_at p.proof.now p.command ≡ None
  pub steps : IsBlockAt p v block
  pub ends : EndsInClause p block
  pub made : AreMadeSteps p v block
  pub few : IsFew p v (length block)

-- The step closes the scope by the rule let: its clause is that of the command, and its premises link what the let binds to what the
-- anchor binds, as strict mode asks.
pub record IsClosingStep (p : Site) (v : TermsView) (command : IsToElaborate p v) (before : List AddedStep) (a : AddedStep) : Type 0 where
  pub rule : a.rule ≡ Rule.Let
  pub clause : a.clause ≡ clause_of_command p
  pub pivots : a.pivots ≡ []
  pub links : All (IsLinkAt p (length before)) a.premises
  pub premises : List (List Term)
  pub stand : AllZip (ReferToAll p.symbols.now v) (map (linked_clause p.proof.now before) a.premises) premises
  pub scope : ℕ
  pub closes : closes_at p.proof.now p.command ≡ Some scope
  pub closing : ClosesWith Rule.Let premises command.proof p.command scope

-- Steps in the place of a command that closes a scope by the rule let: the last one closes it, and those before it are as above.
pub record IsClosingBlockFor (p : Site) (v : TermsView) (block : List AddedStep) : Type 0 where
  pub command : IsToElaborate p v
  pub before : List AddedStep
  pub last : AddedStep
  pub is : block ≡ before ++ last ∷ []
  pub steps : IsBlockAt p v before
  pub closing : IsClosingStep p v command before last
  pub made : AreMadeSteps p v block
  pub few : IsFew p v (length block)

-- steps in the place of a command, whether it closes a scope or nothing
abbrev pub IsReplacementFor : Site → TermsView → List AddedStep → Type 0
IsReplacementFor p v block = IsBlockFor p v block ⊎ IsClosingBlockFor p v block
