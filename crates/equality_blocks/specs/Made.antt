-- Public. The terms that are made to elaborate a command.
use Rattle.std.specs.Prelude.{◌≡◌, ◌⊎◌, ℕ, Bool, List, slice_get, Some, Contains}
use Rattle.term_model.specs.Flips.{equality}
use Rattle.term_model.specs.Terms.{Var, Term, not_of}
use Rattle.term_pool.specs.Views.{TermsView, RefersTo}
use Rattle.proof_contexts.specs.OpenAnchors.{IsAnchorImage}
use Rattle.proof_store.specs.AddedSteps.{AddedStep}
use Rattle.proof_store.specs.Meaning.{StandForItems}
use Rattle.rule_model.specs.declared.rules.Rule.{Rule}
use Rattle.rule_model.specs.Proofs.{ProofItems}
use Rattle.equality_steps.specs.declared.site.Site.{Site}
use Rattle.flip_steps.specs.Stages.{IsMadeFrom}
use Rattle.equality_blocks.specs.Commands.{IsLiteralOfCommand, rule_of_command}
use Rattle.equality_blocks.specs.Counts.{IsRootOf}
use Rattle.equality_blocks.specs.Pairs.{ArePaired}

-- x is one of two terms, an equality of them, or says that the order of its sides does not matter
pub data IsMadeForPair (t u : Term) : Term → Type 0 where
  left : IsMadeForPair t u t
  right : IsMadeForPair t u u
  equated : IsMadeForPair t u (equality t u)
  turned : IsMadeForPair t u (equality u t)
  exchanged : IsMadeForPair t u (equality (equality t u) (equality u t))

-- x is so made for a pair of the command, is a literal of it or of a premise's clause, or is what `flip_steps` makes of what stands in
-- a term of the command
pub data IsStatedFor (p : Site) (v : TermsView) : Term → Type 0 where
  paired : (t u x : Term) → ArePaired p v t u → IsMadeForPair t u x → IsStatedFor p v x
  literal : (x : Term) → IsLiteralOfCommand p v x → IsStatedFor p v x
  formed : (root : ℕ) (x : Term) → IsRootOf p v root → IsMadeFrom p.symbols.now v root x → IsStatedFor p v x

-- so is x; or it denies one of two terms that are paired, or that they are equal
pub data IsMadeFor (p : Site) (v : TermsView) : Term → Type 0 where
  stated : (x : Term) → IsStatedFor p v x → IsMadeFor p v x
  denied : (t u : Term) → ArePaired p v t u → IsMadeFor p v (not_of t)
  apart : (t u : Term) → ArePaired p v t u → IsMadeFor p v (not_of (equality t u))

-- the image of a variable that an anchor binds, which a refl may put in
pub record IsImageFor (p : Site) (v : TermsView) (t : Term) : Type 0 where
  pub rule : rule_of_command p ≡ Rule.Refl
  pub proof : ProofItems Var Term
  pub stand : StandForItems p.symbols.now v p.proof.now proof
  pub image : IsAnchorImage proof t

-- the terms of which cells may be placed
abbrev pub IsPlacedFor : Site → TermsView → Term → Type 0
IsPlacedFor p v t = IsMadeFor p v t ⊎ IsImageFor p v t

-- the reference stands for a term that is made for the command
pub record StandsForMade (p : Site) (v : TermsView) (r : ℕ) : Type 0 where
  pub term : Term
  pub refers : RefersTo p.symbols.now v r term
  pub made : IsMadeFor p v term

-- the literals and pivots of the step are, and of each step of a block
pub record IsMadeStep (p : Site) (v : TermsView) (a : AddedStep) : Type 0 where
  pub literals : (r : ℕ) → Contains a.clause r → StandsForMade p v r
  pub pivots : (q : ℕ × Bool) → Contains a.pivots q → StandsForMade p v q.0

abbrev pub AreMadeSteps : Site → TermsView → List AddedStep → Type 0
AreMadeSteps p v steps = (number : ℕ) (a : AddedStep) → slice_get steps number ≡ Some a → IsMadeStep p v a
