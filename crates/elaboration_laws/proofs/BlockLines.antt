-- The steps that are added for a command, by the line of the command.
use Rattle.std.proofs.Common.{◌≡◌, ◌-◌, ◌⊎◌, inl, inr, ℕ, List, [], length, slice_get, Some, sym, ◌∙◌, subst, arith}
use Rattle.std.proofs.lemmas.Option.{slice_get_within}
use Rattle.term_model.proofs.Basics.{same_some}
use Rattle.term_model.proofs.Lists.{nth_there}
use Rattle.proof_store.specs.AddedSteps.{AddedStep}
use Rattle.rule_model.specs.Commands.{Line, lines_in}
use Rattle.rule_model.specs.Proofs.{ProofItems}
use Rattle.rule_model.specs.RuleNames.{kind_of, IsJudged}
use Rattle.rule_model.specs.Scopes.{outermost}
use Rattle.rule_model.proofs.Numbers.{lines_in_count}
use Rattle.elaborator.specs.Blocks.{IsBlockOf, AreBlocksOf}

module _ (refs : ProofItems ℕ ℕ) (blocks : List (List AddedStep)) (blocks_are : AreBlocksOf refs blocks) where
  pub line_there : (i : ℕ) (block : List AddedStep) → slice_get blocks i ≡ Some block → (l : Line ℕ ℕ) × (slice_get (lines_in outermost refs) i ≡ Some l)
  line_there i block e =
      let less = slice_get_within blocks i block e in
      let count = blocks_are.count in
      let lines = lines_in_count outermost refs in
      nth_there (lines_in outermost refs) i (omega arith)

  pub block_is : (i : ℕ) (block : List AddedStep) (number : ℕ) (a : AddedStep) → (l : Line ℕ ℕ) → slice_get (lines_in outermost refs) i ≡ Some l → slice_get blocks i ≡ Some block
      → slice_get block number ≡ Some a → IsBlockOf l block
  block_is i block number a l there e at = go (blocks_are.each i l block there e)
    where
      nothing : (n : ℕ) → slice_get [] n ≡ Some a → ⊥
      nothing n e = cc

      go : (block ≡ []) ⊎ IsBlockOf l block → IsBlockOf l block
      go (inl none) = absurd (nothing number (subst (λ b. slice_get b number ≡ Some a) none at))
      go (inr b) = b

  -- the last step of a block has a rule with a condition
  pub last_judged : (i : ℕ) (block : List AddedStep) (a : AddedStep) → slice_get blocks i ≡ Some block → slice_get block (length block - 1) ≡ Some a → IsJudged (kind_of a.rule)
  last_judged i block a e at =
      let l = line_there i block e in
      let b = block_is i block (length block - 1) a l.0 l.1 e at in
      subst (λ (x : AddedStep). IsJudged (kind_of x.rule)) (same_some (sym b.is_last ∙ at)) b.judged
