use Rattle.std.proofs.Common.{◌∙◌}
use Rattle.equality_blocks.specs.Commands.{rule_of_command}
use Rattle.elab_equality.proofs.RuleLemmas.{else_cong}
use Rattle.elab_equality.proofs.replacing.block_for.Goals as goal

pub cong-requires-clause-rule : goal.cong-requires-clause-rule
cong-requires-clause-rule c =
    else_cong (rule_of_command c.args.at.now) c.requires.rule (λ e. c.in_default.not-Assume (c.rule.ensures ∙ e)) (λ e. c.in_default.not-Refl (c.rule.ensures ∙ e))
    (λ e. c.in_default.not-Trans (c.rule.ensures ∙ e)) c.requires.other
