use Rattle.std.proofs.Common.{ap, Some, ◌∙◌}
use Rattle.clap.specs.Walk.{Rule, rule_of}
use Rattle.clap.specs.declared.builder.arg.Arg.{Arg}
use Rattle.clap.specs.declared.builder.action.ArgAction.TheVariants.{Set}
use Rattle.command_words.proofs.command_line.valued.Goals as goal

pub returns-clause-rule : goal.returns-clause-rule
returns-clause-rule c =
    ap rule_of (c.action.ensures ∙ ap (λ (a : Arg). record a { action = Some Set }) c.long.ensures)
    ∙ ap (λ (r : Rule). record r {
      long = Some c.args.name.now;
      action = Some Set;
    }) c.new.ensures.rule
