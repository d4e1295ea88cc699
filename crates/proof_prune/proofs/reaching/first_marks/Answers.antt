use Rattle.std.proofs.Common.{◌∙◌}
use Rattle.proof_prune.proofs.Stepping.{first_are}
use Rattle.proof_prune.proofs.reaching.first_marks.Goals as goal

pub returns : goal.returns
returns c =
    first_are c.args.proof.now c.args.from c.in_ok-commands.commands.items c.mark.new.marks.items c.in_ok-scopes.scopes.items c.in_ok-scopes.ensures.none c.requires c.in_ok-commands.ensures.none
    c.mark.ensures.more (c.mark.ensures.count ∙ (c.in_ok-commands.ensures.count ∙ c.count.ensures.count))
