use Rattle.elab_denials.proofs.MatchLemmas.{linked_told}
use Rattle.elab_denials.proofs.matching.is_linked.Goals as goal

pub returns-in_ok-equal-in-None-clause-linked : goal.returns-in_ok-equal-in-None-clause-linked
returns-in_ok-equal-in-None-clause-linked c sides table =
    linked_told c.args.at.now c.args.terms.now sides c.args.a c.args.b c.in_ok-equal-in-None.equal c.requires.left c.requires.right
    (c.in-None.ensures.none sides table) c.in_ok-equal-in-None.ensures.same
