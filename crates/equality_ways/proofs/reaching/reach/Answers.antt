use Rattle.equality_ways.proofs.ReachLemmas.{reach_old}
use Rattle.equality_ways.proofs.reaching.reach.Goals as goal

pub returns-else-branch : goal.returns-else-branch
returns-else-branch c =
    reach_old c.args.reached.now.keys.keys c.insert.new.self.keys c.args.key c.args.step c.args.reached.now.steps.items c.in_ok-insert.field-0
    c.in_ok-insert.ensures.added c.if-branch.false c.in_ok-insert.ensures.keys
