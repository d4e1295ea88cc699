use Rattle.contexts.proofs.KeptFrames.{right_start}
use Rattle.contexts.proofs.kept.Substitution.new.Goals as goal

pub returns-clause-right : goal.returns-clause-right
returns-clause-right c v =
    right_start v _ c.new-4.ensures.empty c.new-5.ensures.items c.new-2.ensures.items c.new-3.ensures.items (λ put f are. c.in_ok-walked.ensures v.pass put f are) (λ put. c.new-6.ensures v.pass put)
