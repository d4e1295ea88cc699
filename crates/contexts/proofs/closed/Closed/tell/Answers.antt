use Rattle.contexts.proofs.ClosedLemmas.{closed_more}
use Rattle.contexts.proofs.closed.Closed.tell.Goals as goal

pub returns : goal.returns
returns c pass put h closed =
    c.put.ensures pass put (c.make_room.ensures.stays pass put h) (λ is. closed_more pass _ _ c.make_room.ensures.plain _ (closed is))
