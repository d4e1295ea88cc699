use Rattle.std.proofs.Common.{◌<◌, ◌^◌, arith}
use Rattle.contexts.proofs.ClosedLemmas.{closed_more, leaf_closed}
use Rattle.contexts.proofs.closed.Closed.look.Goals as goal

pub returns-then-meets_plain-clause-closed : goal.returns-then-meets_plain-clause-closed
returns-then-meets_plain-clause-closed c same pass h itself =
    let low : c.args.r < 2 ^ 30 = grind arith in
    leaf_closed pass c.meets_plain.new.self c.args.r (rw c.number.ensures.number at (c.meets_plain.ensures.plain c.if-meets_plain.true)) (itself low)

pub returns-then-meets_plain-clause-more : goal.returns-then-meets_plain-clause-more
returns-then-meets_plain-clause-more c pass q h = closed_more pass _ _ c.meets_plain.ensures.more q h

pub returns-else-meets_plain-clause-more : goal.returns-else-meets_plain-clause-more
returns-else-meets_plain-clause-more c pass q h = closed_more pass _ _ c.meets_plain.ensures.more q h
