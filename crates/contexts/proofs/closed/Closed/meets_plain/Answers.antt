use Rattle.std.proofs.Common.{refl}
use Rattle.contexts.specs.Becoming.{look_of}
use Rattle.contexts.proofs.ClosedLemmas.{plain_added}
use Rattle.contexts.proofs.closed.Closed.meets_plain.Goals as goal

pub returns-clause-kept : goal.returns-clause-kept
returns-clause-kept c pass h =
    plain_added pass (look_of c.args.images.now) c.args.self.now (record { plain = c.make_plain.new.plain; marks = c.args.self.now.marks }) c.args.leaf refl c.make_plain.ensures.here c.make_plain.ensures.others
    (c.is_replaced.ensures c.if-is_replaced.false) h
