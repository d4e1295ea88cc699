use Rattle.contexts.specs.Becoming.{look_of}
use Rattle.contexts.proofs.FrameLemmas.{back_last, back_less}
use Rattle.contexts.proofs.frames.put_all_back.Goals as goal

pub put_back-requires : goal.put_back-requires
put_back-requires c r is =
    back_last c.pop.new.self.items (c.in-Some.leaf, c.in-Some.old) (look_of c.entries.images) c.requires.before
    (rw c.in-Some.ensures.items at (c.entries.invariant c.requires.before c.requires.back)) r is

pub entries-preserved : goal.entries-preserved
entries-preserved c outer h =
    back_less c.pop.new.self.items (c.in-Some.leaf, c.in-Some.old) (look_of c.entries.images) (look_of c.put_back.new.images) outer
    (rw c.in-Some.ensures.items at (c.entries.invariant outer h)) c.put_back.ensures.here c.put_back.ensures.others
