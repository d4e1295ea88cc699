use Rattle.std.proofs.Common.{vec_len}
use Rattle.contexts.specs.Becoming.{Look, look_of}
use Rattle.contexts.specs.Frames.{PutsBack}
use Rattle.contexts.proofs.frames.put_all_back.Given as goal

abbrev pub invariant-entries : goal.invariant-entries
invariant-entries l = (outer : Look) → PutsBack l.fn.before.items (look_of l.fn.images) outer → PutsBack l.before.items (look_of l.images) outer

abbrev pub decreases-entries : goal.decreases-entries
decreases-entries l = vec_len l.before
