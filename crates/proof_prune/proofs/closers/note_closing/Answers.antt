use Rattle.std.proofs.Common.{sym, ◌∙◌}
use Rattle.proof_prune.proofs.ClosedOnce.{ok_noted, closers_same}
use Rattle.proof_prune.proofs.closers.note_closing.Goals as goal

pub returns-in-Some : goal.returns-in-Some
returns-in-Some c =
    ok_noted c.args.proof.now c.args.i c.in-Some.scope c.args.closers.now.items c.note.new.list.items c.note.result c.requires.before (sym c.closes.ensures ∙ c.in-Some.is)
    c.note.ensures.there c.note.ensures.others

pub returns-in-None : goal.returns-in-None
returns-in-None c = closers_same c.args.proof.now c.args.i c.args.closers.now.items c.requires.before (sym c.closes.ensures ∙ c.in-None.is)
