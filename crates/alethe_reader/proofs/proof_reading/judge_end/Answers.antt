-- What stands behind the commands, then an anchor that is open.
use Rattle.std.proofs.Common.{◌∙◌, sym, ap, slice_get}
use Rattle.alethe_reader.proofs.ReadProofs.{first_there, none_there, item_behind, anchor_open}
use Rattle.alethe_reader.proofs.proof_reading.judge_end.Goals as goal

pub returns-in-Some : goal.returns-in-Some
returns-in-Some c s v settings p behind here session =
    rw c.refused.ensures (item_behind s v settings c.args.session.now p behind session c.in-Some.place (c.in-Some.ensures behind here))

pub returns-in-Some-first : goal.returns-in-Some-first
returns-in-Some-first c s v settings p behind here session =
    let (others, is) = first_there c.args.session.now.anchors.items c.in-Some-first.outermost.now (sym (c.in-Some-first.ensures.value ∙ ap (λ xs. slice_get xs 0) c.deref.ensures.value)) in
    rw c.refused-in-Some-first.ensures (anchor_open s v settings c.args.session.now p behind session (c.in_default.ensures behind here) c.in-Some-first.outermost.now others is)

pub returns : goal.returns
returns c s v settings p behind here session =
    (sym (c.in_default.ensures behind here), none_there c.args.session.now.anchors.items (sym (c.in_default-first.ensures.value ∙ ap (λ xs. slice_get xs 0) c.deref.ensures.value)))
