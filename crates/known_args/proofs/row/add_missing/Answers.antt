use Rattle.std.proofs.Common.{refl}
use Rattle.known_args.proofs.TableLemmas.{item_there, item_missing}
use Rattle.known_args.proofs.row.add_missing.Goals as goal

pub returns-then-is_among : goal.returns-then-is_among
returns-then-is_among c =
    let among = rw c.deref.ensures.value at c.is_among.ensures in
    item_there c.args.list.now.items _ c.args.r (among.0 c.if-is_among.true) refl

pub returns : goal.returns
returns c =
    let among = rw c.deref.ensures.value at c.is_among.ensures in
    item_missing c.args.list.now.items _ c.args.r (λ there. absurd (let e = among.1 there in let f = c.if-is_among.false in cc)) c.in_ok-push.ensures.items
