use Rattle.std.proofs.Common.{◌≡◌, length, arith}
use Rattle.contexts.proofs.NumberedLists.{pushed_last, pushed_keeps}
use Rattle.contexts.proofs.layers.Layers.number.Goals as goal

pub returns-in_err-insert-clause-keeps : goal.returns-in_err-insert-clause-keeps
returns-in_err-insert-clause-keeps c = pushed_keeps _ _ _ c.in_ok-push.ensures.items

pub returns-clause-list : goal.returns-clause-list
returns-clause-list c =
    let e : c.len-number.result ≡ length c.args.self.now.lists.items = omega arith in
    pushed_last _ _ _ _ c.in_ok-push.ensures.items e

pub returns-clause-keeps : goal.returns-clause-keeps
returns-clause-keeps c = pushed_keeps _ _ _ c.in_ok-push.ensures.items
