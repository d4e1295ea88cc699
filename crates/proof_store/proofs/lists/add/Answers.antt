-- There are no more items than a number of 32 bits counts.
use Rattle.std.proofs.Common.{◌≡◌, ◌∙◌, ◌+◌, refl, ap, length, arith}
use Rattle.std.proofs.lemmas.List.{length-append}
use Rattle.proof_store.proofs.lists.add.Goals as goal

pub overflow_cast-len : goal.overflow_cast-len
overflow_cast-len g c =
    let few = c.if-are_too_many.ensures refl in
    let before = c.len.ensures in
    let all = c.len-2.ensures in
    let both : length c.extend.new.items.items ≡ length c.args.items.now.items + length c.args.list.now = ap length c.in_ok-extend.ensures.extended ∙ length-append c.args.items.now.items c.args.list.now in
    omega (arith, few, before, all, both)
