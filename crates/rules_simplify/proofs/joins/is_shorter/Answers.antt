use Rattle.rules_simplify.proofs.JoinLemmas.{told_apart, short_by_first, short_by_second, short_by_third, short_as_it_is}
use Rattle.rules_simplify.proofs.joins.is_shorter.Goals as goal

pub returns-then-stands_as : goal.returns-then-stands_as
returns-then-stands_as c =
    short_by_second c.args.neutral c.args.arguments.now.1 c.args.side.now c.in_ok-single.single.items c.in_ok-single.ensures
    ((rw c.deref.ensures.value at c.stands_as.ensures).0 c.if-stands_as.true)

pub returns-then-not-has : goal.returns-then-not-has
returns-then-not-has c =
    short_as_it_is c.args.neutral c.args.arguments.now.1 c.args.side.now c.in_ok-single.single.items c.in_ok-single.ensures
    (λ there. told_apart _ (c.has.ensures.1 there) c.if-not-has.true)
    (λ stands. told_apart _ ((rw c.deref.ensures.value at c.stands_as.ensures).1 stands) c.if-stands_as.false)
    c.stands_as-then-not-has.result (rw c.items.ensures at c.stands_as-then-not-has.ensures)

pub returns-then-stands_as-2 : goal.returns-then-stands_as-2
returns-then-stands_as-2 c =
    short_by_first c.args.neutral c.args.arguments.now.1 c.args.side.now c.in_ok-single.single.items c.in_ok-single.ensures
    c.in_ok-shorter.shorter.items (rw c.items-2.ensures at c.in_ok-shorter.ensures)
    ((rw c.deref-2.ensures.value at c.stands_as-2.ensures).0 c.if-stands_as-2.true)

pub returns : goal.returns
returns c =
    short_by_third c.args.neutral c.args.arguments.now.1 c.args.side.now c.in_ok-single.single.items c.in_ok-single.ensures
    c.in_ok-shorter.shorter.items (rw c.items-2.ensures at c.in_ok-shorter.ensures) c.in_ok-both.both.items (rw c.deref-3.ensures.value at c.in_ok-both.ensures) c.stands_as-3.result
    (λ stands. told_apart _ ((rw c.deref-2.ensures.value at c.stands_as-2.ensures).1 stands) c.if-stands_as-2.false)
    (λ stands. told_apart _ ((rw c.deref.ensures.value at c.stands_as.ensures).1 stands) c.if-stands_as.false)
    (rw c.deref-4.ensures.value at c.stands_as-3.ensures)
