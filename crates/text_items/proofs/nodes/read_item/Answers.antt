-- By the open lists and the items still to come in them.
use Rattle.std.proofs.Common.{◌≡◌, ◌∙◌, ◌+◌, [], length, sym, subst, ap, arith}
use Rattle.text_items.specs.Adding.{placed, pushed, IsAdded}
use Rattle.text_items.proofs.ItemsRead.{first_opens, so_far_first, next_comes, so_far_next, item_there, rest_there}
use Rattle.text_items.proofs.Placing.{placed_added, closed_added, not_placed}
use Rattle.text_items.proofs.nodes.read_item.Goals as goal

pub unreachable-requires : goal.unreachable-requires
unreachable-requires c = absurd (first_opens c.args.lexer.now c.args.first c.requires.item (not_placed c.args.first.kind 0 1 (sym c.placed.ensures ∙ c.in_default.is)))

pub loop-inner-init : goal.loop-inner-init
loop-inner-init c =
    so_far_first c.args.lexer.now c.args.first c.requires.item c.push.new.self.items c.in-Some.after c.requires.behind c.requires.some c.requires.within
    (subst (λ nodes. IsAdded [] 0 c.args.first c.args.first.kind nodes c.in-Some.after)
    (ap (λ nodes. pushed nodes c.args.first c.in-Some.next) (sym c.clear.ensures.items) ∙ sym c.in_ok-push.ensures.items)
    (placed_added [] 0 c.args.first c.args.first.kind c.in-Some.next c.in-Some.after (sym c.placed.ensures ∙ c.in-Some.is)))

pub unreachable-requires-in_default-next : goal.unreachable-requires-in_default-next
unreachable-requires-in_default-next c =
    let n = next_comes c.args.lexer.now c.args.first c.requires.item c.loop-inner.reading c.loop-inner.nodes.items c.loop-inner.inner c.loop-inner.invariant
    c.next.result c.loop-inner-test.true c.next.ensures.exact in
    cc (n.1, c.in_default-next.is)

pub unreachable-requires-in_default-found : goal.unreachable-requires-in_default-found
unreachable-requires-in_default-found c =
    let n = next_comes c.args.lexer.now c.args.first c.requires.item c.loop-inner.reading c.loop-inner.nodes.items c.loop-inner.inner c.loop-inner.invariant
    c.next.result c.loop-inner-test.true c.next.ensures.exact in
    cc (n.1, c.in-Ok.is, c.in_default-found.is)

pub loop-inner-preserved-in-Some-placed : goal.loop-inner-preserved-in-Some-placed
loop-inner-preserved-in-Some-placed c =
    let here : length c.loop-inner.nodes.items ≡ c.len.result = omega (arith, c.len.ensures) in
    let read = rw c.in-Some-found.is at c.in-Ok.ensures in
    so_far_next c.args.lexer.now c.args.first c.requires.item c.loop-inner.reading c.loop-inner.nodes.items c.loop-inner.inner c.loop-inner.invariant
    c.in-Some-found.token c.next.new.self c.push-in-Some-placed.new.self.items c.in-Some-placed.after c.loop-inner-test.true
    read.exact read.progress read.source read.position
    (subst (λ nodes. IsAdded c.loop-inner.nodes.items c.loop-inner.inner c.in-Some-found.token c.in-Some-found.token.kind nodes c.in-Some-placed.after)
    (sym c.in_ok-push-2.ensures.items)
    (placed_added c.loop-inner.nodes.items c.loop-inner.inner c.in-Some-found.token c.in-Some-found.token.kind c.in-Some-placed.next c.in-Some-placed.after (ap (λ n. placed c.in-Some-found.token.kind c.loop-inner.inner (n + 1)) here ∙ sym c.placed-in-loop-inner.ensures ∙ c.in-Some-placed.is)))

pub loop-inner-preserved : goal.loop-inner-preserved
loop-inner-preserved c =
    let read = rw c.in-Some-found.is at c.in-Ok.ensures in
    so_far_next c.args.lexer.now c.args.first c.requires.item c.loop-inner.reading c.loop-inner.nodes.items c.loop-inner.inner c.loop-inner.invariant
    c.in-Some-found.token c.next.new.self c.close-inner.new.nodes.items c.close-inner.result c.loop-inner-test.true
    read.exact read.progress read.source read.position
    (closed_added c.loop-inner.nodes.items c.loop-inner.inner c.in-Some-found.token c.in-Some-found.token.kind _ c.close-inner.result c.close-inner.new.nodes.items (sym c.placed-in-loop-inner.ensures ∙ c.in_default-placed.is) c.close-inner.ensures)

pub returns-clause-item : goal.returns-clause-item
returns-clause-item c =
    item_there c.args.lexer.now c.args.first c.requires.item c.loop-inner.reading c.loop-inner.nodes.items c.loop-inner.inner c.loop-inner.invariant c.loop-inner-test.false

pub returns-clause-behind : goal.returns-clause-behind
returns-clause-behind c =
    rest_there c.args.lexer.now c.args.first c.requires.item c.loop-inner.reading c.loop-inner.nodes.items c.loop-inner.inner c.loop-inner.invariant c.loop-inner-test.false
