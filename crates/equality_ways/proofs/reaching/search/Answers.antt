use Rattle.std.proofs.Common.{length, arith}
use Rattle.equality_ways.proofs.ReachLemmas.{searched_none, searched_next, get_at, closed_all, ordered_later}
use Rattle.equality_ways.proofs.reaching.search.Goals as goal

pub reached-init : goal.reached-init
reached-init c = searched_none c.args.entries.now c.args.start _ _ (c.in_ok-reached.ensures.reached c.args.entries.now) c.in_ok-reached.ensures.ordered

pub follow-requires-clause-at : goal.follow-requires-clause-at
follow-requires-clause-at c =
    let len = c.len.ensures.len in
    let test = c.reached-test.true in
    get_at c.reached.reached.keys.keys c.reached.at c.key_at-from.result (omega arith) c.key_at-from.ensures.is

pub follow-requires-clause-from : goal.follow-requires-clause-from
follow-requires-clause-from c =
    let len = c.len.ensures.len in
    let test = c.reached-test.true in
    c.reached.invariant.reached.small c.reached.at c.key_at-from.result (get_at c.reached.reached.keys.keys c.reached.at c.key_at-from.result (omega arith) c.key_at-from.ensures.is)

pub reached-preserved : goal.reached-preserved
reached-preserved c =
    let len = c.len.ensures.len in
    let test = c.reached-test.true in
    searched_next c.args.entries.now c.args.start c.reached.at c.key_at-from.result c.reached.reached.keys.keys c.follow.new.reached.keys.keys
    c.reached.reached.steps.items c.follow.new.reached.steps.items
    (get_at c.reached.reached.keys.keys c.reached.at c.key_at-from.result (omega arith) c.key_at-from.ensures.is) c.reached.invariant c.in_ok-follow.ensures

pub returns-clause-reached : goal.returns-clause-reached
returns-clause-reached c = c.reached.invariant.reached

pub returns-clause-ordered : goal.returns-clause-ordered
returns-clause-ordered c =
    ordered_later c.reached.reached.steps.items c.reached.at (length c.reached.reached.keys.keys) c.reached.invariant.within c.reached.invariant.ordered

pub returns-clause-closed : goal.returns-clause-closed
returns-clause-closed c =
    let len = c.len.ensures.len in
    let test = c.reached-test.false in
    closed_all c.args.entries.now c.args.start c.reached.at c.reached.reached.keys.keys c.reached.reached.steps.items (omega arith) c.reached.invariant
