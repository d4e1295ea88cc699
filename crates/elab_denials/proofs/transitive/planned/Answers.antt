use Rattle.elab_denials.proofs.ConnectLemmas.{connected_ends, plan_made}
use Rattle.elab_denials.proofs.transitive.planned.Goals as goal

pub shortest-requires-clause-connected : goal.shortest-requires-clause-connected
shortest-requires-clause-connected c =
    let p = c.args.at.now in
    let v = c.args.terms.now in
    let sides = c.in_ok-sides.sides.items in
    rw c.deref-2.ensures.value (connected_ends p v c.connections_are_of_terms.ensures sides c.equated-ends.result
    (rw c.in_ok-sides.ensures.same at c.equated-ends.ensures.ends) c.in_ok-sides.ensures.sides c.in_ok-sides.ensures.given).connected

pub returns-clause-plan : goal.returns-clause-plan
returns-clause-plan c =
    let p = c.args.at.now in
    let v = c.args.terms.now in
    let sides = c.in_ok-sides.sides.items in
    plan_made p v c.requires.job sides _ (rw c.deref.ensures.value at c.in_ok-table.ensures.table) (rw c.deref-2.ensures.value at c.in_ok-trail.ensures.trail)
    (connected_ends p v c.connections_are_of_terms.ensures sides c.equated-ends.result (rw c.in_ok-sides.ensures.same at c.equated-ends.ensures.ends)
    c.in_ok-sides.ensures.sides c.in_ok-sides.ensures.given) c.in_ok-sides.ensures.sides (rw c.deref-2.ensures.value at c.in_ok-trail.ensures.short)
