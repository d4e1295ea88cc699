use Rattle.std.proofs.Common.{[], ⊎_elim, arith}
use Rattle.clause_chain.specs.Chaining.{clauses_of}
use Rattle.rules_resolution.proofs.Progresses.{progress_at_start, progress_popped, popped_in_range, ready_advances, nothing_more, trail_here, last_of_none}
use Rattle.rules_resolution.proofs.follow.propagate.Goals as goal

pub contradicts-requires-clause-marks : goal.contradicts-requires-clause-marks
contradicts-requires-clause-marks c =
    let state = c.in_ok-falsify_all.ensures.falsifies (clauses_of c.args.premises.now) c.args.goal.now [] (record { is_table = c.requires.table; marked = c.requires.marks; tallied = c.requires.tallied }) in
    rw c.as_slice.ensures.value state.marked

pub loop-premise-init : goal.loop-premise-init
loop-premise-init c =
    let state = c.in_ok-falsify_all.ensures.falsifies (clauses_of c.args.premises.now) c.args.goal.now [] (record { is_table = c.requires.table; marked = c.requires.marks; tallied = c.requires.tallied }) in
    rw c.new-units.ensures.items
    (progress_at_start (clauses_of c.args.premises.now) c.args.goal.now c.args.table.now _ _ _ state c.if-contradicts.ensures
    (ready_advances _ _ _ _ c.requires.ready c.in_ok-falsify_all.ensures.advances))

pub look_at-requires-clause-progress : goal.look_at-requires-clause-progress
look_at-requires-clause-progress c =
    (c.args.goal.now, progress_popped _ _ _ _ _ _ _ _ c.in-Some.premise c.in-Some.ensures.items c.loop-premise.invariant)

pub look_at-requires-clause-place : goal.look_at-requires-clause-place
look_at-requires-clause-place c = popped_in_range _ _ _ c.in-Some.premise c.in-Some.ensures.items c.loop-premise.invariant.in_range

pub returns-then-branch-clause-shown : goal.returns-then-branch-clause-shown
returns-then-branch-clause-shown c =
    let popped = progress_popped _ _ _ _ _ _ _ _ c.in-Some.premise c.in-Some.ensures.items c.loop-premise.invariant in
    let looks = rw c.if-branch.true at c.in_ok-look_at.ensures.looks in (
      c.if-contradicts.ensures,
      rw looks.0 (trail_here (clauses_of c.args.premises.now) c.args.goal.now c.loop-premise.units.items c.in-Some.premise c.loop-premise.invariant.leads_on (looks.1 c.args.goal.now popped)),
    )

pub loop-premise-preserved : goal.loop-premise-preserved
loop-premise-preserved c =
    let popped = progress_popped _ _ _ _ _ _ _ _ c.in-Some.premise c.in-Some.ensures.items c.loop-premise.invariant in
    let looks = rw c.if-branch.false at c.in_ok-look_at.ensures.looks in
    looks c.args.goal.now popped

pub returns-clause-none : goal.returns-clause-none
returns-clause-none c follows =
    let none = last_of_none c.pop.result _ _ c.pop.ensures.cases c.in_default.not-Some in
    ⊎_elim c.if-contradicts.ensures
    (λ leads. nothing_more _ _ _ _ _ _ _ c.loop-premise.invariant (let n = none.0 in omega arith) leads.0 leads.1 leads.2) follows
