use Rattle.std.proofs.Common.{◌≤◌, ◌+◌, ◌*◌, length, arith}
use Rattle.elab_denials.proofs.Results.{handed_on}
use Rattle.elab_denials.proofs.WalkLemmas.{plan_repairable, plan_way}
use Rattle.elab_denials.proofs.WorkLemmas.{done_then, went_then}
use Rattle.elab_denials.proofs.transitive.derived.Goals as goal

pub stated-requires-clause-way : goal.stated-requires-clause-way
stated-requires-clause-way c = plan_way c.args.at.now c.args.terms.now c.args.plan.now c.requires.plan

pub repaired-requires-clause-work : goal.repaired-requires-clause-work
repaired-requires-clause-work c = c.in_ok-link.ensures.done.work

pub repaired-requires-clause-owing : goal.repaired-requires-clause-owing
repaired-requires-clause-owing c = rw c.deref.ensures.value c.in_ok-link.ensures.owing

pub repaired-requires-clause-repairable : goal.repaired-requires-clause-repairable
repaired-requires-clause-repairable c =
    let p = c.args.at.now in
    let one = c.equal_exactly_where_terms_are.ensures p.symbols.now c.leaves_differ.ensures.table in
    let keeps = c.in_ok-link.ensures.went.keeps in
    rw c.deref.ensures.value (plan_repairable p c.args.terms.now c.stated.new.terms c.args.plan.now one c.requires.literals keeps c.requires.plan)

pub returns-in_err-last-clause-went : goal.returns-in_err-last-clause-went
returns-in_err-last-clause-went c =
    went_then c.args.at.now c.args.terms.now c.stated.new.terms c.repaired.new.terms c.in_ok-link.ensures.went c.in_err-last.ensures.went

pub returns-in_err-last-clause-full : goal.returns-in_err-last-clause-full
returns-in_err-last-clause-full c = handed_on c.from_residual-in_err-last.result _ _ c.from_residual-in_err-last.ensures.1 c.in_err-last.ensures.full

pub returns-clause-done : goal.returns-clause-done
returns-clause-done c =
    let n = length c.args.plan.now.trail.pairs.items in
    let low : 1 + 4 * n ≤ 4 * n + 1 = omega arith in
    done_then c.args.at.now c.repaired.new.terms c.stated.new.terms c.args.work.now c.stated.new.work c.repaired.new.work 1 (4 * n) (4 * n + 1) low
    c.in_ok-link.ensures.done (rw c.deref.ensures.value at c.in_ok-last.ensures.done)

pub returns-clause-went : goal.returns-clause-went
returns-clause-went c =
    went_then c.args.at.now c.args.terms.now c.stated.new.terms c.repaired.new.terms c.in_ok-link.ensures.went c.in_ok-last.ensures.went
