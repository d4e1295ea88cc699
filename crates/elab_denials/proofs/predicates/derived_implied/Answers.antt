use Rattle.std.proofs.Common.{◌≤◌, ◌+◌, ◌*◌, length, arith}
use Rattle.elab_denials.proofs.Results.{handed_on}
use Rattle.elab_denials.proofs.SettleLemmas.{repairable_later}
use Rattle.elab_denials.proofs.WorkLemmas.{done_then, went_then}
use Rattle.elab_denials.proofs.predicates.derived_implied.Goals as goal

pub implying-requires-clause-imply : goal.implying-requires-clause-imply
implying-requires-clause-imply c = c.requires.begun.imply

pub repaired-requires-clause-work : goal.repaired-requires-clause-work
repaired-requires-clause-work c = c.in_ok-link.ensures.done.work

pub repaired-requires-clause-owing : goal.repaired-requires-clause-owing
repaired-requires-clause-owing c = rw c.deref.ensures.value c.in_ok-link.ensures.owing

pub repaired-requires-clause-repairable : goal.repaired-requires-clause-repairable
repaired-requires-clause-repairable c =
    rw c.deref.ensures.value (repairable_later c.args.at.now c.args.terms.now c.implying.new.terms c.in_ok-link.ensures.went.keeps c.args.table.now
    c.args.found.now.pairs.items c.requires.begun.repairable)

pub returns-in_err-last-clause-went : goal.returns-in_err-last-clause-went
returns-in_err-last-clause-went c =
    went_then c.args.at.now c.args.terms.now c.implying.new.terms c.repaired.new.terms c.in_ok-link.ensures.went c.in_err-last.ensures.went

pub returns-in_err-last-clause-full : goal.returns-in_err-last-clause-full
returns-in_err-last-clause-full c = handed_on c.from_residual-in_err-last.result _ _ c.from_residual-in_err-last.ensures.1 c.in_err-last.ensures.full

pub returns-clause-done : goal.returns-clause-done
returns-clause-done c =
    let n = length c.args.found.now.pairs.items in
    let low : 1 + 4 * n ≤ 4 * n + 5 = omega arith in
    done_then c.args.at.now c.repaired.new.terms c.implying.new.terms c.args.work.now c.implying.new.work c.repaired.new.work 1 (4 * n) (4 * n + 5) low
    c.in_ok-link.ensures.done (rw c.deref.ensures.value at c.in_ok-last.ensures.done)

pub returns-clause-went : goal.returns-clause-went
returns-clause-went c =
    went_then c.args.at.now c.args.terms.now c.implying.new.terms c.repaired.new.terms c.in_ok-link.ensures.went c.in_ok-last.ensures.went
