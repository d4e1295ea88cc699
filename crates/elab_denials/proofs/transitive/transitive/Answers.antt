use Rattle.std.proofs.Common.{arith}
use Rattle.elab_denials.proofs.OwnLemmas.{own_literals}
use Rattle.elab_denials.proofs.PlacedLemmas.{lacks_placed, went_placed}
use Rattle.elab_denials.proofs.Results.{handed_on}
use Rattle.elab_denials.proofs.WorkLemmas.{went_none}
use Rattle.elab_denials.proofs.transitive.transitive.Goals as goal

pub returns-in_err-plan-clause-placed : goal.returns-in_err-plan-clause-placed
returns-in_err-plan-clause-placed c =
    went_placed c.args.at.now c.args.terms.now c.planned.new.terms (went_none c.args.at.now c.args.terms.now c.planned.new.terms c.in_err-plan.ensures.same)

pub returns-in_err-plan-clause-keeps : goal.returns-in_err-plan-clause-keeps
returns-in_err-plan-clause-keeps c = (went_none c.args.at.now c.args.terms.now c.planned.new.terms c.in_err-plan.ensures.same).keeps

pub derived-requires-clause-literals : goal.derived-requires-clause-literals
derived-requires-clause-literals c = rw c.in_ok-plan.ensures.same (own_literals c.args.at.now c.args.terms.now c.requires.job)

pub derived-requires-clause-work : goal.derived-requires-clause-work
derived-requires-clause-work c =
    let site = c.sites_of_commands.ensures c.args.at.now c.args.terms.now c.requires.job in
    rw c.in_ok-plan.ensures.same (c.new-work.ensures.work c.args.at.now c.args.terms.now site)

pub derived-requires-clause-plan : goal.derived-requires-clause-plan
derived-requires-clause-plan c = rw c.in_ok-plan.ensures.same c.in_ok-plan.ensures.plan

pub concluded-requires-clause-job : goal.concluded-requires-clause-job
concluded-requires-clause-job c =
    c.commands_stay.ensures.command c.args.at.now c.args.terms.now c.derived.new.terms (rw c.in_ok-plan.ensures.same at c.in_ok-link.ensures.went.keeps)
    c.one_to_one.ensures c.requires.job

pub concluded-requires-clause-work : goal.concluded-requires-clause-work
concluded-requires-clause-work c = c.in_ok-link.ensures.done.work

pub concluded-requires-clause-few : goal.concluded-requires-clause-few
concluded-requires-clause-few c =
    let few = rw (c.new-work.ensures.block, c.new-work.ensures.count) at c.in_ok-link.ensures.done.few in
    let short = c.in_ok-plan.ensures.plan.short in
    omega (arith, few, short)

pub returns-in_err-link-clause-placed : goal.returns-in_err-link-clause-placed
returns-in_err-link-clause-placed c =
    went_placed c.args.at.now c.args.terms.now c.derived.new.terms (rw c.in_ok-plan.ensures.same at c.in_err-link.ensures.went)

pub returns-in_err-link-clause-full : goal.returns-in_err-link-clause-full
returns-in_err-link-clause-full c =
    handed_on c.from_residual-in_err-link.result _ _ c.from_residual-in_err-link.ensures.1
    (λ full. lacks_placed c.args.at.now c.derived.new.terms (c.in_err-link.ensures.full full))

pub returns-in_err-link-clause-keeps : goal.returns-in_err-link-clause-keeps
returns-in_err-link-clause-keeps c = rw c.in_ok-plan.ensures.same at c.in_err-link.ensures.went.keeps

pub returns-in_err-block-clause-placed : goal.returns-in_err-block-clause-placed
returns-in_err-block-clause-placed c =
    went_placed c.args.at.now c.args.terms.now c.derived.new.terms (rw c.in_ok-plan.ensures.same at c.in_ok-link.ensures.went)

pub returns-in_err-block-clause-keeps : goal.returns-in_err-block-clause-keeps
returns-in_err-block-clause-keeps c = rw c.in_ok-plan.ensures.same at c.in_ok-link.ensures.went.keeps

pub returns-clause-placed : goal.returns-clause-placed
returns-clause-placed c =
    went_placed c.args.at.now c.args.terms.now c.derived.new.terms (rw c.in_ok-plan.ensures.same at c.in_ok-link.ensures.went)

pub returns-clause-keeps : goal.returns-clause-keeps
returns-clause-keeps c = rw c.in_ok-plan.ensures.same at c.in_ok-link.ensures.went.keeps
