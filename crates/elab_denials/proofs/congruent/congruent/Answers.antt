use Rattle.std.proofs.Common.{inl, length, arith}
use Rattle.elab_denials.proofs.CongruentLemmas.{narrow_later}
use Rattle.elab_denials.proofs.PlacedLemmas.{lacks_placed, went_placed}
use Rattle.elab_denials.proofs.Results.{handed_on}
use Rattle.elab_denials.proofs.WorkLemmas.{went_none}
use Rattle.elab_denials.proofs.congruent.congruent.Goals as goal

pub returns-in_err-plan-clause-placed : goal.returns-in_err-plan-clause-placed
returns-in_err-plan-clause-placed c =
    went_placed c.args.at.now c.args.terms.now c.planned.new.terms (went_none c.args.at.now c.args.terms.now c.planned.new.terms c.in_err-plan.ensures.same)

pub returns-in_err-plan-clause-keeps : goal.returns-in_err-plan-clause-keeps
returns-in_err-plan-clause-keeps c = (went_none c.args.at.now c.args.terms.now c.planned.new.terms c.in_err-plan.ensures.same).keeps

pub derived-requires-clause-work : goal.derived-requires-clause-work
derived-requires-clause-work c =
    rw c.in_ok-plan.ensures.same (c.new-work.ensures.work c.args.at.now c.args.terms.now (c.sites_of_commands.ensures c.args.at.now c.args.terms.now c.requires.job))

pub derived-requires-clause-begun : goal.derived-requires-clause-begun
derived-requires-clause-begun c = rw c.in_ok-plan.ensures.same c.in_ok-plan.ensures.begun

pub concluded-requires-clause-job : goal.concluded-requires-clause-job
concluded-requires-clause-job c =
    c.commands_stay.ensures.command c.args.at.now c.args.terms.now c.derived.new.terms (rw c.in_ok-plan.ensures.same at c.in_ok-link.ensures.went.keeps)
    c.one_to_one.ensures c.requires.job

pub concluded-requires-clause-rule : goal.concluded-requires-clause-rule
concluded-requires-clause-rule c = inl c.requires.rule

pub concluded-requires-clause-work : goal.concluded-requires-clause-work
concluded-requires-clause-work c = c.in_ok-link.ensures.done.work

pub concluded-requires-clause-few : goal.concluded-requires-clause-few
concluded-requires-clause-few c =
    let few = rw (c.new-work.ensures.block, c.new-work.ensures.count) at c.in_ok-link.ensures.done.few in
    record {
      places = length c.in_ok-plan.plan.found.pairs.items;
      narrow = narrow_later c.args.at.now c.args.terms.now c.derived.new.terms (rw c.in_ok-plan.ensures.same at c.in_ok-link.ensures.went.keeps)
          (length c.in_ok-plan.plan.found.pairs.items) c.in_ok-plan.ensures.begun.narrow;
      bound = omega (arith, few);
    }

pub returns-in_err-link-clause-placed : goal.returns-in_err-link-clause-placed
returns-in_err-link-clause-placed c =
    went_placed c.args.at.now c.args.terms.now c.derived.new.terms (rw c.in_ok-plan.ensures.same at c.in_err-link.ensures.went)

pub returns-in_err-link-clause-full : goal.returns-in_err-link-clause-full
returns-in_err-link-clause-full c =
    handed_on c.from_residual-in_err-link.result _ _ c.from_residual-in_err-link.ensures.1
    (λ full. lacks_placed c.args.at.now c.derived.new.terms (c.in_err-link.ensures.full full))

pub returns-in_err-link-clause-keeps : goal.returns-in_err-link-clause-keeps
returns-in_err-link-clause-keeps c = rw c.in_ok-plan.ensures.same at c.in_err-link.ensures.went.keeps

pub returns-in_err-block-clause-placed : goal.returns-in_err-block-clause-placed
returns-in_err-block-clause-placed c =
    went_placed c.args.at.now c.args.terms.now c.derived.new.terms (rw c.in_ok-plan.ensures.same at c.in_ok-link.ensures.went)

pub returns-in_err-block-clause-keeps : goal.returns-in_err-block-clause-keeps
returns-in_err-block-clause-keeps c = rw c.in_ok-plan.ensures.same at c.in_ok-link.ensures.went.keeps

pub returns-clause-placed : goal.returns-clause-placed
returns-clause-placed c =
    went_placed c.args.at.now c.args.terms.now c.derived.new.terms (rw c.in_ok-plan.ensures.same at c.in_ok-link.ensures.went)

pub returns-clause-keeps : goal.returns-clause-keeps
returns-clause-keeps c = rw c.in_ok-plan.ensures.same at c.in_ok-link.ensures.went.keeps
