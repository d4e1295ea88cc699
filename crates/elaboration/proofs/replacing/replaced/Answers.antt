use Rattle.elaboration.proofs.Asking.{asked_later}
use Rattle.elaboration.proofs.replacing.replaced.Goals as goal

pub returns-in-Ok-clause-asserted : goal.returns-in-Ok-clause-asserted
returns-in-Ok-clause-asserted c =
    asked_later c.keys_stay.ensures c.args.replacements.now.problem.now.assertions c.args.terms.now c.resolved.new.terms c.args.asserted.now
    c.resolved.ensures.places.keeps c.requires.asserted
