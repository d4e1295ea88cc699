use Rattle.elaboration.proofs.OneCommand.{is_kept, not_both}
use Rattle.elaboration.proofs.replacing.ReplacementsElaborate.steps.Goals as goal

pub returns-else-is_not_strict-clause-says : goal.returns-else-is_not_strict-clause-says
returns-else-is_not_strict-clause-says c =
    is_kept c.args.self.now.symbols.now c.args.terms.now c.args.self.now.problem.now.assertions c.args.proof.now c.args.self.now.strict.now c.requires.fits c.args.i
    c.requires.inside (λ fails. not_both c.is_not_strict.result c.if-is_not_strict.false (c.is_not_strict.ensures.1 fails)) c.new.result.items
    c.new.ensures.items
