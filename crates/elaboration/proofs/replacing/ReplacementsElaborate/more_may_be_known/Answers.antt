use Rattle.elaboration.proofs.Growing.{can_later, placed_later, said_later}
use Rattle.elaboration.proofs.replacing.ReplacementsElaborate.more_may_be_known.Goals as goal

pub returns-clause-fits : goal.returns-clause-fits
returns-clause-fits c refs old new more h =
    can_later c.args.self.now.symbols.now old new more c.args.self.now.problem.now.assertions refs c.args.self.now.strict.now h

pub returns-clause-says : goal.returns-clause-says
returns-clause-says c refs old new i block more h =
    said_later c.args.self.now.symbols.now old new more c.args.self.now.problem.now.assertions refs c.args.self.now.strict.now i block h

pub returns-clause-places : goal.returns-clause-places
returns-clause-places c refs old new t more h =
    placed_later c.args.self.now.symbols.now old new more c.args.self.now.problem.now.assertions refs c.args.self.now.strict.now c.made_terms_grow.ensures.placed t h
