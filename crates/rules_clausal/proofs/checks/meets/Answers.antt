use Rattle.rules_clausal.proofs.checks.meets.Goals as goal

pub meets_knowing-requires-clause-right : goal.meets_knowing-requires-clause-right
meets_knowing-requires-clause-right c = c.new-known.ensures c.args.terms.now
