use Rattle.term_pool.proofs.Keeping.{same_terms}
use Rattle.flip_steps.proofs.parts.head_of.Goals as goal

pub returns-clause-same : goal.returns-clause-same
returns-clause-same c = same_terms c.args.terms.now c.head.new.self c.head.ensures.keeps c.head.ensures.unchanged
