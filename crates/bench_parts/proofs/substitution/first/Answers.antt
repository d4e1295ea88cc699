use Rattle.bench_parts.proofs.SubstitutionLemmas.{variable_is_term}
use Rattle.bench_parts.proofs.substitution.first.Goals as goal

pub returns : goal.returns
returns c = variable_is_term _ c.args.terms.now _ c.args.variable c.requires (c.leaf.ensures.stands c.args.terms.now.pass)
