use Rattle.bench_parts.proofs.TermLemmas.{ok_is_term}
use Rattle.bench_parts.proofs.terms.apply.Goals as goal

pub returns-clause-term : goal.returns-clause-term
returns-clause-term c =
    ok_is_term c.app.result c.args.symbols.now c.args.terms.now c.app.new.self c.args.head c.args.args.now c.requires.head c.requires.args c.app.ensures.term
