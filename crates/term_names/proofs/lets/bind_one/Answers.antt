use Rattle.term_names.proofs.LetBinding.{one_inner}
use Rattle.term_names.proofs.lets.bind_one.Goals as goal

pub returns-clause-inner : goal.returns-clause-inner
returns-clause-inner c = one_inner c.push.result c.args.names.now c.push.new.self _ c.push.ensures.pushed
