use Rattle.bench_parts.proofs.NumberedLemmas.{is_new, one_more}
use Rattle.bench_parts.proofs.commands.assume.Goals as goal

pub assume-requires-clause-id : goal.assume-requires-clause-id
assume-requires-clause-id c = is_new _ _ _ c.requires.written c.id_of-id.ensures.number c.id_of-id.ensures.symbol

pub returns : goal.returns
returns c = one_more _ _ _ c.leaf.result _ c.requires.written c.id_of-id.ensures.number c.in_ok-_index.ensures.written
