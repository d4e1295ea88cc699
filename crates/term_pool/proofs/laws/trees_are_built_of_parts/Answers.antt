use Rattle.term_pool.proofs.TermLemmas.{app_stands, let_stands}
use Rattle.term_pool.proofs.laws.trees_are_built_of_parts.Goals as goal

pub returns : goal.returns
returns c = record {
  application = λ s head trees ts t h p. app_stands s head ts t trees p h;
  let_term = λ s vars trees body bs u h k. let_stands s vars trees body bs u h k;
}
