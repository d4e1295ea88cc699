use Rattle.term_pool.proofs.OneTree.{one_tree}
use Rattle.term_pool.proofs.OneTerm.{one_term}
use Rattle.term_pool.proofs.Growth.{stays}
use Rattle.term_pool.proofs.laws.trees_of_terms.Goals as goal

pub returns : goal.returns
returns c = record {
  one_tree = λ s a b t h p q. one_tree s h t a b p q;
  one_term = λ s a t u h p q. one_term s h a t u p q;
  stays = λ s z a t h p. stays s z h t a p;
}
