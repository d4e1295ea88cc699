use Rattle.term_pool.proofs.OneTerm.{terms_at}
use Rattle.term_pool.proofs.terms.Terms.terms_at.Goals as goal

pub returns-clause-terms : goal.returns-clause-terms
returns-clause-terms c =
    rw (← c.self.view_is) (terms_at _ c.one_to_one.ensures c.parts_of_trees.ensures c.trees_within.ensures)
