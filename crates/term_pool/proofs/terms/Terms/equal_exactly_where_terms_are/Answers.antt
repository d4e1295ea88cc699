use Rattle.term_pool.proofs.TermLemmas.{equal_where}
use Rattle.term_pool.proofs.terms.Terms.equal_exactly_where_terms_are.Goals as goal

pub returns : goal.returns
returns c = rw (← c.self.view_is) (λ s table p q t u h k. equal_where s _ table c.one_to_one.ensures p q t u h k)
