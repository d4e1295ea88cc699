use Rattle.std.proofs.lemmas.Bool.{eqb-true, eq-eqb}
use Rattle.term_pool.proofs.NotLemmas.{strips}
use Rattle.term_pool.proofs.terms.Terms.strip_not.Goals as goal

pub returns-clause-stripped : goal.returns-clause-stripped
returns-clause-stripped c =
    rw (← c.self.view_is)
    (λ t refers.
    strips _ _ _ _ _ _ _ _ c.leaves_differ.ensures.table c.operator-not.ensures.leaf c.one_to_one.ensures
    c.strip-bare.ensures.same c.strip-bare.ensures.stripped (eqb-true _ _, eq-eqb _ _) t refers)
