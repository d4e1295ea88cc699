use Rattle.std.proofs.lemmas.Result.{IfOk-weaker}
use Rattle.term_pool.proofs.FlipLemmas.{flips_are}
use Rattle.term_pool.proofs.terms.Terms.same_up_to_flips.Goals as goal

pub returns-clause-same : goal.returns-clause-same
returns-clause-same c =
    rw (← c.self.view_is)
    (IfOk-weaker c.same.result _ _
    (λ b answer t u.
    flips_are _ _ _ _ _ b c.leaves_differ.ensures.table c.operator-equal.ensures.leaf answer t u) c.same.ensures.answer)
