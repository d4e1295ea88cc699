use Rattle.term_pool.proofs.HeightLemmas.{height_is}
use Rattle.term_pool.proofs.terms.Terms.height.Goals as goal

pub returns-clause-height : goal.returns-clause-height
returns-clause-height c =
    rw (← c.self.view_is)
    (λ s t table refers. height_is s _ c.args.r c.in_ok-heights.heights c.in_ok-heights.ensures.heights t table refers)
