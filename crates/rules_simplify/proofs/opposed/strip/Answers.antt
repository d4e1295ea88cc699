use Rattle.std.proofs.Common.{subst}
use Rattle.term_pool.specs.Nots.{IsStripped}
use Rattle.term_pool.specs.Views.{TermsView}
use Rattle.term_pool.proofs.Keeping.{same_terms}
use Rattle.rules_simplify.proofs.opposed.strip.Goals as goal

pub returns-clause-stripped : goal.returns-clause-stripped
returns-clause-stripped c t refers =
    subst (λ (w : TermsView). IsStripped c.args.symbols.now w t c.strip_not.result.0 c.strip_not.result.1) (same_terms _ _ c.strip_not.ensures.keeps c.strip_not.ensures.unchanged)
    (c.strip_not.ensures.stripped t refers)

pub returns-clause-same : goal.returns-clause-same
returns-clause-same c = same_terms _ _ c.strip_not.ensures.keeps c.strip_not.ensures.unchanged
