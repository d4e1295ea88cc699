-- One coefficient more.
use Rattle.std.proofs.Common.{◌++◌, ◌∷◌, [], ap, ◌∙◌}
use Rattle.line_judging.specs.LineForms.{as_sum}
use Rattle.line_judging.proofs.FormLemmas.{pushed}
use Rattle.line_judging.proofs.forms.copy.Goals as goal

pub loop-c-preserved : goal.loop-c-preserved
loop-c-preserved c =
    c.in_ok-push.ensures.items
    ∙ (ap (λ x. c.loop-c.into.items ++ x ∷ []) c.converted.ensures
    ∙ (ap (λ cs. cs ++ as_sum c.c-item.result ∷ []) c.loop-c.invariant ∙ pushed c.args.from.now c.loop-c.c-index c.c-item.result c.loop-c-test.true c.c-item.is))
