use Rattle.std.proofs.Common.{◌∙◌, ap}
use Rattle.pair_pool.specs.Views.{PassView}
use Rattle.judged_texts.proofs.judging.judge_with.Goals as goal

pub returns-in-Ok-clause-judged : goal.returns-in-Ok-clause-judged
returns-in-Ok-clause-judged g c = λ bits places.
    c.in-Ok.ensures.judged bits (ap (λ (p : PassView). p.places) c.new-terms.ensures.pass ∙ (c.in_ok-read.ensures.places ∙ places))
