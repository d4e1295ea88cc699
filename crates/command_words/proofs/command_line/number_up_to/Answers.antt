use Rattle.std.proofs.Common.{◌∙◌, ap, arith}
use Rattle.std.specs.Prelude.{slice_get}
use Rattle.command_words.proofs.NumberLemmas.{missed, taken}
use Rattle.command_words.proofs.command_line.number_up_to.Goals as goal

pub returns-in-Ok-clause-value : goal.returns-in-Ok-clause-value
returns-in-Ok-clause-value c =
    taken c.args.most c.args.text.now c.in_ok-first.field-0.now (c.in_ok-first.ensures.value ∙ ap (λ t. slice_get t 0) c.as_bytes.ensures.value) (omega (arith, c.if-first-lt49.false))
    c.in-Ok.count c.in-Ok.ensures.value.0 c.if-count-ge1.true c.if-count-most.true

pub returns-in_default-3-clause-value : goal.returns-in_default-3-clause-value
returns-in_default-3-clause-value c =
    missed c.args.most c.args.text.now c.in_ok-first.field-0.now (c.in_ok-first.ensures.value ∙ ap (λ t. slice_get t 0) c.as_bytes.ensures.value) (omega (arith, c.if-first-lt49.false))
    (omega (arith, c.requires))
    c.in_default.ensures.value.0
