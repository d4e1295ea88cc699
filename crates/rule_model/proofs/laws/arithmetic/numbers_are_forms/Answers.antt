use Rattle.std.proofs.Common.{◌+ℤ◌, ◌∙◌, ap}
use Rattle.term_model.specs.Meaning.{value}
use Rattle.term_model.specs.Values.{as_whole}
use Rattle.rule_model.specs.LinearForms.{constant}
use Rattle.rule_model.proofs.LinearForms.{value_is_form, part_is_dot}
use Rattle.rule_model.proofs.laws.arithmetic.numbers_are_forms.Goals as goal

pub returns : goal.returns
returns c I r us t distinct covers =
    value_is_form I r t
    ∙ ap (λ z. constant t +ℤ z) (part_is_dot (λ u. as_whole (value I r u)) us distinct t covers)
