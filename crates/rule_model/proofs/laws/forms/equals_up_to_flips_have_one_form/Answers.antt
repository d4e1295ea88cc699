use Rattle.rule_model.proofs.Forms.{one_form}
use Rattle.rule_model.proofs.laws.forms.equals_up_to_flips_have_one_form.Goals as goal

pub returns : goal.returns
returns c before order t u alike = one_form before order t u alike
