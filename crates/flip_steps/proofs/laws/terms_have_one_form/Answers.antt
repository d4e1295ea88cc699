use Rattle.flip_steps.specs.Stages.{StandsBefore}
use Rattle.flip_steps.proofs.FormLemmas.{one_form}
use Rattle.flip_steps.proofs.OrderLemmas.{references_antisymmetric}
use Rattle.flip_steps.proofs.laws.terms_have_one_form.Goals as goal

pub returns : goal.returns
returns c = λ s v table one t u f g. one_form (StandsBefore s v) (references_antisymmetric s v table one) t u f g
