use Rattle.std.proofs.Common.{◌∙◌, sym}
use Rattle.std.proofs.lemmas.Bool.{eqb-true, eq-eqb}
use Rattle.rules_subproof.proofs.units.are_identical.Goals as goal

pub returns : goal.returns
returns c = (λ e. eqb-true _ _ (sym c.eq.ensures ∙ e), λ e. c.eq.ensures ∙ eq-eqb _ _ e)
