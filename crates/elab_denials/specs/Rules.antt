-- Public. The rules whose commands the crate elaborates.
use Rattle.std.specs.Prelude.{⊤}
use Rattle.rule_model.specs.declared.rules.Rule.{Rule}

abbrev pub IsElaboratedHere : Rule → Type 0
IsElaboratedHere Rule.EqTransitive = ⊤
IsElaboratedHere Rule.EqCongruent = ⊤
IsElaboratedHere Rule.EqCongruentPred = ⊤
IsElaboratedHere rule = ⊥
