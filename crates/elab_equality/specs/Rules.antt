-- Public. The rules whose commands the crate elaborates.
use Rattle.std.specs.Prelude.{⊤}
use Rattle.rule_model.specs.declared.rules.Rule.{Rule}

abbrev pub IsElaboratedHere : Rule → Type 0
IsElaboratedHere Rule.Assume = ⊤
IsElaboratedHere Rule.Refl = ⊤
IsElaboratedHere Rule.Trans = ⊤
IsElaboratedHere Rule.Cong = ⊤
IsElaboratedHere Rule.Let = ⊤
IsElaboratedHere rule = ⊥
