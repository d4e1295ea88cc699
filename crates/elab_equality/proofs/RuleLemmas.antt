-- Private. The rules whose commands are elaborated here.
use Rattle.std.proofs.Common.{◌≡◌, ◌≢◌, refl}
use Rattle.rule_model.specs.declared.rules.Rule.{Rule}
use Rattle.elab_equality.specs.Rules.{IsElaboratedHere}

pub else_cong : (r : Rule) → IsElaboratedHere r → r ≢ Rule.Assume → r ≢ Rule.Refl → r ≢ Rule.Trans → r ≢ Rule.Let → r ≡ Rule.Cong
else_cong Rule.Cong h a b d e = refl
else_cong Rule.Assume h a b d e = absurd (a refl)
else_cong Rule.Refl h a b d e = absurd (b refl)
else_cong Rule.Trans h a b d e = absurd (d refl)
else_cong Rule.Let h a b d e = absurd (e refl)
else_cong r h a b d e = absurd h
