use Rattle.std.proofs.Common.{refl, arith}
use Rattle.proof_gen.specs.Templates.{filled}
use Rattle.proof_gen.proofs.letters.Letters.push_filled.Goals as goal

pub loop-at-init : goal.loop-at-init
unfolding filled
loop-at-init c = record { before = omega arith; text = refl }
