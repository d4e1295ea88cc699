use Rattle.std.proofs.Common.{refl}
use Rattle.term_sharing.proofs.whole_proofs.proof_names.Goals as goal

pub commands-init : goal.commands-init
commands-init c = (refl, c.new-uses.ensures c.args.symbols.now c.args.terms.now)
