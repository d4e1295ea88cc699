use Rattle.std.proofs.Common.{true}
use Rattle.reread_laws.proofs.LetFreeProofs.{pruned_free}
use Rattle.reread_laws.proofs.laws.pruned_proofs_are_printed_without_lets.Goals as goal

pub returns : goal.returns
returns c = λ problem before source settings proof after marks plan h k e.
    pruned_free plan marks source settings before proof after e (c.replaced_lets_are_gone.ensures true problem before h).macros k
