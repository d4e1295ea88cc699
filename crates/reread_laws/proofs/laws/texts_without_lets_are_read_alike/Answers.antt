use Rattle.reread_laws.proofs.OtherLetsInProofs.{text_replaced}
use Rattle.reread_laws.proofs.laws.texts_without_lets_are_read_alike.Goals as goal

pub returns : goal.returns
returns c = λ source settings before proof after kept h none. text_replaced source settings before proof after kept h none
