use Rattle.term_model.proofs.Lists.{has_number}
use Rattle.flip_keys.proofs.assertions.Found.has.Goals as goal

pub returns : goal.returns
returns c = rw c.contains.ensures (has_number c.args.self.now.numbers.keys c.args.number)
