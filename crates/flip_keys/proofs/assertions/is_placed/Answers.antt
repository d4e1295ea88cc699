use Rattle.flip_keys.proofs.assertions.is_placed.Goals as goal
use Rattle.term_model.proofs.Lists.{has_number}

pub returns : goal.returns
returns c = rw (c.contains.ensures, c.number.ensures.number) (has_number c.args.placed.now.keys c.args.r)
