use Rattle.flip_keys.proofs.Finding.{inserts}
use Rattle.flip_keys.proofs.assertions.place.Goals as goal

pub returns : goal.returns
returns c = rw (c.in_ok-insert.ensures.keys, c.number.ensures.number) (inserts c.args.placed.now.keys c.args.r)
