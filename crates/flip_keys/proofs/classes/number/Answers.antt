use Rattle.sym_table.proofs.Lists.{insert_key-places}
use Rattle.flip_keys.proofs.ClassKeys.{Decides-class}
use Rattle.flip_keys.proofs.classes.number.Goals as goal

pub returns : goal.returns
returns c = rw (c.in_ok-number.ensures.keys, c.in_ok-number.ensures.index) (insert_key-places _ Decides-class c.args.classes.now.keys c.args.class)
