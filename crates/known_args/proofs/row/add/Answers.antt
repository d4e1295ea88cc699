use Rattle.known_args.proofs.TableLemmas.{item_added}
use Rattle.known_args.proofs.row.add.Goals as goal

pub returns : goal.returns
returns c = item_added _ _ _ c.in_ok-insert.ensures.keys
