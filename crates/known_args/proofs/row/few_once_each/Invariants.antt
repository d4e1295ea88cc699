use Rattle.known_args.proofs.TableLemmas.{HasFirst}
use Rattle.known_args.proofs.row.few_once_each.Given as goal

abbrev pub invariant-items : goal.invariant-items
invariant-items l = HasFirst l.list.items l.items l.place
