use Rattle.known_args.proofs.TableLemmas.{HasFirst}
use Rattle.known_args.proofs.row.table_of.Given as goal

abbrev pub invariant-items : goal.invariant-items
invariant-items l = HasFirst l.table.keys l.items l.place
