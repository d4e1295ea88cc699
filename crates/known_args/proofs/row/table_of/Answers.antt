use Rattle.known_args.proofs.TableLemmas.{one_more, all_added}
use Rattle.known_args.proofs.row.table_of.Goals as goal

pub items-preserved : goal.items-preserved
items-preserved c =
    one_more c.items.table.keys c.add.new.table.keys c.args.items.now c.items.place c.index-items-place.result c.items-test.true c.index-items-place.is c.in_ok-add.ensures c.items.invariant

pub returns : goal.returns
returns c = all_added c.items.table.keys c.args.items.now c.items.place c.items-test.false c.items.invariant
