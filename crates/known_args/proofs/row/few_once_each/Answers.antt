use Rattle.known_args.proofs.TableLemmas.{one_more, all_added}
use Rattle.known_args.proofs.row.few_once_each.Goals as goal

pub items-preserved : goal.items-preserved
items-preserved c =
    one_more c.items.list.items c.add_missing.new.list.items c.args.items.now c.items.place c.index-items-place.result c.items-test.true c.index-items-place.is c.in_ok-add_missing.ensures c.items.invariant

pub returns : goal.returns
returns c = all_added c.items.list.items c.args.items.now c.items.place c.items-test.false c.items.invariant
