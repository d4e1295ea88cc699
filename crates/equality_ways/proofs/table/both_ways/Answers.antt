use Rattle.std.proofs.Common.{length, refl, arith}
use Rattle.std.proofs.lemmas.Option.{slice_get_read}
use Rattle.equality_ways.proofs.TableLemmas.{entries_next}
use Rattle.equality_ways.proofs.table.both_ways.Goals as goal

pub loop-place-preserved : goal.loop-place-preserved
loop-place-preserved c =
    let test = c.loop-place-test.true in
    rw c.in_ok-add.ensures.added
    (entries_next c.args.sides.now c.loop-place.place c.index-sides-place.result c.loop-place.entries.items
    (slice_get_read c.args.sides.now (length c.args.sides.now) c.loop-place.place c.index-sides-place.result refl (omega arith) c.index-sides-place.is)
    c.add.ensures.small c.loop-place.invariant)
