use Rattle.std.proofs.Common.{arith}
use Rattle.equality_ways.proofs.TableLemmas.{not_there, none_there}
use Rattle.equality_ways.proofs.table.find.Goals as goal

pub returns-then-place-len-clause-none : goal.returns-then-place-len-clause-none
returns-then-place-len-clause-none c sides table ends =
    let has = table.complete c.args.from c.args.to ends in
    let past = c.if-place-len.true in
    let len = c.len.ensures in
    let long = rw c.deref.ensures.value at c.deref.ensures.len in
    none_there c.args.table.now.entries.items c.first_from-place.result c.args.from c.args.to has.used
    (rw (c.deref.ensures.value, c.number.ensures.number, c.number-2.ensures.number) at c.first_from-place.ensures) (omega (arith, past, len, long)) has.there

pub returns-then-rank-wanted-clause-none : goal.returns-then-rank-wanted-clause-none
returns-then-rank-wanted-clause-none c sides table ends =
    let has = table.complete c.args.from c.args.to ends in
    let below = c.if-place-len.false in
    let len = c.len.ensures in
    let long = rw c.deref.ensures.value at c.deref.ensures.len in
    not_there c.args.table.now.entries.items c.first_from-place.result c.args.from c.args.to c.entry_at-found.result has.used c.requires.searchable.rising
    (rw (c.deref.ensures.value, c.number.ensures.number, c.number-2.ensures.number) at c.first_from-place.ensures) (omega (arith, below, len, long))
    (rw c.deref-2.ensures.value at c.entry_at-found.ensures)
    (rw (c.rank.ensures, c.number.ensures.number, c.number-2.ensures.number) at c.if-rank-wanted.true) has.there
