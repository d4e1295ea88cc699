use Rattle.std.proofs.Common.{arith}
use Rattle.elab_denials.proofs.transitive.shortest.Goals as goal

pub unreachable-requires : goal.unreachable-requires
unreachable-requires c =
    (rw (c.in_default.is, c.sides-from.ensures) at c.in_ok-used.ensures.none) c.args.sides.now c.requires.table c.requires.connected

pub walked-requires : goal.walked-requires
walked-requires c = record {
  way = rw c.deref.ensures.value ((rw (c.in-Some.is, c.sides-from.ensures) at c.in_ok-used.ensures.way) c.args.sides.now c.requires.table);
}

pub returns-clause-short : goal.returns-clause-short
returns-clause-short c =
    let long = rw c.deref.ensures.value at c.in_ok-trail.ensures.long in
    let short = (rw c.in-Some.is at c.in_ok-used.ensures.short) c.args.sides.now c.requires.table in
    omega (arith, long, short)
