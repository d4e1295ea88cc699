use Rattle.std.proofs.Common.{◌+◌, ◌*◌, ◌<◌, false, length, get_or, arith}
use Rattle.rules_resolution.specs.declared.occurrence.Occurrence.{Occurrence}
use Rattle.clause_chain.specs.Chaining.{clauses_of}
use Rattle.rules_resolution.specs.Standing.{open_at, places_at}
use Rattle.rules_resolution.proofs.Premises.{length-clauses_of}
use Rattle.rules_resolution.proofs.Standings.{tallied_at_start, open_at-blank_le, places_at-blank, counted_more, bounded_open, bounded_places}
use Rattle.rules_resolution.proofs.standing.standings_of.Goals as goal

abbrev none : Occurrence
none = record { atom = 0; negative = false; premise = 0; place = 0 }

pub loop-occurrence-init : goal.loop-occurrence-init
loop-occurrence-init c =
    rw c.in_ok-standings.ensures (
      tallied_at_start (clauses_of c.args.premises.now),
      open_at-blank_le (clauses_of c.args.premises.now),
      λ p. (let e = places_at-blank (clauses_of c.args.premises.now) p in omega arith),
    )

pub count-requires-clause-places : goal.count-requires-clause-places
count-requires-clause-places c =
    let bound = c.loop-occurrence.invariant.2 (get_or c.args.table.now c.loop-occurrence.occurrence-index none).premise in
    omega arith

pub loop-occurrence-preserved : goal.loop-occurrence-preserved
loop-occurrence-preserved c =
    let size = c.loop-occurrence.invariant.0.size in
    let n = length-clauses_of c.args.premises.now in
    let range = c.requires c.loop-occurrence.occurrence-index none c.loop-occurrence-test.true in
    let within : (get_or c.args.table.now c.loop-occurrence.occurrence-index none).premise < length c.loop-occurrence.standings.items = omega arith in
    let open_bound = c.loop-occurrence.invariant.1 (get_or c.args.table.now c.loop-occurrence.occurrence-index none).premise in
    let place_bound = c.loop-occurrence.invariant.2 (get_or c.args.table.now c.loop-occurrence.occurrence-index none).premise in
    rw c.count.ensures (
      counted_more (clauses_of c.args.premises.now) c.args.table.now c.loop-occurrence.standings.items c.loop-occurrence.occurrence-index none
          c.loop-occurrence.invariant.0 c.loop-occurrence-test.true within,
      (λ p. (let b = bounded_open c.loop-occurrence.standings.items (get_or c.args.table.now c.loop-occurrence.occurrence-index none).premise (c.loop-occurrence.occurrence-index + 2)
          (record { left = open_at c.loop-occurrence.standings.items (get_or c.args.table.now c.loop-occurrence.occurrence-index none).premise + 1; places = places_at c.loop-occurrence.standings.items (get_or c.args.table.now c.loop-occurrence.occurrence-index none).premise + (get_or c.args.table.now c.loop-occurrence.occurrence-index none).place })
          c.loop-occurrence.invariant.1 within (omega arith) p in
          omega arith)),
      bounded_places c.loop-occurrence.standings.items (get_or c.args.table.now c.loop-occurrence.occurrence-index none).premise (c.loop-occurrence.occurrence-index * 4294967296) ((c.loop-occurrence.occurrence-index + 1) * 4294967296)
          (record { left = open_at c.loop-occurrence.standings.items (get_or c.args.table.now c.loop-occurrence.occurrence-index none).premise + 1; places = places_at c.loop-occurrence.standings.items (get_or c.args.table.now c.loop-occurrence.occurrence-index none).premise + (get_or c.args.table.now c.loop-occurrence.occurrence-index none).place })
          c.loop-occurrence.invariant.2 within (omega arith) (omega arith),
    )
