use Rattle.std.proofs.Common.{sym}
use Rattle.equality_ways.proofs.ReachLemmas.{key_new}
use Rattle.equality_ways.proofs.TrailLemmas.{backward, not_connected, place_of, trail_leads, trail_once, trail_shortest, way_short}
use Rattle.equality_ways.proofs.ways.way.Goals as goal

pub returns-in_default-clause-none : goal.returns-in_default-clause-none
returns-in_default-clause-none c sides table =
    not_connected sides c.args.table.now c.args.from c.args.to c.in_ok-reached.reached.keys.keys c.in_ok-reached.reached.steps.items table
    (rw c.deref.ensures.value at c.in_ok-reached.ensures.reached) (rw c.deref.ensures.value at c.in_ok-reached.ensures.closed)
    (key_new c.in_ok-reached.reached.keys.keys c.args.from (sym (rw c.number.ensures.number at c.in_default.ensures.found)))

pub way_back-requires-clause-backward : goal.way_back-requires-clause-backward
way_back-requires-clause-backward c =
    rw c.deref-2.ensures.value
    (backward c.deref.result.now c.args.to c.in_ok-reached.reached.keys.keys c.in_ok-reached.reached.steps.items c.in_ok-reached.ensures.reached)

pub returns-clause-way : goal.returns-clause-way
returns-clause-way c sides table =
    trail_leads sides c.args.table.now.entries.items c.args.to c.in_ok-reached.reached.keys.keys c.in_ok-reached.reached.steps.items table.sound
    (rw c.deref.ensures.value at c.in_ok-reached.ensures.reached) c.in_ok-used.used.items c.in-Some.place c.args.from
    (place_of c.in_ok-reached.reached.keys.keys c.args.from c.in-Some.place (sym (rw c.number.ensures.number at c.in-Some.ensures.index)))
    (rw c.deref-2.ensures.value at c.in_ok-used.ensures)

pub returns-clause-once : goal.returns-clause-once
returns-clause-once c sides table =
    trail_once sides c.args.table.now.entries.items c.args.to c.in_ok-reached.reached.keys.keys c.in_ok-reached.reached.steps.items table.sound
    (rw c.deref.ensures.value at c.in_ok-reached.ensures.reached) c.in_ok-used.used.items c.in-Some.place (rw c.deref-2.ensures.value at c.in_ok-used.ensures)

pub returns-clause-short : goal.returns-clause-short
returns-clause-short c sides table =
    way_short sides c.in_ok-used.used.items c.args.from c.args.to
    (trail_leads sides c.args.table.now.entries.items c.args.to c.in_ok-reached.reached.keys.keys c.in_ok-reached.reached.steps.items table.sound
    (rw c.deref.ensures.value at c.in_ok-reached.ensures.reached) c.in_ok-used.used.items c.in-Some.place c.args.from
    (place_of c.in_ok-reached.reached.keys.keys c.args.from c.in-Some.place (sym (rw c.number.ensures.number at c.in-Some.ensures.index)))
    (rw c.deref-2.ensures.value at c.in_ok-used.ensures))
    (trail_once sides c.args.table.now.entries.items c.args.to c.in_ok-reached.reached.keys.keys c.in_ok-reached.reached.steps.items table.sound
    (rw c.deref.ensures.value at c.in_ok-reached.ensures.reached) c.in_ok-used.used.items c.in-Some.place (rw c.deref-2.ensures.value at c.in_ok-used.ensures))

pub returns-clause-shortest : goal.returns-clause-shortest
returns-clause-shortest c sides table =
    trail_shortest sides c.args.table.now c.args.to c.in_ok-reached.reached.keys.keys c.in_ok-reached.reached.steps.items table
    (rw c.deref.ensures.value at c.in_ok-reached.ensures.reached) c.in_ok-reached.ensures.ordered (rw c.deref.ensures.value at c.in_ok-reached.ensures.closed)
    c.in_ok-used.used.items c.in-Some.place c.args.from
    (place_of c.in_ok-reached.reached.keys.keys c.args.from c.in-Some.place (sym (rw c.number.ensures.number at c.in-Some.ensures.index)))
    (rw c.deref-2.ensures.value at c.in_ok-used.ensures)
