-- The innermost variable of a name is held at the place that is kept for the name's number.
use Rattle.std.proofs.Common.{◌∙◌, ◌-◌, ◌<◌, length, Some, option_map, ap, sym, arith, rules}
use Rattle.term_names.specs.declared.names.Held.{Held}
use Rattle.term_names.proofs.HeldVariables.{place-within, find-place, place_in-before, place_in}
use Rattle.term_names.proofs.names.held_at.Goals as goal

pub returns-then-place-eq0 : goal.returns-then-place-eq0
returns-then-place-eq0 c = λ name once number.
    sym (find-place c.args.table.now.names c.args.table.now.innermost c.args.held.now c.args.number c.innermost-place.result c.requires.linked c.requires.number c.innermost-place.ensures name once number
    ∙ ap (λ p. option_map (λ (h : Held). h.bound) (place_in c.args.held.now p)) c.if-place-eq0.true)

pub bounds-held-place : goal.bounds-held-place
bounds-held-place c =
    let within = place-within c.args.table.now.names c.args.table.now.innermost c.args.held.now c.args.number c.innermost-place.result c.requires.linked c.requires.number c.innermost-place.ensures in
    let positive = c.if-place-eq0.false in
    let below : c.innermost-place.result - 1 < length c.args.held.now = omega arith in
    search (rules, below)

pub offset_bounds-held-place : goal.offset_bounds-held-place
offset_bounds-held-place c =
    let within = place-within c.args.table.now.names c.args.table.now.innermost c.args.held.now c.args.number c.innermost-place.result c.requires.linked c.requires.number c.innermost-place.ensures in
    let positive = c.if-place-eq0.false in
    let below : c.innermost-place.result - 1 < length c.args.held.now = omega arith in
    search (rules, below)

pub bounds-held-place-else-place-eq0 : goal.bounds-held-place-else-place-eq0
bounds-held-place-else-place-eq0 c =
    let within = place-within c.args.table.now.names c.args.table.now.innermost c.args.held.now c.args.number c.innermost-place.result c.requires.linked c.requires.number c.innermost-place.ensures in
    let positive = c.if-place-eq0.false in
    let below : c.innermost-place.result - 1 < length c.args.held.now = omega arith in
    search (rules, below)

pub returns : goal.returns
returns c = λ name once number.
    let within = place-within c.args.table.now.names c.args.table.now.innermost c.args.held.now c.args.number c.innermost-place.result c.requires.linked c.requires.number c.innermost-place.ensures in
    ap (λ (h : Held). Some h.bound) (sym c.index-held-place.is)
    ∙ sym (find-place c.args.table.now.names c.args.table.now.innermost c.args.held.now c.args.number c.innermost-place.result c.requires.linked c.requires.number c.innermost-place.ensures name once number
    ∙ ap (option_map (λ (h : Held). h.bound)) (place_in-before c.args.held.now c.innermost-place.result c.index-held-place.result c.if-place-eq0.false within c.index-held-place.is))
