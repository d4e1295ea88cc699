use Rattle.std.proofs.Common.{◌≡◌, ◌++◌, ◌∷◌, [], ◌<◌, true, false, length, sym, ◌∙◌, arith}
use Rattle.rule_model.specs.declared.literal.Literal.TheVariants.{Plain}
use Rattle.rules_resolution.specs.Falsity.{is_false_in}
use Rattle.rules_resolution.proofs.States.{state_same, state_closed, same_where_none, same_where_false, mark_says, mark_read, room_for}
use Rattle.rules_resolution.proofs.work.falsify_plain.Goals as goal

pub returns-in-None-clause-falsifies : goal.returns-in-None-clause-falsifies
returns-in-None-clause-falsifies c premises goal falses state =
    state_same premises goal falses (falses ++ Plain c.args.atom c.args.negative ∷ []) c.args.table.now _ _
    (same_where_none falses c.args.atom c.args.negative c.args.table.now c.in-None.ensures.none) state

pub returns-then-index-clause-falsifies : goal.returns-then-index-clause-falsifies
returns-then-index-clause-falsifies c premises goal falses state =
    let lead = c.in-Some.ensures.found in
    let within : c.in-Some.first < length c.args.work.now.marks.items = (let a = lead.within in let b = state.marked.size in omega arith) in
    let read = mark_read c.args.work.now.marks.items c.in-Some.first c.index.result.now c.index.ensures within in
    let says = mark_says falses c.args.atom c.args.negative c.args.table.now c.args.work.now.marks.items c.in-Some.first state.marked lead in
    let gone : is_false_in falses (Plain c.args.atom c.args.negative) ≡ true = sym says ∙ (read ∙ c.if-index.true) in
    state_same premises goal falses (falses ++ Plain c.args.atom c.args.negative ∷ []) c.args.table.now _ _
    (same_where_false falses c.args.atom c.args.negative c.args.table.now gone) state

pub close_all-requires-clause-room : goal.close_all-requires-clause-room
close_all-requires-clause-room c =
    let state = c.requires.state.3 in
    let lead = c.in-Some.ensures.found in
    let within : c.in-Some.first < length c.args.work.now.marks.items = (let a = lead.within in let b = state.marked.size in omega arith) in
    let read = mark_read c.args.work.now.marks.items c.in-Some.first c.index.result.now c.index.ensures within in
    let says = mark_says c.requires.state.2 c.args.atom c.args.negative c.args.table.now c.args.work.now.marks.items c.in-Some.first state.marked lead in
    let stays : is_false_in c.requires.state.2 (Plain c.args.atom c.args.negative) ≡ false = sym says ∙ (read ∙ c.if-index.false) in
    room_for c.requires.state.0 c.requires.state.2 c.args.atom c.args.negative c.args.table.now c.args.work.now.standings.items state.tallied stays

pub returns-clause-falsifies : goal.returns-clause-falsifies
returns-clause-falsifies c premises goal falses state =
    let lead = c.in-Some.ensures.found in
    let within : c.in-Some.first < length c.args.work.now.marks.items = (let a = lead.within in let b = state.marked.size in omega arith) in
    let read = mark_read c.args.work.now.marks.items c.in-Some.first c.index.result.now c.index.ensures within in
    let says = mark_says falses c.args.atom c.args.negative c.args.table.now c.args.work.now.marks.items c.in-Some.first state.marked lead in
    let stays : is_false_in falses (Plain c.args.atom c.args.negative) ≡ false = sym says ∙ (read ∙ c.if-index.false) in
    state_closed premises goal falses c.args.atom c.args.negative c.args.table.now c.args.work.now.marks.items _ _ c.in-Some.first state lead stays
    c.in_ok-close_all.ensures.advances.size c.in_ok-close_all.ensures.closes
