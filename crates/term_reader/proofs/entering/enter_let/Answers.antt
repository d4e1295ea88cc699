use Rattle.std.proofs.Common.{◌+◌, ◌∙◌, arith, IfOk}
use Rattle.sym_table.specs.Table.{Table}
use Rattle.term_reader.specs.Leaving.{Spends}
use Rattle.term_reader.specs.ReadingViews.{reader_in}
use Rattle.term_reader.specs.declared.reader.Turn.{Turn}
use Rattle.term_reader.proofs.EnteringTerms.{let_goes, let_repeated, let_further, variable_there, opened_goes, opened_spends}
use Rattle.term_reader.proofs.InnermostForm.{spends_inside, spends_few, spends_progress}
use Rattle.term_reader.proofs.entering.enter_let.Goals as goal

pub place_at-requires : goal.place_at-requires
place_at-requires c =
    let (s, v, g, h) = c.requires in
    let named = variable_there c.args.items.now g s v (reader_in c.args.settings.now c.args.reader.now) c.args.k c.args.first c.args.body h in named.inside

pub place_at-requires-2 : goal.place_at-requires-2
place_at-requires-2 c = let (s, v, g, h) = c.requires in h.at.inside

pub returns-then-repeat-first-clause-goes : goal.returns-then-repeat-first-clause-goes
returns-then-repeat-first-clause-goes c s v g h =
    let_repeated c.args.items.now g s v (reader_in c.args.settings.now c.args.reader.now) c.args.k c.args.first c.args.body c.in_ok-repeat.repeat
    c.place_at.result c.refused.result h
    c.place_at.ensures c.refused.ensures c.if-repeat-first.true c.in_ok-repeat.ensures.place

pub overflow_add-first-2 : goal.overflow_add-first-2
overflow_add-first-2 c =
    let (s, v, g, h) = c.requires in
    let (first, term) = let_further c.args.items.now g s v (reader_in c.args.settings.now c.args.reader.now) c.args.k c.args.first c.args.body h in
    let within = first.within in
    omega arith

pub returns-clause-goes : goal.returns-clause-goes
returns-clause-goes c s v g h =
    opened_goes c.args.settings.now c.args.reader.now c.open_form.new.reader _ (c.args.first + 2) c.open_form.result c.open_form.ensures.opened
    c.args.items.now g s v c.open_form.ensures.fault
    (let_goes c.args.items.now g s v (reader_in c.args.settings.now c.args.reader.now) c.args.k c.args.first c.args.body c.in_ok-repeat.repeat
    c.place_at-2.result c.len.result c.len-2.result h
    c.place_at-2.ensures c.len.ensures (c.len-2.ensures ∙ c.args.reader.now.leaves.ok.0) c.if-repeat-first.false c.in_ok-repeat.ensures.place)

spends : (c : goal.After-open_form) (z : Table)
    → IfOk c.open_form.result
    (λ (t : Turn). Spends c.args.items.now z (reader_in c.args.settings.now c.args.reader.now) (Turn.Read c.args.k) z
    (reader_in c.args.settings.now c.open_form.new.reader) t)
spends c z =
    let (s, v, g, h) = c.requires in
    let (first, term) = let_further c.args.items.now g s v (reader_in c.args.settings.now c.args.reader.now) c.args.k c.args.first c.args.body h in
    opened_spends c.args.settings.now c.args.reader.now c.open_form.new.reader _ (c.args.first + 2) c.open_form.result c.open_form.ensures.opened
    c.args.items.now z c.args.k term (let later = first.later in omega arith)

pub returns-clause-inside : goal.returns-clause-inside
returns-clause-inside c = let (s, v, g, h) = c.requires in spends_inside _ _ _ _ _ _ c.open_form.result (spends c s)

pub returns-clause-few : goal.returns-clause-few
returns-clause-few c z = spends_few _ _ _ _ _ _ c.open_form.result (spends c z)

pub returns-clause-progress : goal.returns-clause-progress
returns-clause-progress c = let (s, v, g, h) = c.requires in spends_progress _ _ _ _ _ _ c.open_form.result (spends c s)
