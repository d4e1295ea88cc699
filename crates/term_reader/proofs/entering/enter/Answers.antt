use Rattle.std.proofs.Common.{◌≡◌, ℤ, to_z, of_z, rules, arith, subst, IfOk}
use Rattle.std.proofs.Math.Facts.{to_z-of_z}
use Rattle.std.specs.Int.{w128}
use Rattle.std.proofs.lemmas.Result.{err_from_is_err_and}
use Rattle.term_reader.specs.Entering.{IsNumber}
use Rattle.term_reader.specs.Leaving.{Spends}
use Rattle.term_reader.specs.ReadingViews.{reader_in}
use Rattle.term_reader.specs.declared.reader.Turn.{Turn}
use Rattle.term_reader.proofs.EnteringTerms.{faulty_goes, number_goes, name_here, symbol_goes, symbol_fails_goes, annotation_goes, annotation_further, opened_goes, opened_spends}
use Rattle.term_reader.proofs.InnermostForm.{spends_inside, spends_few, spends_progress}
use Rattle.term_reader.proofs.entering.enter.Goals as goal

pub name_of-name-requires : goal.name_of-name-requires
name_of-name-requires c = c.in-Symbol.ensures.1

pub returns-in_err-value-in-Symbol-clause-goes : goal.returns-in_err-value-in-Symbol-clause-goes
returns-in_err-value-in-Symbol-clause-goes c g a =
    let e = err_from_is_err_and c.from_residual-in_err-value-in-Symbol.result c.from_residual-in_err-value-in-Symbol.ensures.1 in
    rw (e.1, e.2)
    (symbol_fails_goes c.args.items.now g c.args.symbols.now c.args.terms.now (reader_in c.args.settings.now c.args.reader.now) c.args.k
    c.symbol_value.new.terms _ c.in_err-value-in-Symbol.field-0.0 _ (record { at = a; top = c.in-Symbol.ensures })
    (name_here c.args.items.now c.args.k c.place_at.result c.name_of-name.result.now c.place_at.ensures c.name_of-name.ensures)
    c.in_err-value-in-Symbol.ensures.reads)

pub overflow_add-result-in-Symbol : goal.overflow_add-result-in-Symbol
overflow_add-result-in-Symbol c = let (g, a) = c.requires.at in let within = a.inside in omega arith

pub enter_application-requires : goal.enter_application-requires
enter_application-requires c = let (g, a) = c.requires.at in record { top = (g, record { at = a; top = c.in-Application.ensures }); inside = c.requires.inside }

pub enter_let-requires : goal.enter_let-requires
enter_let-requires c = let (g, a) = c.requires.at in (c.args.symbols.now, c.args.terms.now, g, record { at = a; top = c.in-Let.ensures })

pub returns-in-Faulty-clause-goes : goal.returns-in-Faulty-clause-goes
returns-in-Faulty-clause-goes c g a =
    faulty_goes c.args.items.now g c.args.symbols.now c.args.terms.now (reader_in c.args.settings.now c.args.reader.now) c.args.k c.in-Faulty.refusal
    (record { at = a; top = c.in-Faulty.ensures })

pub returns-in_ok-number_value-in-Number-clause-goes : goal.returns-in_ok-number_value-in-Number-clause-goes
returns-in_ok-number_value-in-Number-clause-goes c g a =
    let e : to_z w128 (of_z w128 c.in-Number.n) ≡ c.in-Number.n = search (rules, to_z-of_z) in
    number_goes c.args.items.now g c.args.symbols.now c.args.terms.now (reader_in c.args.settings.now c.args.reader.now) c.args.k c.number_value.new.symbols
    c.in_ok-number_value-in-Number.field-0 c.in-Number.n (record { at = a; top = c.in-Number.ensures })
    c.number_value.ensures.symbols (subst (λ (n : ℤ). IsNumber c.number_value.new.symbols c.in_ok-number_value-in-Number.field-0 n) e
    c.in_ok-number_value-in-Number.ensures.value)

pub returns-in_ok-number_value-in-Number-clause-inside : goal.returns-in_ok-number_value-in-Number-clause-inside
returns-in_ok-number_value-in-Number-clause-inside c = let (g, a) = c.requires.at in let within = a.inside in omega arith

pub returns-in_ok-number_value-in-Number-clause-few : goal.returns-in_ok-number_value-in-Number-clause-few
returns-in_ok-number_value-in-Number-clause-few c = let (g, a) = c.requires.at in let within = a.inside in omega arith

pub returns-in_ok-number_value-in-Number-clause-progress : goal.returns-in_ok-number_value-in-Number-clause-progress
returns-in_ok-number_value-in-Number-clause-progress c = let (g, a) = c.requires.at in let within = a.inside in omega arith

pub returns-in_ok-value-in-Symbol-clause-goes : goal.returns-in_ok-value-in-Symbol-clause-goes
returns-in_ok-value-in-Symbol-clause-goes c g a =
    symbol_goes c.args.items.now g c.args.symbols.now c.args.terms.now (reader_in c.args.settings.now c.args.reader.now) c.args.k c.symbol_value.new.terms
    _ c.in_ok-value-in-Symbol.value (record { at = a; top = c.in-Symbol.ensures })
    (name_here c.args.items.now c.args.k c.place_at.result c.name_of-name.result.now c.place_at.ensures c.name_of-name.ensures)
    c.symbol_value.ensures.keeps c.in_ok-value-in-Symbol.ensures.reads

pub returns-in_ok-value-in-Symbol-clause-inside : goal.returns-in_ok-value-in-Symbol-clause-inside
returns-in_ok-value-in-Symbol-clause-inside c = let (g, a) = c.requires.at in let within = a.inside in omega arith

pub returns-in_ok-value-in-Symbol-clause-progress : goal.returns-in_ok-value-in-Symbol-clause-progress
returns-in_ok-value-in-Symbol-clause-progress c = let (g, a) = c.requires.at in let within = a.inside in omega arith

pub returns-in-Application-clause-goes : goal.returns-in-Application-clause-goes
returns-in-Application-clause-goes c g a = c.enter_application.ensures.goes g (record { at = a; top = c.in-Application.ensures })

pub returns-in-Let-clause-goes : goal.returns-in-Let-clause-goes
returns-in-Let-clause-goes c g a = c.enter_let.ensures.goes c.args.symbols.now c.args.terms.now g (record { at = a; top = c.in-Let.ensures })

pub returns-in-Annotated-clause-goes : goal.returns-in-Annotated-clause-goes
returns-in-Annotated-clause-goes c g a =
    opened_goes c.args.settings.now c.args.reader.now c.open_form.new.reader _ c.in-Annotated.term c.open_form.result c.open_form.ensures.opened
    c.args.items.now g c.args.symbols.now c.args.terms.now c.open_form.ensures.fault
    (annotation_goes c.args.items.now g c.args.symbols.now c.args.terms.now (reader_in c.args.settings.now c.args.reader.now) c.args.k c.in-Annotated.term _
    c.in-Annotated.end (record { at = a; top = c.in-Annotated.ensures }))

spends : (c : goal.After-open_form)
    → IfOk c.open_form.result
    (λ (t : Turn). Spends c.args.items.now c.args.symbols.now (reader_in c.args.settings.now c.args.reader.now) (Turn.Read c.args.k) c.args.symbols.now
    (reader_in c.args.settings.now c.open_form.new.reader) t)
spends c =
    let (g, a) = c.requires.at in
    let further = annotation_further c.args.items.now g c.args.symbols.now c.args.terms.now (reader_in c.args.settings.now c.args.reader.now) c.args.k
    c.in-Annotated.term _ c.in-Annotated.end (record { at = a; top = c.in-Annotated.ensures }) in
    opened_spends c.args.settings.now c.args.reader.now c.open_form.new.reader _ c.in-Annotated.term c.open_form.result c.open_form.ensures.opened
    c.args.items.now c.args.symbols.now c.args.k further (let later = further.later in omega arith)

pub returns-in-Annotated-clause-inside : goal.returns-in-Annotated-clause-inside
returns-in-Annotated-clause-inside c = spends_inside _ _ _ _ _ _ c.open_form.result (spends c)

pub returns-in-Annotated-clause-few : goal.returns-in-Annotated-clause-few
returns-in-Annotated-clause-few c = spends_few _ _ _ _ _ _ c.open_form.result (spends c)

pub returns-in-Annotated-clause-progress : goal.returns-in-Annotated-clause-progress
returns-in-Annotated-clause-progress c = spends_progress _ _ _ _ _ _ c.open_form.result (spends c)
