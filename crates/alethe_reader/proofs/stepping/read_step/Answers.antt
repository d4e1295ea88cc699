-- The id, then the literals, then the attributes, and what is added.
use Rattle.std.proofs.Common.{refl}
use Rattle.std.proofs.lemmas.Result.{err_from_is_err_and}
use Rattle.alethe_reader.specs.Settings.{proof_settings}
use Rattle.alethe_reader.proofs.StepReading.{no_standing, stands, some_reader, no_clause, stands_behind, no_attributes, no_room, may_add, is_stepped}
use Rattle.alethe_reader.proofs.stepping.read_step.Goals as goal

pub returns-in_err-standing-clause-read : goal.returns-in_err-standing-clause-read
returns-in_err-standing-clause-read c p session =
    let is = err_from_is_err_and c.from_residual.result c.from_residual.ensures.1 in
    rw (is.1, is.2) (no_standing session c.named_at-id.result c.named_at-id.ensures c.requires.name _ _ c.in_err-standing.field-0.0 c.in_err-standing.ensures)

pub stand-requires : goal.stand-requires
stand-requires c =
    let (p, session) = c.requires.session in
    let h = stands session c.named_at-id.result c.named_at-id.ensures c.requires.name c.in_ok-standing.ensures in
    (c.args.symbols.now, c.args.terms.now, proof_settings c.args.settings.now, c.args.session.now.ids.used, p, _, h.here, session.reader, h.closes)

pub formulas_at-requires-clause-reader : goal.formulas_at-requires-clause-reader
formulas_at-requires-clause-reader c =
    let (p, session) = c.requires.session in
    some_reader session c.named_at-id.result c.named_at-id.ensures c.requires.name c.in_ok-standing.ensures c.stand.ensures

pub returns-in_err-formulas_at-clause-read : goal.returns-in_err-formulas_at-clause-read
returns-in_err-formulas_at-clause-read c p session =
    let is = err_from_is_err_and c.from_residual-in_err-formulas_at.result c.from_residual-in_err-formulas_at.ensures.1 in
    rw (is.1, is.2) (no_clause session c.named_at-id.result c.named_at-id.ensures c.requires.name c.in_ok-standing.ensures c.stand.ensures _ _ c.in_err-formulas_at.ensures.read)

pub attributes_at-requires-clause-stands : goal.attributes_at-requires-clause-stands
attributes_at-requires-clause-stands c =
    let (p, session) = c.requires.session in
    stands_behind session c.named_at-id.result c.named_at-id.ensures c.requires.name c.in_ok-standing.ensures c.stand.ensures _ c.in_ok-formulas_at.ensures.read _

pub returns-in_err-attributes_at-clause-read : goal.returns-in_err-attributes_at-clause-read
returns-in_err-attributes_at-clause-read c p session =
    let is = err_from_is_err_and c.from_residual-in_err-attributes_at.result c.from_residual-in_err-attributes_at.ensures.1 in
    rw (is.1, is.2) (no_attributes session c.named_at-id.result c.named_at-id.ensures c.requires.name c.in_ok-standing.ensures c.stand.ensures _ c.in_ok-formulas_at.ensures.read _ (rw c.count.ensures at c.rule_word-word.ensures) c.rule_named-rule.ensures _ _ c.attributes_at.ensures.grow.symbols c.attributes_at.ensures.grow.terms
    c.in_err-attributes_at.ensures.read)

pub add_step-requires-clause-step : goal.add_step-requires-clause-step
add_step-requires-clause-step c =
    let (p, session) = c.requires.session in
    may_add session c.named_at-id.result c.named_at-id.ensures c.requires.name c.in_ok-standing.ensures c.stand.ensures _ c.in_ok-formulas_at.ensures.read _ (rw c.count.ensures at c.rule_word-word.ensures) c.rule_named-rule.ensures _ _ c.attributes_at.ensures.grow.symbols c.attributes_at.ensures.grow.terms
    c.in_ok-attributes_at.ensures.read c.formulas_at.ensures.grow.symbols c.formulas_at.ensures.grow.terms c.attributes_at.ensures.others refl c.requires.rule _ refl refl refl refl

pub returns-in_err-add_step-clause-read : goal.returns-in_err-add_step-clause-read
returns-in_err-add_step-clause-read c p session =
    let is = err_from_is_err_and c.from_residual-in_err-add_step.result c.from_residual-in_err-add_step.ensures.1 in
    rw (is.1, is.2, c.in_err-add_step.ensures.refused) (no_room session c.named_at-id.result c.named_at-id.ensures c.requires.name c.in_ok-standing.ensures c.stand.ensures _ c.in_ok-formulas_at.ensures.read _ (rw c.count.ensures at c.rule_word-word.ensures) c.rule_named-rule.ensures _ _ c.attributes_at.ensures.grow.symbols c.attributes_at.ensures.grow.terms
    c.in_ok-attributes_at.ensures.read)

pub returns-clause-read : goal.returns-clause-read
returns-clause-read c p session =
    is_stepped session c.named_at-id.result c.named_at-id.ensures c.requires.name c.in_ok-standing.ensures c.stand.ensures _ c.in_ok-formulas_at.ensures.read _ (rw c.count.ensures at c.rule_word-word.ensures) c.rule_named-rule.ensures _ _ c.attributes_at.ensures.grow.symbols c.attributes_at.ensures.grow.terms
    c.in_ok-attributes_at.ensures.read c.formulas_at.ensures.grow.symbols c.formulas_at.ensures.grow.terms c.attributes_at.ensures.others refl c.requires.rule _ refl refl refl refl c.add_step.new.session c.in_ok-add_step.ensures.added
