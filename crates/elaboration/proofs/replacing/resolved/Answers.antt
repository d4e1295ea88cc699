use Rattle.elaboration.proofs.OneCommand.{lacks_for, places_for, replacement_is, resolves_of}
use Rattle.elaboration.proofs.replacing.resolved.Goals as goal

pub steps-requires-clause-resolves : goal.steps-requires-clause-resolves
steps-requires-clause-resolves c =
    let r = c.args.replacements.now in
    resolves_of r.symbols.now c.args.terms.now r.problem.now.assertions c.args.proof.now r.strict.now c.requires.fits c.args.i
    c.proofs_stand_for_one.ensures.one c.leaves_differ.ensures.table c.one_to_one.ensures c.requires.replaced

pub returns-in-Ok-clause-replaced : goal.returns-in-Ok-clause-replaced
returns-in-Ok-clause-replaced c =
    let r = c.args.replacements.now in
    let can = c.requires.fits in
    let now = c.in-Ok.ensures in
    replacement_is r.symbols.now c.args.terms.now r.problem.now.assertions c.args.proof.now r.strict.now can c.args.i c.steps.new.terms
    c.steps.ensures.keeps c.requires.replaced c.in-Ok.block.items now.added now.ends (now.few can.proof can.stand) (now.spelled can.proof can.stand)

pub returns-in-Ok-clause-places : goal.returns-in-Ok-clause-places
returns-in-Ok-clause-places c =
    let r = c.args.replacements.now in
    let can = c.requires.fits in
    places_for r.symbols.now c.args.terms.now r.problem.now.assertions c.args.proof.now r.strict.now can c.args.i c.steps.new.terms
    c.steps.ensures.keeps c.requires.replaced (c.steps.ensures.placed can.proof can.stand)

pub returns-in-Err-clause-places : goal.returns-in-Err-clause-places
returns-in-Err-clause-places c =
    let r = c.args.replacements.now in
    let can = c.requires.fits in
    places_for r.symbols.now c.args.terms.now r.problem.now.assertions c.args.proof.now r.strict.now can c.args.i c.steps.new.terms
    c.steps.ensures.keeps c.requires.replaced (c.steps.ensures.placed can.proof can.stand)

pub returns-in-Err-clause-full : goal.returns-in-Err-clause-full
returns-in-Err-clause-full c is =
    let r = c.args.replacements.now in
    let can = c.requires.fits in
    lacks_for r.symbols.now c.args.terms.now r.problem.now.assertions c.args.proof.now r.strict.now can c.args.i c.steps.new.terms
    c.steps.ensures.keeps c.requires.replaced (c.in-Err.ensures.full is can.proof can.stand)
