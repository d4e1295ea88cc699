use Rattle.judged_texts.specs.Reading.{checking_of, settings_of}
use Rattle.judged_texts.proofs.laws.valid_proofs_are_sound.Goals as goal

pub returns : goal.returns
returns c = λ text options proof checked.
    let formed = c.proofs_are_well_formed.ensures proof (settings_of options) checked.script checked.commands checked.after checked.proof_text in
    let sound = c.scripts_are_well_sorted.ensures text options.replaces_lets checked.script checked.problem_text in
    let scoped = c.scripts_are_closed.ensures text options.replaces_lets checked.script checked.problem_text in
    let sorted = c.proofs_have_scoped_terms.ensures proof (settings_of options) checked.script checked.commands checked.after sound scoped checked.proof_text in
    c.valid_proofs_are_refutations.ensures (checking_of options checked.script.assertions)
    checked.commands checked.statuses formed sorted checked.are checked.verdict
