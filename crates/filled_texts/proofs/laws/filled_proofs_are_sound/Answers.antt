use Rattle.readable_proofs.specs.Names.{vocabulary_of}
use Rattle.judged_texts.specs.Reading.{settings_of}
use Rattle.filled_texts.proofs.Sound.{refutes}
use Rattle.filled_texts.proofs.laws.filled_proofs_are_sound.Goals as goal

pub returns : goal.returns
returns c = λ problem options proof old new asked filled all.
    let checked = filled.checked in
    let settings = settings_of options in
    let source = checked.problem_text in
    let stands = checked.proof_text in
    let replaces = options.replaces_lets in
    let formed = c.proofs_are_well_formed.ensures proof settings checked.script checked.commands checked.after stands in
    let sound = c.scripts_are_well_sorted.ensures problem replaces checked.script source in
    let scoped = c.scripts_are_closed.ensures problem replaces checked.script source in
    let sorted = c.proofs_have_scoped_terms.ensures proof settings checked.script checked.commands checked.after sound scoped stands in
    let over = c.proofs_are_over_their_names.ensures.proof problem replaces checked.script proof settings checked.commands checked.after source stands in
    refutes c.valid_proofs_are_sound.ensures c.refuted_texts_justify_holes.ensures c.justified_commands_are_true.ensures.empty problem options proof
    old new asked filled all formed sorted (vocabulary_of checked.script checked.after.let_names) over
