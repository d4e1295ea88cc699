use Rattle.std.proofs.Common.{sym}
use Rattle.rule_model.specs.Scopes.{outermost}
use Rattle.pruned_proofs.specs.Pruned.{pruned}
use Rattle.readable_proofs.specs.Names.{vocabulary_of}
use Rattle.readable_proofs.specs.ProofsOver.{IsProofOver}
use Rattle.judged_texts.specs.Reading.{settings_of}
use Rattle.pruned_texts.proofs.PrunedOver.{over_kept}
use Rattle.pruned_texts.proofs.ReadAgain.{is_problem, stand_for}
use Rattle.pruned_texts.proofs.laws.pruned_proofs_are_sorted.Goals as goal

pub returns-clause-problem : goal.returns-clause-problem
returns-clause-problem c = λ problem options text s v both h.
    is_problem c.texts_have_one_reading.ensures.script c.proof_texts_have_one_reading.ensures.proof problem options text s v both h

pub returns-clause-stand : goal.returns-clause-stand
returns-clause-stand c = λ problem options text s v both marks h.
    c.pruning_corresponds.ensures.left s v both.proof h.checked.commands marks
    (stand_for c.texts_have_one_reading.ensures.script c.proof_texts_have_one_reading.ensures.proof problem options text s v both h)

pub returns-clause-sorted : goal.returns-clause-sorted
returns-clause-sorted c = λ problem options text s v both marks h.
    let stand = stand_for c.texts_have_one_reading.ensures.script c.proof_texts_have_one_reading.ensures.proof problem options text s v both h in
    let script = h.checked.script in
    let of = h.checked.commands in
    let sorted = c.proofs_have_scoped_terms.ensures text (settings_of options) script of h.checked.after
    (c.scripts_are_well_sorted.ensures problem options.replaces_lets script h.checked.problem_text)
    (c.scripts_are_closed.ensures problem options.replaces_lets script h.checked.problem_text) h.checked.proof_text in
    c.well_sorted_proofs_are_of_sorted_terms.ensures.whole s v (pruned marks both.proof) (pruned marks of)
    (c.pruning_corresponds.ensures.left s v both.proof of marks stand)
    (c.pruned_proofs_are_well_formed.ensures.sorted of marks sorted)

pub returns-clause-sorts : goal.returns-clause-sorts
returns-clause-sorts c = λ problem options text s v both marks h.
    let script_one = c.texts_have_one_reading.ensures.script in
    let proof_one = c.proof_texts_have_one_reading.ensures.proof in
    let stand = stand_for script_one proof_one problem options text s v both h in
    let script = h.checked.script in
    let of = h.checked.commands in
    let source = h.checked.problem_text in
    let over = c.proofs_are_over_their_names.ensures.proof problem options.replaces_lets script text (settings_of options) of h.checked.after source
    h.checked.proof_text in
    let left_over : IsProofOver (vocabulary_of script h.checked.after.let_names) (pruned marks of) =
    over_kept (vocabulary_of script h.checked.after.let_names) marks outermost of over in
    c.named_proofs_have_sorts.ensures problem options.replaces_lets script h.checked.after.let_names s v (pruned marks both.proof) (pruned marks of)
    source (sym (is_problem script_one proof_one problem options text s v both h).script.sorts)
    (c.pruning_corresponds.ensures.left s v both.proof of marks stand) left_over
