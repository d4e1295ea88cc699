use Rattle.std.proofs.Common.{◌≡◌, refl}
use Rattle.rule_model.specs.declared.rules.Mode.{Mode}
use Rattle.rule_model.specs.Statuses.{Checking}
use Rattle.pruned_proofs.specs.Core.{IsCore}
use Rattle.pruned_proofs.specs.Reached.{AreReachedMarks, IsFirstEmpty}
use Rattle.judged_texts.specs.Reading.{checking_of, settings_of}
use Rattle.pruned_texts.proofs.Asserted.{asserted}
use Rattle.pruned_texts.proofs.ReadAgain.{refer_to, stand_for}
use Rattle.pruned_texts.proofs.laws.cores_have_texts.Goals as goal

pub returns : goal.returns
returns c = λ problem options text s v both first marks numbers check h is_first reached core.
    let script_one = c.texts_have_one_reading.ensures.script in
    let proof_one = c.proof_texts_have_one_reading.ensures.proof in
    let stand = stand_for script_one proof_one problem options text s v both h in
    let refer = refer_to script_one proof_one problem options text s v both h in
    let script = h.checked.script in
    let of = h.checked.commands in
    let checking : Checking = checking_of options script.assertions in
    let mode : checking.mode ≡ Mode.Check = rw check refl in
    let there : IsFirstEmpty of first = c.pruning_corresponds.ensures.first s v both.proof of first stand is_first in
    let marked : AreReachedMarks of first marks = c.pruning_corresponds.ensures.reached s v both.proof of first marks stand reached in
    let used : IsCore marks script.assertions of numbers =
    core of script.assertions stand refer (asserted checking of h.checked.statuses first marks mode h.checked.are h.checked.verdict marked) in
    let formed = c.proofs_are_well_formed.ensures text (settings_of options) script of h.checked.after h.checked.proof_text in
    let sorted = c.proofs_have_scoped_terms.ensures text (settings_of options) script of h.checked.after
    (c.scripts_are_well_sorted.ensures problem options.replaces_lets script h.checked.problem_text)
    (c.scripts_are_closed.ensures problem options.replaces_lets script h.checked.problem_text) h.checked.proof_text in record {
      refutation = record { checked = h.checked; first = first; is_first = there; marks = marks; reached = marked };
      numbers = numbers;
      core = used;
      unsatisfiable = c.cores_are_unsatisfiable.ensures checking of h.checked.statuses first marks numbers mode formed sorted h.checked.are
          h.checked.verdict there marked used;
      printed = refl;
    }
