use Rattle.std.proofs.Common.{sym}
use Rattle.judged_texts.specs.Reading.{settings_of}
use Rattle.elaborated_texts.proofs.elaborating.made_elaborations_are_sorted.Goals as goal

pub returns : goal.returns
returns c = λ problem options text s v both status new read made.
    let before = read.read.script in
    let source = read.read.problem_text in
    let proof = read.read.read.proof in
    let after = read.read.read.after in
    let stands = read.read.read.stands in
    let replaces = options.replaces_lets in
    let settings = settings_of options in
    let other = made.is.meant.proof in
    let is = (made.is.each proof before.assertions other read.read.read.refer read.read.assertions made.is.meant.stand).0 in
    let sound = c.scripts_are_well_sorted.ensures problem replaces before source in
    let scoped = c.scripts_are_closed.ensures problem replaces before source in
    let sorted = c.proofs_have_scoped_terms.ensures text settings before proof after sound scoped stands in (
      c.well_sorted_proofs_are_of_sorted_terms.ensures.elaborated s v new _ proof other made.is.meant.stand is sorted,
      c.read_proofs_have_sorts.ensures.elaborated problem replaces before text settings proof after s v new _ other source stands
          (sym read.is.script.sorts) is made.is.meant.stand,
    )
