use Rattle.std.proofs.Common.{◌<◌, ◌∙◌, subst, sym}
use Rattle.rule_model.specs.Reading.{clause_at}
use Rattle.pruned_texts.proofs.ReadAgain.{none_there, stand_for}
use Rattle.pruned_texts.proofs.laws.refutations_have_ends.Goals as goal

pub returns : goal.returns
returns c = λ problem options text s v both h.
    let stand = stand_for c.texts_have_one_reading.ensures.script c.proof_texts_have_one_reading.ensures.proof problem options text s v both h in
    let of = h.checked.commands in
    let end = h.checked.verdict.1 in record {
      index = end.index;
      within = subst (λ n. end.index < n) (sym (c.commands_correspond.ensures.commands s v both.proof of stand)) end.within;
      scope = c.commands_correspond.ensures.scope s v both.proof of end.index stand ∙ end.scope;
      empty = none_there s v (clause_at both.proof end.index) (clause_at of end.index)
          (c.terms_correspond.ensures.clause s v both.proof of end.index stand) end.empty;
    }
