use Rattle.std.proofs.Common.{◌≡◌, false, [], replicate, refl}
use Rattle.std.proofs.lemmas.List.Elements.{All-replicate}
use Rattle.rule_model.specs.declared.statuses.Status.{Status}
use Rattle.rule_model.specs.declared.statuses.Verdict.{Verdict}
use Rattle.rule_model.specs.Scopes.{outermost, commands_in}
use Rattle.printed_proofs.specs.Numbered.{numbered_proof}
use Rattle.printed_proofs.specs.PrintedProof.{behind_items}
use Rattle.accepted_replies.specs.Refutations.{in_check_mode}
use Rattle.accepted_replies.proofs.laws.refutations_are_accepted.Goals as goal

pub returns : goal.returns
returns c = λ question unknown s proof stands can refutes.
    let statuses = replicate (commands_in proof) Status.Ok in
    let same = c.numbered_proofs_are_the_same.ensures.ids proof in
    let ids = c.ids_play_no_part.ensures in
    record {
      script = s;
      commands = numbered_proof proof;
      after = behind_items [] s outermost proof;
      statuses = statuses;
      question_text = stands;
      proof_text = c.replies_are_read_back.ensures question s proof false stands can;
      are = ids.statuses (in_check_mode unknown s) proof (numbered_proof proof) statuses same refutes.ok;
      verdict =
          ids.verdict proof (numbered_proof proof) statuses Verdict.Valid same
          (All-replicate (λ z. z ≡ Status.Ok) (commands_in proof) Status.Ok refl, refutes.empty);
    }
