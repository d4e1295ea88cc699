use Rattle.std.proofs.Common.{◌≡◌, ◌∙◌, ap, length}
use Rattle.rule_model.specs.Scopes.{commands_in}
use Rattle.rule_model.specs.Statuses.{IsVerdict}
use Rattle.step_check.specs.Chunks.{statuses_in}
use Rattle.judged_texts.proofs.VerdictLemmas.{covers, verdict_within}
use Rattle.judged_texts.proofs.judging.judge_commands.Goals as goal

pub merge-verdict-requires : goal.merge-verdict-requires
merge-verdict-requires g c =
    let job = c.args.job.now in
    let can = c.requires.can in
    let same = c.commands_correspond.ensures.commands job.symbols.now c.args.terms.now job.proof.now can.proof can.stand in
    record { covers = rw c.deref-2.ensures.value (covers job.flags job.symbols.now c.args.terms.now _ job.proof.now can _ same c.in-Ok.ensures.statuses) }

pub named-requires-clause-count : goal.named-requires-clause-count
named-requires-clause-count g c =
    let job = c.args.job.now in
    let can = c.requires.can in
    let same = c.commands_correspond.ensures.commands job.symbols.now c.args.terms.now job.proof.now can.proof can.stand in
    let all : c.in-Ok-joined.list.items ≡ statuses_in c.in-Ok.pieces.items = c.in-Ok-joined.ensures ∙ ap statuses_in c.deref.ensures.value in
    ap length (c.deref-3.ensures.value ∙ all)
    ∙ covers job.flags job.symbols.now c.args.terms.now _ job.proof.now can _ same c.in-Ok.ensures.statuses

pub named-requires-clause-within : goal.named-requires-clause-within
named-requires-clause-within g c =
    let job = c.args.job.now in
    let can = c.requires.can in
    let same = c.commands_correspond.ensures.commands job.symbols.now c.args.terms.now job.proof.now can.proof can.stand in
    let counted : length (statuses_in c.in-Ok.pieces.items) ≡ commands_in job.proof.now =
    covers job.flags job.symbols.now c.args.terms.now _ job.proof.now can _ same c.in-Ok.ensures.statuses in
    let verdict : IsVerdict (statuses_in c.in-Ok.pieces.items) job.proof.now c.merge-verdict.result = rw c.deref-2.ensures.value at c.merge-verdict.ensures.verdict in
    rw (← counted) (verdict_within (statuses_in c.in-Ok.pieces.items) job.proof.now c.merge-verdict.result verdict)

pub returns-clause-judged : goal.returns-clause-judged
returns-clause-judged g c =
    let all : c.in-Ok-joined.list.items ≡ statuses_in c.in-Ok.pieces.items = c.in-Ok-joined.ensures ∙ ap statuses_in c.deref.ensures.value in
    record {
      statuses = statuses_in c.in-Ok.pieces.items;
      of = c.merge-verdict.result;
      are = c.in-Ok.ensures.statuses;
      verdict = rw c.deref-2.ensures.value at c.merge-verdict.ensures.verdict;
      named = rw (c.deref-3.ensures.value ∙ all) at c.in-Ok-named.ensures;
    }
