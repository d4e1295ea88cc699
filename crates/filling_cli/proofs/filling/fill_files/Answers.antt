use Rattle.std.proofs.Common.{ap, inl, inr, subst, Err}
use Rattle.command_words.specs.Requests.{told}
use Rattle.hole_fillers.specs.Benches.{seats, with_budget}
use Rattle.filled_texts.specs.Filled.{AreAskedInOrder, EndsSo}
use Rattle.carcara_cli.specs.TopCall.{IsPrinted}
use Rattle.filling_cli.specs.Ending.{ComesOf}
use Rattle.filling_cli.specs.Filling.{FillsTo}
use Rattle.filling_cli.proofs.Coming.{asks, comes, or_weaker, printed_of, unread_printed}
use Rattle.filling_cli.proofs.filling.fill_files.Goals as goal

pub returns : goal.returns
returns g c =
    let a = c.args.asked.now in
    let problem = c.in-Ok.files.problem.items in
    let proof = c.in-Ok.files.proof.items in
    let bits = c.args.setting.now.most_bits in
    let content = g.F.Folder.content c.args.folder.now in
    let before = g.F.Folder.faults c.args.folder.now in
    let after = g.F.Folder.faults c.read_both.new.folder in
    let old = seats (λ b. (goal.Filler-dyn g (b.vtable, b.value)).budget b.value) (λ b. (goal.Filler-dyn g (b.vtable, b.value)).book b.value)
    c.args.bench.now.fillers.items in
    let new = seats (λ b. (goal.Filler-dyn g (b.vtable, b.value)).budget b.value) (λ b. (goal.Filler-dyn g (b.vtable, b.value)).book b.value)
    c.fill-end.new.bench.fillers.items in
    let ends : EndsSo problem a.options proof bits (with_budget old) new c.fill-end.result =
    subst (λ x. EndsSo problem a.options proof bits x new c.fill-end.result) c.retire.ensures.kept
    (rw (← c.deref.ensures.value, ← c.deref-2.ensures.value) c.fill-end.ensures.ends) in
    let in_order : AreAskedInOrder problem a.options proof bits (with_budget old) new =
    subst (λ x. AreAskedInOrder problem a.options proof bits x new) c.retire.ensures.kept
    (rw (← c.deref.ensures.value, ← c.deref-2.ensures.value) c.fill-end.ensures.asks) in record {
      printed = printed_of (ComesOf c.fill-end.result) (FillsTo bits content before after (told a) (with_budget old) new)
          (comes bits content before after (told a) problem proof c.in-Ok.ensures.problem c.in-Ok.ensures.proof c.in-Ok.ensures.problem_within
          c.in-Ok.ensures.proof_within old new c.fill-end.result ends) _ _ c.finish.result c.finish.ensures.printed;
      asks = asks bits content before after (told a) problem proof c.in-Ok.ensures.problem c.in-Ok.ensures.proof c.in-Ok.ensures.problem_within
          c.in-Ok.ensures.proof_within old new c.finish.result in_order;
      write_fault = c.finish.ensures.write_fault;
    }

pub returns-in-Err : goal.returns-in-Err
returns-in-Err g c =
    let content = g.F.Folder.content c.args.folder.now in
    let before = g.F.Folder.faults c.args.folder.now in
    let after = g.F.Folder.faults c.read_both.new.folder in
    let p = told c.args.asked.now in
    let bits = c.args.setting.now.most_bits in
    let new = seats (λ b. (goal.Filler-dyn g (b.vtable, b.value)).budget b.value) (λ b. (goal.Filler-dyn g (b.vtable, b.value)).book b.value)
    c.retire.new.self.fillers.items in
    let first = g.S.Sink.written c.args.out.now in
    let last = g.S.Sink.written c.report_unread.new.out in record {
      printed = subst (λ x. IsPrinted (FillsTo bits content before after p x new) first last c.report_unread.result) c.retire.ensures.kept
          (unread_printed bits content before after p new c.in-Err.stop (λ e. c.in-Err.ensures.too_long (ap Err e)) (λ e. c.in-Err.ensures.fault (ap Err e))
          first last c.report_unread.result c.report_unread.ensures.whole
          (λ either. or_weaker (λ h. (h.0, ap g.S.Sink.written h.1)) (c.report_unread.ensures.prefix either)));
      asks = inr (inl c.retire.ensures.kept);
      write_fault = c.report_unread.ensures.failed;
    }
