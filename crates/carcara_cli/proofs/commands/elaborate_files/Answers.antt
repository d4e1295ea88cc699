use Rattle.std.proofs.Common.{ap, Err}
use Rattle.command_words.specs.Requests.{told}
use Rattle.named_proofs.specs.Written.{SinkView}
use Rattle.elaborated_texts.specs.Ending.{EndsSo}
use Rattle.carcara_cli.proofs.Finishing.{ends_by}
use Rattle.carcara_cli.specs.Finishing.{EndsBy}
use Rattle.carcara_cli.specs.OwnTexts.{elaboration}
use Rattle.carcara_cli.proofs.FilesInstead.{or_weaker, printed_of, unread_printed}
use Rattle.carcara_cli.proofs.commands.elaborate_files.Goals as goal

pub returns-clause-printed : goal.returns-clause-printed
returns-clause-printed g c =
    let a = c.args.asked.now in
    let problem = c.in-Ok.files.problem.items in
    let proof = c.in-Ok.files.proof.items in
    let bits = c.args.setting.now.most_bits in
    let first : SinkView = record { written = g.S.Sink.written c.args.out.now; faults = g.S.Sink.faults c.args.out.now } in
    let middle : SinkView = record { written = g.S.Sink.written c.elaborate-end.new.out; faults = g.S.Sink.faults c.elaborate-end.new.out } in
    let so : EndsSo problem a.options proof bits first middle c.elaborate-end.result =
    rw (← c.deref.ensures.value, ← c.deref-2.ensures.value) c.elaborate-end.ensures in
    let ends : EndsBy elaboration problem a.options proof bits first middle c.elaborate-end.result =
    ends_by problem a.options proof bits first middle c.elaborate-end.result so in
    printed_of elaboration bits (g.F.Folder.content c.args.folder.now) (g.F.Folder.faults c.args.folder.now) (g.F.Folder.faults c.read_both.new.folder) (told a)
    problem proof c.in-Ok.ensures.problem c.in-Ok.ensures.proof c.in-Ok.ensures.problem_within c.in-Ok.ensures.proof_within _ _ c.finish.result
    (c.finish.ensures elaboration problem a.options proof bits first ends).printed

pub returns-clause-write_fault : goal.returns-clause-write_fault
returns-clause-write_fault g c =
    let a = c.args.asked.now in
    let problem = c.in-Ok.files.problem.items in
    let proof = c.in-Ok.files.proof.items in
    let bits = c.args.setting.now.most_bits in
    let first : SinkView = record { written = g.S.Sink.written c.args.out.now; faults = g.S.Sink.faults c.args.out.now } in
    let middle : SinkView = record { written = g.S.Sink.written c.elaborate-end.new.out; faults = g.S.Sink.faults c.elaborate-end.new.out } in
    let so : EndsSo problem a.options proof bits first middle c.elaborate-end.result =
    rw (← c.deref.ensures.value, ← c.deref-2.ensures.value) c.elaborate-end.ensures in
    let ends : EndsBy elaboration problem a.options proof bits first middle c.elaborate-end.result =
    ends_by problem a.options proof bits first middle c.elaborate-end.result so in
    (c.finish.ensures elaboration problem a.options proof bits first ends).failed

pub returns-in-Err-clause-printed : goal.returns-in-Err-clause-printed
returns-in-Err-clause-printed g c =
    unread_printed elaboration c.args.setting.now.most_bits (g.F.Folder.content c.args.folder.now) (g.F.Folder.faults c.args.folder.now)
    (g.F.Folder.faults c.read_both.new.folder)
    (told c.args.asked.now) c.in-Err.stop (g.S.Sink.written c.args.out.now) (g.S.Sink.written c.report_unread.new.out) c.report_unread.result
    (λ e. c.in-Err.ensures.too_long (ap Err e)) (λ e. c.in-Err.ensures.fault (ap Err e)) c.report_unread.ensures.whole
    (λ either. or_weaker (λ h. (h.0, ap g.S.Sink.written h.1)) (c.report_unread.ensures.prefix either))
