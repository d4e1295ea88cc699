use Rattle.std.proofs.Common.{sym, subst}
use Rattle.judged_texts.specs.Judgement.{IsJudgement}
use Rattle.named_proofs.specs.Written.{SinkView}
use Rattle.pruned_texts.specs.Ending.{EndsSo}
use Rattle.pruned_texts.proofs.needing.print_read.Goals as goal

pub write_core-requires-clause-valid : goal.write_core-requires-clause-valid
write_core-requires-clause-valid g c =
    let t = c.args.needed.now.texts in record {
      read = c.read_texts_stay.ensures t.problem.now t.options t.proof.now c.args.symbols.now c.args.terms c.judge_read.new.terms c.args.both.now
          c.judge_read.ensures.keeps c.requires.read;
      checked = subst (IsJudgement t.problem.now t.options t.proof.now c.requires.bits.bits) c.in-Ok-Valid.field-0-is
          (c.in-Ok-Valid.ensures.judged c.requires.bits.bits c.requires.bits.are);
    }

pub write_pruned-requires-clause-valid : goal.write_pruned-requires-clause-valid
write_pruned-requires-clause-valid g c =
    let t = c.args.needed.now.texts in record {
      read = c.read_texts_stay.ensures t.problem.now t.options t.proof.now c.args.symbols.now c.args.terms c.judge_read.new.terms c.args.both.now
          c.judge_read.ensures.keeps c.requires.read;
      checked = subst (IsJudgement t.problem.now t.options t.proof.now c.requires.bits.bits) c.in-Ok-Valid.field-0-is
          (c.in-Ok-Valid.ensures.judged c.requires.bits.bits c.requires.bits.are);
    }

pub returns-in-Core : goal.returns-in-Core
returns-in-Core g c = λ bits places.
    let t = c.args.needed.now.texts in
    let first : SinkView = record { written = g.S.Sink.written c.args.out.now; faults = g.S.Sink.faults c.args.out.now } in
    let last : SinkView = record { written = g.S.Sink.written c.write_core.new.out; faults = g.S.Sink.faults c.write_core.new.out } in
    subst (λ part. EndsSo part t.problem.now t.options t.proof.now bits first last c.write_core.result) (sym c.in-Core.is) (c.write_core.ensures bits)

pub returns-in-Ok-Valid : goal.returns-in-Ok-Valid
returns-in-Ok-Valid g c = λ bits places.
    let t = c.args.needed.now.texts in
    let first : SinkView = record { written = g.S.Sink.written c.args.out.now; faults = g.S.Sink.faults c.args.out.now } in
    let last : SinkView = record { written = g.S.Sink.written c.write_pruned.new.out; faults = g.S.Sink.faults c.write_pruned.new.out } in
    subst (λ part. EndsSo part t.problem.now t.options t.proof.now bits first last c.write_pruned.result) (sym c.in-Commands.is)
    (c.write_pruned.ensures bits)
