use Rattle.std.proofs.Common.{◌≡◌, ◌∙◌, ap, refl, subst, sym}
use Rattle.named_proofs.specs.Written.{SinkView}
use Rattle.elaborated_texts.specs.Ending.{EndsSo}
use Rattle.elaborated_texts.proofs.AnyPool.{any_pool, nothing_written}
use Rattle.elaborated_texts.proofs.elaborating.elaborate.Goals as goal

pub pools-init : goal.pools-init
pools-init g c = record { written = refl; faults = refl }

pub returns-then-not-is_full : goal.returns-then-not-is_full
returns-then-not-is_full g c =
    let t = c.args.texts.now in
    let first : SinkView = record { written = g.S.Sink.written c.args.out.now; faults = g.S.Sink.faults c.args.out.now } in
    let before : SinkView = record { written = g.S.Sink.written c.pools.out; faults = g.S.Sink.faults c.pools.out } in
    let same : before ≡ first = λ i. record { written = c.pools.invariant.written i; faults = c.pools.invariant.faults i } in
    let after : SinkView = record { written = g.S.Sink.written c.elaborate_into-end.new.out; faults = g.S.Sink.faults c.elaborate_into-end.new.out } in
    subst (λ x. EndsSo t.problem.now t.options t.proof.now c.args.most_bits x after c.elaborate_into-end.result) same
    (any_pool t.problem.now t.options t.proof.now _ c.args.most_bits before after c.elaborate_into-end.result (sym c.is_full.ensures ∙ c.if-not-is_full.true)
    c.elaborate_into-end.ensures)

pub pools-preserved : goal.pools-preserved
pools-preserved g c =
    let t = c.args.texts.now in
    let before : SinkView = record { written = g.S.Sink.written c.pools.out; faults = g.S.Sink.faults c.pools.out } in
    let after : SinkView = record { written = g.S.Sink.written c.elaborate_into-end.new.out; faults = g.S.Sink.faults c.elaborate_into-end.new.out } in
    let same : after ≡ before =
    nothing_written t.problem.now t.options t.proof.now _ c.args.most_bits before after c.elaborate_into-end.result
    (sym c.is_full.ensures ∙ c.if-not-is_full.false)
    c.elaborate_into-end.ensures in record {
      written = ap (λ (x : SinkView). x.written) same ∙ c.pools.invariant.written;
      faults = ap (λ (x : SinkView). x.faults) same ∙ c.pools.invariant.faults;
    }

pub returns : goal.returns
returns g c =
    let t = c.args.texts.now in
    let first : SinkView = record { written = g.S.Sink.written c.args.out.now; faults = g.S.Sink.faults c.args.out.now } in
    let before : SinkView = record { written = g.S.Sink.written c.pools.out; faults = g.S.Sink.faults c.pools.out } in
    let same : before ≡ first = λ i. record { written = c.pools.invariant.written i; faults = c.pools.invariant.faults i } in
    let after : SinkView = record { written = g.S.Sink.written c.elaborate_into.new.out; faults = g.S.Sink.faults c.elaborate_into.new.out } in
    subst (λ x. EndsSo t.problem.now t.options t.proof.now c.args.most_bits x after c.elaborate_into.result) same c.elaborate_into.ensures
