use Rattle.std.proofs.Common.{◌≡◌, ◌<◌, ◌^◌, length, inr, subst, ap, ◌∙◌, arith, Err}
use Rattle.std.specs.Io.KnownBytes.{Appends}
use Rattle.file_ports.specs.Texts.{AppendsPrefix}
use Rattle.pruned_texts.specs.Needed.{core_text, IsCoreText}
use Rattle.pruned_texts.specs.Needing.{IsCoreOfRead}
use Rattle.pruned_texts.proofs.Ends.{all_terms, as_many}
use Rattle.pruned_texts.proofs.needing.write_core.Goals as goal

pub first_empty-from-requires : goal.first_empty-from-requires
first_empty-from-requires g c =
    let t = c.args.texts.now in
    c.refutations_have_ends.ensures t.problem.now t.options t.proof.now c.args.symbols.now c.args.terms.now c.args.both.now c.requires.valid

pub core-requires-clause-meant : goal.core-requires-clause-meant
core-requires-clause-meant g c =
    let read = c.requires.valid.read.read.read in record { means = read.proof; stand = read.refer }

pub core-requires-clause-assertions : goal.core-requires-clause-assertions
core-requires-clause-assertions g c =
    let read = c.requires.valid.read.read in
    rw c.assertions_of.ensures (all_terms c.args.symbols.now c.args.terms.now c.args.both.now.problem.assertions read.script.assertions read.assertions)

pub core-requires-clause-few : goal.core-requires-clause-few
core-requires-clause-few g c =
    let t = c.args.texts.now in
    let read = c.requires.valid.read.read in
    let count = as_many c.args.symbols.now c.args.terms.now c.args.both.now.problem.assertions read.script.assertions read.assertions in
    let short = c.problems_are_short.ensures t.problem.now t.options.replaces_lets read.script read.problem_text in
    let size = c.requires.size in
    let few : length c.args.both.now.problem.assertions < 2 ^ 32 = omega (arith, count, short, size) in
    rw c.assertions_of.ensures few

pub returns-in-Ok-write_whole : goal.returns-in-Ok-write_whole
returns-in-Ok-write_whole g c = λ bits.
    let t = c.args.texts.now in
    let s = c.args.symbols.now in
    let v = c.args.terms.now in
    let both = c.args.both.now in
    let before = g.S.Sink.written c.args.out.now in
    let after = g.S.Sink.written c.write_whole.new.out in
    let kept = c.in-Ok.kept.items in
    let numbers = c.in-Ok-core.numbers.items in
    let used : IsCoreOfRead s v both.problem.assertions both.proof kept numbers = rw (c.deref.ensures.value, c.assertions_of.ensures) at c.in-Ok-core.ensures.core in
    let is : IsCoreText t.problem.now t.options t.proof.now (core_text numbers) =
    c.cores_have_texts.ensures t.problem.now t.options t.proof.now s v both c.first_empty-from.result kept numbers c.requires.check c.requires.valid
    c.first_empty-from.ensures c.in-Ok.ensures used in
    let same : c.deref-3.result.now ≡ core_text numbers = c.deref-3.ensures.value ∙ c.in-Ok-core_text.ensures ∙ ap core_text c.deref-2.ensures.value in
    record { text = core_text numbers; is = is; printed = subst (λ b. Appends before after b) same c.in-Ok-write_whole.ensures.all }

pub returns-in-Err-Failed : goal.returns-in-Err-Failed
returns-in-Err-Failed g c = λ bits.
    let t = c.args.texts.now in
    let s = c.args.symbols.now in
    let v = c.args.terms.now in
    let both = c.args.both.now in
    let before = g.S.Sink.written c.args.out.now in
    let after = g.S.Sink.written c.write_whole.new.out in
    let kept = c.in-Ok.kept.items in
    let numbers = c.in-Ok-core.numbers.items in
    let used : IsCoreOfRead s v both.problem.assertions both.proof kept numbers = rw (c.deref.ensures.value, c.assertions_of.ensures) at c.in-Ok-core.ensures.core in
    let is : IsCoreText t.problem.now t.options t.proof.now (core_text numbers) =
    c.cores_have_texts.ensures t.problem.now t.options t.proof.now s v both c.first_empty-from.result kept numbers c.requires.check c.requires.valid
    c.first_empty-from.ensures c.in-Ok.ensures used in
    let same : c.deref-3.result.now ≡ core_text numbers = c.deref-3.ensures.value ∙ c.in-Ok-core_text.ensures ∙ ap core_text c.deref-2.ensures.value in (
      c.in-Err-Failed.ensures.failed (ap Err c.in-Err-Failed.field-0-is),
      record { text = core_text numbers; is = is; printed = subst (λ b. AppendsPrefix before after b) same c.in-Err-Failed.ensures.prefix },
    )

pub returns : goal.returns
returns g c = λ bits.
    let t = c.args.texts.now in
    let s = c.args.symbols.now in
    let v = c.args.terms.now in
    let both = c.args.both.now in
    let before = g.S.Sink.written c.args.out.now in
    let after = g.S.Sink.written c.write_whole.new.out in
    let kept = c.in-Ok.kept.items in
    let numbers = c.in-Ok-core.numbers.items in
    let used : IsCoreOfRead s v both.problem.assertions both.proof kept numbers = rw (c.deref.ensures.value, c.assertions_of.ensures) at c.in-Ok-core.ensures.core in
    let is : IsCoreText t.problem.now t.options t.proof.now (core_text numbers) =
    c.cores_have_texts.ensures t.problem.now t.options t.proof.now s v both c.first_empty-from.result kept numbers c.requires.check c.requires.valid
    c.first_empty-from.ensures c.in-Ok.ensures used in
    let same : c.deref-3.result.now ≡ core_text numbers = c.deref-3.ensures.value ∙ c.in-Ok-core_text.ensures ∙ ap core_text c.deref-2.ensures.value in
    inr (record { text = core_text numbers; is = is; printed = subst (λ b. AppendsPrefix before after b) same c.in-Err-Memory.ensures.prefix })
