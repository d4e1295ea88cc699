use Rattle.std.proofs.Common.{◌≡◌, ◌∙◌, refl, subst, sym}
use Rattle.term_pool.specs.Views.{TermsView}
use Rattle.judged_texts.specs.declared.texts.Read.TheVariants as read
use Rattle.named_proofs.specs.Written.{SinkView}
use Rattle.judged_texts.specs.Texts.{AreReadBoth, IsRead}
use Rattle.elaborated_texts.proofs.TextsInstead.{not_read_instead}
use Rattle.elaborated_texts.proofs.elaborating.elaborate_with.Goals as goal

pub elaborate_read-end-requires-clause-read : goal.elaborate_read-end-requires-clause-read
elaborate_read-end-requires-clause-read g c κs within =
    let t = c.args.texts.now in
    let v : TermsView = record { pool = c.read_for.new.pool; pass = c.in-Ok.pass.view } in
    let s = c.read_for.new.symbols in
    let whole : IsRead t.problem.now t.options t.proof.now s v (read.Whole c.in-Whole.both) =
    subst (IsRead t.problem.now t.options t.proof.now s v) c.in-Whole.is c.in-Ok.ensures.read in
    let same : c.new-terms.result ≡ v = λ i. record { pool = c.new-terms.ensures.pool i; pass = c.new-terms.ensures.pass i } in
    subst (λ w. AreReadBoth t.problem.now t.options t.proof.now s w c.in-Whole.both) (sym same) whole.0

pub returns-in-Not : goal.returns-in-Not
returns-in-Not g c = λ bits places.
    let t = c.args.texts.now in
    let v : TermsView = record { pool = c.read_for.new.pool; pass = c.in-Ok.pass.view } in
    let h : IsRead t.problem.now t.options t.proof.now c.read_for.new.symbols v (read.Not c.in-Not.judgement) =
    subst (IsRead t.problem.now t.options t.proof.now c.read_for.new.symbols v) c.in-Not.is c.in-Ok.ensures.read in
    let first : SinkView = record { written = g.S.Sink.written c.args.out.now; faults = g.S.Sink.faults c.args.out.now } in
    (refl {a = first}, not_read_instead t.problem.now t.options t.proof.now bits c.in-Not.judgement (h bits (c.in-Ok.ensures.places ∙ places)))
