use Rattle.std.proofs.Common.{◌≡◌, ◌∙◌, refl, subst, sym, ap}
use Rattle.pair_pool.specs.Views.{PassView}
use Rattle.term_pool.specs.Views.{TermsView}
use Rattle.judged_texts.specs.declared.texts.Read.TheVariants as read
use Rattle.judged_texts.specs.Texts.{AreReadBoth, IsRead}
use Rattle.named_proofs.specs.Written.{SinkView}
use Rattle.pruned_texts.proofs.Ends.{not_read_instead}
use Rattle.pruned_texts.proofs.needing.print_with.Goals as goal

pub print_read-end-requires-clause-read : goal.print_read-end-requires-clause-read
print_read-end-requires-clause-read g c κs within =
    let t = c.args.needed.now.texts in
    let v : TermsView = record { pool = c.read_for.new.pool; pass = c.in-Ok.pass.view } in
    let s = c.read_for.new.symbols in
    let whole : IsRead t.problem.now t.options t.proof.now s v (read.Whole c.in-Whole.both) =
    subst (IsRead t.problem.now t.options t.proof.now s v) c.in-Whole.is c.in-Ok.ensures.read in
    let same : c.new-terms.result ≡ v = λ i. record { pool = c.new-terms.ensures.pool i; pass = c.new-terms.ensures.pass i } in
    subst (λ w. AreReadBoth t.problem.now t.options t.proof.now s w c.in-Whole.both) (sym same) whole.0

pub print_read-end-requires-clause-bits : goal.print_read-end-requires-clause-bits
print_read-end-requires-clause-bits g c κs within =
    record {
      bits = c.requires.bits.bits;
      are = ap (λ (p : PassView). p.places) c.new-terms.ensures.pass ∙ (c.in-Ok.ensures.places ∙ c.requires.bits.are);
    }

pub returns-in-Not : goal.returns-in-Not
returns-in-Not g c = λ bits places.
    let t = c.args.needed.now.texts in
    let v : TermsView = record { pool = c.read_for.new.pool; pass = c.in-Ok.pass.view } in
    let h : IsRead t.problem.now t.options t.proof.now c.read_for.new.symbols v (read.Not c.in-Not.judgement) =
    subst (IsRead t.problem.now t.options t.proof.now c.read_for.new.symbols v) c.in-Not.is c.in-Ok.ensures.read in
    let first : SinkView = record { written = g.S.Sink.written c.args.out.now; faults = g.S.Sink.faults c.args.out.now } in
    (refl {a = first}, not_read_instead t.problem.now t.options t.proof.now bits c.in-Not.judgement (h bits (c.in-Ok.ensures.places ∙ places)))
