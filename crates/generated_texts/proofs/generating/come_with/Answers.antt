use Rattle.std.proofs.Common.{◌≡◌, ◌∙◌, subst, sym, ap}
use Rattle.pair_pool.specs.Views.{PassView}
use Rattle.term_pool.specs.Views.{TermsView}
use Rattle.judged_texts.specs.declared.texts.Read.TheVariants as read
use Rattle.judged_texts.specs.Texts.{AreReadBoth, IsRead}
use Rattle.generated_texts.proofs.generating.come_with.Goals as goal

pub come_read-come-requires-clause-read : goal.come_read-come-requires-clause-read
come_read-come-requires-clause-read g c κs within =
    let t = c.args.texts.now in
    let v : TermsView = record { pool = c.read_for.new.pool; pass = c.in_ok-read.pass.view } in
    let s = c.read_for.new.symbols in
    let whole : IsRead t.problem.now t.options t.proof.now s v (read.Whole c.in-Whole.both) =
    subst (IsRead t.problem.now t.options t.proof.now s v) c.in-Whole.is c.in_ok-read.ensures.read in
    let same : c.new-terms.result ≡ v = λ i. record { pool = c.new-terms.ensures.pool i; pass = c.new-terms.ensures.pass i } in
    subst (λ w. AreReadBoth t.problem.now t.options t.proof.now s w c.in-Whole.both) (sym same) whole.0

pub returns-in-Whole : goal.returns-in-Whole
returns-in-Whole g c = λ bits places.
    c.come_read-come.ensures bits (ap (λ (p : PassView). p.places) c.new-terms.ensures.pass ∙ (c.in_ok-read.ensures.places ∙ places))
