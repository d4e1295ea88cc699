use Rattle.std.proofs.Common.{◌≡◌, ◌∙◌, refl, subst, sym}
use Rattle.term_pool.specs.Views.{TermsView}
use Rattle.judged_texts.specs.declared.texts.Read.TheVariants as read
use Rattle.judged_texts.specs.Texts.{IsRead}
use Rattle.filled_texts.specs.ToFill.{WereRead}
use Rattle.filled_texts.proofs.Ends.{not_read}
use Rattle.filled_texts.proofs.filling.fill_with.Goals as goal

pub fill_read-end-requires-clause-read : goal.fill_read-end-requires-clause-read
fill_read-end-requires-clause-read g c κs within =
    let t = c.args.to_fill.now in
    let v : TermsView = record { pool = c.read_for.new.pool; pass = c.in-Ok.pass.view } in
    let s = c.read_for.new.symbols in
    let whole : IsRead t.texts.problem.now t.texts.options t.texts.proof.now s v (read.Whole c.in-Whole.both) =
    subst (IsRead t.texts.problem.now t.texts.options t.texts.proof.now s v) c.in-Whole.is c.in-Ok.ensures.read in
    let same : c.new-terms.result ≡ v = λ i. record { pool = c.new-terms.ensures.pool i; pass = c.new-terms.ensures.pass i } in
    subst (λ w. WereRead t s w c.in-Whole.both) (sym same) (record { read = whole.0.read; holds = whole.1 })

pub returns-in-Not : goal.returns-in-Not
returns-in-Not g c = λ own places.
    let t = c.args.to_fill.now in
    let v : TermsView = record { pool = c.read_for.new.pool; pass = c.in-Ok.pass.view } in
    let h : IsRead t.texts.problem.now t.texts.options t.texts.proof.now c.read_for.new.symbols v (read.Not c.in-Not.judgement) =
    subst (IsRead t.texts.problem.now t.texts.options t.texts.proof.now c.read_for.new.symbols v) c.in-Not.is c.in-Ok.ensures.read in
    (refl, not_read t.texts.problem.now t.texts.options t.texts.proof.now own c.in-Not.judgement (h own (c.in-Ok.ensures.places ∙ places)))
