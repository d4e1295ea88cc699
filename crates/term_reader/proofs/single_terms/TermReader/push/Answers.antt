-- The variable stands before those that were pushed.
use Rattle.std.proofs.Common.{◌≡◌, ◌∷◌, [], reverse, ap, sym, subst, ◌∙◌}
use Rattle.std.proofs.lemmas.List.{reverse-append}
use Rattle.problem_text.specs.Names.{itself}
use Rattle.term_reader.specs.ProblemViews.{ReaderView, IsReaderOf}
use Rattle.term_reader.specs.ReadingViews.{reader_in}
use Rattle.term_reader.proofs.PushedVariables.{reader_pushed}
use Rattle.term_reader.proofs.single_terms.TermReader.push.Goals as goal

pub returns-clause-reader : goal.returns-clause-reader
returns-clause-reader c s v sc p x e h =
    let r = c.self.inside in
    let pushed : reverse c.push.new.self.items ≡ c.args.var ∷ reverse r.pushed.items = ap reverse c.in_ok-push.ensures.items
    ∙ reverse-append r.pushed.items (c.args.var ∷ []) in
    let before : ReaderView = record { reader = reader_in r.settings r.reader; pushed = reverse r.pushed.items; lately = r.lately } in
    subst (λ ks. IsReaderOf s v (record before { pushed = ks }) sc (record p { scope = itself x ∷ p.scope })) (sym pushed)
    (reader_pushed s v before c.args.var sc p x e (subst (λ q. IsReaderOf s v q sc p) (sym c.self.view_is) h))
