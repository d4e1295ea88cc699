-- The variables come in scope. Where there are none, lists stay right.
use Rattle.std.proofs.Common.{◌≡◌, [], ◌∙◌, length, reverse, ap, sym, subst}
use Rattle.std.proofs.lemmas.Bool.{eqb-true}
use Rattle.std.proofs.lemmas.List.{nil_from_length}
use Rattle.term_reader.specs.ProblemViews.{IsReaderOf}
use Rattle.term_reader.proofs.PushedVariables.{some_entered, none_entered}
use Rattle.term_reader.proofs.single_terms.TermReader.enter_pushed.Goals as goal

pub returns-then-is_empty : goal.returns-then-is_empty
returns-then-is_empty c v sc p h =
    let r = c.self.inside in
    let none : c.deref-pushed.result.now ≡ [] = nil_from_length _ (eqb-true (length c.deref-pushed.result.now) 0 (sym c.is_empty.ensures ∙ c.if-is_empty.true)) in
    none_entered c.args.symbols.now v r.settings r.reader (reverse r.pushed.items) c.deref-pushed.result.now r.lately c.enter_each.new.names sc p (ap reverse c.deref-pushed.ensures.value) c.enter_each.ensures.own
    (c.in_ok-enter_each.ensures.scope v) (sym (ap reverse c.deref-pushed.ensures.value) ∙ ap reverse none) (subst (λ q. IsReaderOf c.args.symbols.now v q sc p) (sym c.self.view_is) h)

pub returns : goal.returns
returns c v sc p h =
    let r = c.self.inside in
    some_entered c.args.symbols.now v r.settings r.reader (reverse r.pushed.items) c.deref-pushed.result.now _ r.lately c.forget.new.self c.enter_each.new.names sc p (ap reverse c.deref-pushed.ensures.value)
    c.enter_each.ensures.own (c.in_ok-enter_each.ensures.scope v) (ap reverse c.clear.ensures.items) c.forget.ensures
    (subst (λ q. IsReaderOf c.args.symbols.now v q sc p) (sym c.self.view_is) h)
