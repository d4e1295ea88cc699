-- An item begins at the token, and its nodes are those that are read, once all variables that were pushed are in scope.
use Rattle.std.proofs.Common.{◌≡◌, ap, sym, subst}
use Rattle.std.proofs.lemmas.Result.{err_from_is_err_and}
use Rattle.sexpr.specs.Items.{Item}
use Rattle.problem_text.specs.Terms.{read_term}
use Rattle.text_items.specs.ItemsAt.{item_at}
use Rattle.term_reader.specs.ProblemViews.{HasEntered}
use Rattle.term_reader.specs.ReadingViews.{reader_in}
use Rattle.term_reader.proofs.Coming.{faulted, same_outcome}
use Rattle.term_reader.proofs.PushedVariables.{term_read}
use Rattle.term_reader.proofs.single_terms.TermReader.term.Goals as goal

pub new-items-requires : goal.new-items-requires
new-items-requires c =
    let (i, rest, goes) = c.items_begin_at_tokens.ensures c.args.lexer.now c.args.first c.requires.formed c.requires.first in
    rw c.deref.ensures.value (c.in_ok-read_item.ensures.item i rest goes).nested

pub read-requires-clause-item : goal.read-requires-clause-item
read-requires-clause-item c =
    let (i, rest, goes) = c.items_begin_at_tokens.ensures c.args.lexer.now c.args.first c.requires.formed c.requires.first in
    rw (c.new-items.ensures, c.deref.ensures.value) (c.in_ok-read_item.ensures.item i rest goes).some

pub returns-in_err-value-clause-read : goal.returns-in_err-value-clause-read
returns-in_err-value-clause-read c i rest sc p goes h =
    let is = err_from_is_err_and c.from_residual-in_err-value.result c.from_residual-in_err-value.ensures.1 in
    let same : item_at c.new-items.result 0 ≡ i = rw (c.new-items.ensures, c.deref.ensures.value) (c.in_ok-read_item.ensures.item i rest goes).item in
    let entered = subst (λ r. HasEntered c.args.symbols.now c.args.terms.now r sc p) (sym c.self.view_is) (c.in_ok-enter_pushed.ensures c.args.terms.now sc p h) in
    rw (is.1, is.2) (faulted (same_outcome (ap (λ (j : Item). read_term j p sc) (sym same)) (c.in_err-value.ensures.reads sc p entered.idle)))

pub returns-clause-read : goal.returns-clause-read
returns-clause-read c i rest sc p goes h =
    let same : item_at c.new-items.result 0 ≡ i = rw (c.new-items.ensures, c.deref.ensures.value) (c.in_ok-read_item.ensures.item i rest goes).item in
    let entered = subst (λ r. HasEntered c.args.symbols.now c.args.terms.now r sc p) (sym c.self.view_is) (c.in_ok-enter_pushed.ensures c.args.terms.now sc p h) in
    term_read _ _ _ (reader_in c.self.inside.settings c.read.new.reader) c.forget.new.self _ p _ c.in_ok-value.value entered.none c.forget.ensures
    (same_outcome (ap (λ (j : Item). read_term j p sc) (sym same)) (c.in_ok-value.ensures.reads sc p entered.idle))

pub read-requires-clause-idle : goal.read-requires-clause-idle
read-requires-clause-idle c =
    let (sc, p, h) = c.requires.reader in
    let entered = subst (λ r. HasEntered c.args.symbols.now c.args.terms.now r sc p) (sym c.self.view_is) (c.in_ok-enter_pushed.ensures c.args.terms.now sc p h) in
    (sc, p, entered.idle)
