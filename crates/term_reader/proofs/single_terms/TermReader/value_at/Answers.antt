-- The term is read, or found among the lists that are kept, once all variables that were pushed are in scope.
use Rattle.std.proofs.Common.{sym, subst}
use Rattle.term_reader.specs.ProblemViews.{HasEntered}
use Rattle.term_reader.specs.ReadingViews.{reader_in}
use Rattle.term_reader.proofs.PushedVariables.{value_read}
use Rattle.term_reader.proofs.single_terms.TermReader.value_at.Goals as goal

pub returns-clause-read : goal.returns-clause-read
returns-clause-read c sc p h =
    let entered = subst (λ r. HasEntered c.args.symbols.now c.args.terms.now r sc p) (sym c.self.view_is) (c.in_ok-enter_pushed.ensures c.args.terms.now sc p h) in
    value_read _ _ _ (reader_in c.self.inside.settings c.read_once.new.reader) c.read_once.new.lately _ p _ c.read_once.result entered.none
    (c.read_once.ensures.reads sc p entered.idle entered.lists)

pub read_once-requires-clause-idle : goal.read_once-requires-clause-idle
read_once-requires-clause-idle c =
    let (sc, p, h) = c.requires.reader in
    let entered = subst (λ r. HasEntered c.args.symbols.now c.args.terms.now r sc p) (sym c.self.view_is) (c.in_ok-enter_pushed.ensures c.args.terms.now sc p h) in
    (sc, p, entered.idle)
