use Rattle.std.proofs.Common.{◌≡◌, length, arith, refl}
use Rattle.std.proofs.lemmas.Bool.Decides.{nat_tests}
use Rattle.std.proofs.lemmas.Result.{err_from_is_err_and}
use Rattle.term_reader.specs.declared.reader.Turn.{Turn}
use Rattle.term_reader.proofs.ReadingTurns.{begins, some_turn, goes_on, fails, ends, spent, none_open}
use Rattle.term_reader.proofs.Staying.{grow_by_terms_then}
use Rattle.term_reader.proofs.EntriesKept.{none_named, kept_then}
use Rattle.term_reader.proofs.reading.read.Goals as goal

pub turns-init : goal.turns-init
turns-init c = (begins _ _ _ _ _ c.requires.item c.requires.idle, none_named _ _ refl)

pub enter-requires-clause-at : goal.enter-requires-clause-at
enter-requires-clause-at c =
    some_turn _ _ _ _ _ _ _ _ (Turn.Read c.in-Read.k) c.requires.idle (rw c.in-Read.is at c.turns.invariant.0)

pub returns-in_err-turn-in-Read-clause-reads : goal.returns-in_err-turn-in-Read-clause-reads
returns-in_err-turn-in-Read-clause-reads c =
    let p = err_from_is_err_and c.from_residual.result c.from_residual.ensures.1 in
    rw (p.1, p.2)
    (fails _ _ _ _ _ _ _ _ (Turn.Read c.in-Read.k) _ _ _ _ (rw c.in-Read.is at c.turns.invariant.0) c.in_err-turn-in-Read.ensures.goes
    c.enter.ensures.grow)

pub returns-in_err-turn-in-Read-clause-grow : goal.returns-in_err-turn-in-Read-clause-grow
returns-in_err-turn-in-Read-clause-grow c = grow_by_terms_then _ _ _ c.turns.invariant.0.grow c.enter.ensures.grow

pub returns-then-len-eq0-clause-reads : goal.returns-then-len-eq0-clause-reads
returns-then-len-eq0-clause-reads c =
    let none : length c.turns.reader.frames ≡ 0 = grind (arith, nat_tests, c.len.ensures, c.if-len-eq0.true) in
    ends _ _ _ _ _ _ _ _ c.in-Use.value c.in-Use.next (none_open c.turns.reader.frames none) (rw c.in-Use.is at c.turns.invariant.0)

pub returns-then-len-eq0-clause-spent : goal.returns-then-len-eq0-clause-spent
returns-then-len-eq0-clause-spent c =
    let none : length c.turns.reader.frames ≡ 0 = grind (arith, nat_tests, c.len.ensures, c.if-len-eq0.true) in
    spent _ _ _ _ _ _ _ _ _ _ (none_open c.turns.reader.frames none) (rw c.in-Use.is at c.turns.invariant.0) c.requires.idle c.requires.item

pub leave-requires-clause-read : goal.leave-requires-clause-read
leave-requires-clause-read c =
    some_turn _ _ _ _ _ _ _ _ (Turn.Use c.in-Use.value c.in-Use.next) c.requires.idle (rw c.in-Use.is at c.turns.invariant.0)

pub returns-in_err-turn-in-Use-clause-reads : goal.returns-in_err-turn-in-Use-clause-reads
returns-in_err-turn-in-Use-clause-reads c =
    let p = err_from_is_err_and c.from_residual-in_err-turn-in-Use.result c.from_residual-in_err-turn-in-Use.ensures.1 in
    rw (p.1, p.2)
    (fails _ _ _ _ _ _ _ _ (Turn.Use _ _) _ _ _ _ (rw c.in-Use.is at c.turns.invariant.0) c.in_err-turn-in-Use.ensures.goes
    c.leave.ensures.grow)

pub returns-in_err-turn-in-Use-clause-grow : goal.returns-in_err-turn-in-Use-clause-grow
returns-in_err-turn-in-Use-clause-grow c = grow_by_terms_then _ _ _ c.turns.invariant.0.grow c.leave.ensures.grow

pub turns-preserved-in_ok-turn-in-Read : goal.turns-preserved-in_ok-turn-in-Read
turns-preserved-in_ok-turn-in-Read c = (
  goes_on _ _ _ _ _ _ _ _ (Turn.Read c.in-Read.k) _ _ _ _ (rw c.in-Read.is at c.turns.invariant.0) c.in_ok-turn-in-Read.ensures.goes
      c.enter.ensures.grow
      c.in_ok-turn-in-Read.ensures.inside c.in_ok-turn-in-Read.ensures.few,
  kept_then _ _ _ c.turns.invariant.1 (none_named _ _ c.in_ok-turn-in-Read.ensures.own),
)

pub turns-preserved : goal.turns-preserved
turns-preserved c = (
  goes_on _ _ _ _ _ _ _ _ (Turn.Use c.in-Use.value c.in-Use.next) _ _ _ _ (rw c.in-Use.is at c.turns.invariant.0) c.in_ok-turn-in-Use.ensures.goes
      c.leave.ensures.grow
      c.in_ok-turn-in-Use.ensures.inside c.in_ok-turn-in-Use.ensures.few,
  kept_then _ _ _ c.turns.invariant.1 c.in_ok-turn-in-Use.ensures.own,
)

pub returns-then-len-eq0-clause-own : goal.returns-then-len-eq0-clause-own
returns-then-len-eq0-clause-own c = c.turns.invariant.1
