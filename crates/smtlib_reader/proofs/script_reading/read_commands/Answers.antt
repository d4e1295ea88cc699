use Rattle.std.proofs.Common.{refl}
use Rattle.std.proofs.lemmas.Result.{err_from_is_err_and}
use Rattle.smtlib_reader.proofs.ScriptLoop.{begins, some_left, then_reads, goes_on}
use Rattle.term_reader.proofs.Coming.{faulted}
use Rattle.term_reader.proofs.Staying.{grow_then}
use Rattle.smtlib_reader.proofs.script_reading.read_commands.Goals as goal

pub commands-init : goal.commands-init
commands-init c = begins _ _ _ _ c.requires.inside

pub read_command-requires-clause-left : goal.read_command-requires-clause-left
read_command-requires-clause-left c = some_left c.commands.invariant c.requires.left

pub returns-in_err-read_command-clause-reads : goal.returns-in_err-read_command-clause-reads
returns-in_err-read_command-clause-reads c = λ sc whole left session.
    let p = err_from_is_err_and c.from_residual.result c.from_residual.ensures.1 in
    rw (p.1, p.2) (faulted (then_reads c.commands.invariant c.in_err-read_command.ensures.reads c.read_command.ensures.grow sc whole left session))

pub returns-then-not-branch-clause-reads : goal.returns-then-not-branch-clause-reads
returns-then-not-branch-clause-reads c = λ sc whole left session.
    let h = then_reads c.commands.invariant (rw c.if-not-branch.true at c.in_ok-read_command.ensures.reads) c.read_command.ensures.grow sc whole left session in
    record { answer = record { value = tt; state = h.answer.0; is = h.answer.1; after = record { session = h.answer.2 } }; placed = h.placed }

pub commands-preserved : goal.commands-preserved
commands-preserved c =
    goes_on c.commands.invariant c.read_command.new.lexer (rw c.if-not-branch.false at c.in_ok-read_command.ensures.reads) c.read_command.ensures.grow c.read_command.ensures.source
    ((rw c.if-not-branch.false at c.in_ok-read_command.ensures.inside) refl)
    ((rw c.if-not-branch.false at c.in_ok-read_command.ensures.few) refl)
    ((rw c.if-not-branch.false at c.in_ok-read_command.ensures.few_sorts) refl)

pub returns-in_err-read_command-clause-grow : goal.returns-in_err-read_command-clause-grow
returns-in_err-read_command-clause-grow c = grow_then _ _ _ c.commands.invariant.grow c.read_command.ensures.grow

pub returns-then-not-branch-clause-grow : goal.returns-then-not-branch-clause-grow
returns-then-not-branch-clause-grow c = grow_then _ _ _ c.commands.invariant.grow c.read_command.ensures.grow
