use Rattle.std.proofs.Common.{refl}
use Rattle.std.proofs.lemmas.Result.{err_from_is_err_and}
use Rattle.alethe_reader.proofs.TextLoop.{begins, some_left, goes_on, fails, ends}
use Rattle.alethe_reader.proofs.text_reading.read_commands.Goals as goal

pub commands-init : goal.commands-init
commands-init c = begins _ _ _ _ _ c.requires.inside c.requires.few

pub read_command-requires-clause-left : goal.read_command-requires-clause-left
read_command-requires-clause-left c = some_left c.commands.invariant c.requires.left

pub returns-in_err-read_command-clause-reads : goal.returns-in_err-read_command-clause-reads
returns-in_err-read_command-clause-reads c =
    let p = err_from_is_err_and c.from_residual.result c.from_residual.ensures.1 in
    rw (p.1, p.2)
    (fails c.commands.invariant c.read_command.new.lexer c.read_command.ensures.grow.symbols c.read_command.ensures.grow.terms c.in_err-read_command.field-0.0 c.in_err-read_command.ensures.reads)

pub returns-then-not-branch-clause-reads : goal.returns-then-not-branch-clause-reads
returns-then-not-branch-clause-reads c =
    ends c.commands.invariant c.read_command.new.lexer c.read_command.ensures.grow.symbols c.read_command.ensures.grow.terms (rw c.if-not-branch.true at c.in_ok-read_command.ensures.reads)

pub commands-preserved : goal.commands-preserved
commands-preserved c =
    goes_on c.commands.invariant c.read_command.new.lexer c.read_command.ensures.grow.symbols c.read_command.ensures.grow.terms (rw c.if-not-branch.false at c.in_ok-read_command.ensures.reads)
    c.read_command.ensures.source
    ((rw c.if-not-branch.false at c.in_ok-read_command.ensures.inside) refl)
    ((rw c.if-not-branch.false at c.in_ok-read_command.ensures.short) refl)
    ((rw c.if-not-branch.false at c.in_ok-read_command.ensures.few) refl)
