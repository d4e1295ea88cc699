use Rattle.std.proofs.Common.{refl}
use Rattle.std.proofs.lemmas.Result.{err_from_is_err_and}
use Rattle.smtlib_reader.proofs.ScriptCommands.{has_first, are_nested, nothing_left, command_fault, exit_read, performed, not_performed}
use Rattle.smtlib_reader.proofs.script_reading.read_command.Goals as goal

pub returns-then-not-branch-clause-reads : goal.returns-then-not-branch-clause-reads
returns-then-not-branch-clause-reads c sc whole left session = nothing_left (rw c.if-not-branch.true at c.in_ok-next_item.ensures.item) left session _ _

pub new-items-requires : goal.new-items-requires
new-items-requires c =
    let (sc, whole, left, session) = c.requires.left in
    are_nested (rw c.if-not-branch.false at c.in_ok-next_item.ensures.item) c.deref.ensures.value left

pub command_of-requires-clause-some : goal.command_of-requires-clause-some
command_of-requires-clause-some c =
    let (sc, whole, left, session) = c.requires.left in
    (has_first (rw c.if-not-branch.false at c.in_ok-next_item.ensures.item) c.deref.ensures.value left c.new-items.result c.new-items.ensures).some

pub command_of-requires-clause-whole : goal.command_of-requires-clause-whole
command_of-requires-clause-whole c =
    let (sc, whole, left, session) = c.requires.left in
    (has_first (rw c.if-not-branch.false at c.in_ok-next_item.ensures.item) c.deref.ensures.value left c.new-items.result c.new-items.ensures).all

pub returns-in_err-command-clause-reads : goal.returns-in_err-command-clause-reads
returns-in_err-command-clause-reads c sc whole left session =
    let p = err_from_is_err_and c.from_residual-in_err-command.result c.from_residual-in_err-command.ensures.1 in
    let h = has_first (rw c.if-not-branch.false at c.in_ok-next_item.ensures.item) c.deref.ensures.value left c.new-items.result c.new-items.ensures in
    rw (p.1, p.2) (command_fault h session.is_checked _ _ _ c.in_err-command.field-0.0 c.in_err-command.ensures)

pub returns-then-is_exit-clause-reads : goal.returns-then-is_exit-clause-reads
returns-then-is_exit-clause-reads c sc whole left session =
    let h = has_first (rw c.if-not-branch.false at c.in_ok-next_item.ensures.item) c.deref.ensures.value left c.new-items.result c.new-items.ensures in
    exit_read h session.is_checked c.in_ok-command.command c.in_ok-command.ensures.0 (c.is_exit.ensures.0 c.if-is_exit.true) session

pub returns-in_err-perform-clause-reads : goal.returns-in_err-perform-clause-reads
returns-in_err-perform-clause-reads c sc whole left session =
    let p = err_from_is_err_and c.from_residual-in_err-perform.result c.from_residual-in_err-perform.ensures.1 in
    let h = has_first (rw c.if-not-branch.false at c.in_ok-next_item.ensures.item) c.deref.ensures.value left c.new-items.result c.new-items.ensures in
    rw (p.1, p.2) (not_performed h session.is_checked c.in_ok-command.command c.in_ok-command.ensures.0 (c.is_exit.ensures.1 c.if-is_exit.false) (c.in_err-perform.ensures.performs sc session))

pub returns-clause-reads : goal.returns-clause-reads
returns-clause-reads c sc whole left session =
    let h = has_first (rw c.if-not-branch.false at c.in_ok-next_item.ensures.item) c.deref.ensures.value left c.new-items.result c.new-items.ensures in
    performed h session.is_checked c.in_ok-command.command c.in_ok-command.ensures.0 (c.is_exit.ensures.1 c.if-is_exit.false) refl (c.in_ok-perform.ensures.performs sc session)
