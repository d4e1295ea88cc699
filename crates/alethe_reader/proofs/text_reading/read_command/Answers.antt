use Rattle.std.proofs.lemmas.Result.{err_from_is_err_and}
use Rattle.alethe_text.specs.ProofTexts.{performed}
use Rattle.alethe_commands.specs.CommandNodes.{command_said}
use Rattle.alethe_reader.specs.Settings.{proof_settings}
use Rattle.alethe_reader.proofs.TextCommands.{first_nested, has_first, none_left, command_fault, command_comes, command_named, performs_well, performs_not, ends_here, refused_here}
use Rattle.alethe_reader.proofs.text_reading.read_command.Goals as goal

pub returns-then-not-branch-clause-reads : goal.returns-then-not-branch-clause-reads
returns-then-not-branch-clause-reads c p whole left session =
    ends_here c.args.settings.now p whole (none_left c.args.settings.now p whole _ _ _ _ (rw c.if-not-branch.true at c.in_ok-next_item.ensures.item) left)
    session

pub new-items-requires : goal.new-items-requires
new-items-requires c = first_nested c.deref.ensures.value (rw c.if-not-branch.false at c.in_ok-next_item.ensures.item) c.requires.left

pub command_of-requires-clause-some : goal.command_of-requires-clause-some
command_of-requires-clause-some c =
    let (p, whole, left, session) = c.requires.left in
    (has_first c.args.settings.now p whole _ _ _ _ _ _ _ c.new-items.ensures c.deref.ensures.value
    (rw c.if-not-branch.false at c.in_ok-next_item.ensures.item) left).some

pub command_of-requires-clause-whole : goal.command_of-requires-clause-whole
command_of-requires-clause-whole c =
    let (p, whole, left, session) = c.requires.left in
    (has_first c.args.settings.now p whole _ _ _ _ _ _ _ c.new-items.ensures c.deref.ensures.value
    (rw c.if-not-branch.false at c.in_ok-next_item.ensures.item) left).ends

pub returns-in_err-command-clause-reads : goal.returns-in_err-command-clause-reads
returns-in_err-command-clause-reads c p whole left session =
    let e = err_from_is_err_and c.from_residual-in_err-command.result c.from_residual-in_err-command.ensures.1 in
    let h = has_first c.args.settings.now p whole _ _ _ _ _ _ _ c.new-items.ensures c.deref.ensures.value
    (rw c.if-not-branch.false at c.in_ok-next_item.ensures.item) left in
    rw (e.1, e.2) (refused_here c.args.settings.now p whole _ (command_fault c.args.settings.now p whole h _ c.in_err-command.ensures))

pub perform-requires-clause-named : goal.perform-requires-clause-named
perform-requires-clause-named c =
    let (p, whole, left, session) = c.requires.left in
    let h = has_first c.args.settings.now p whole _ _ _ _ _ _ _ c.new-items.ensures c.deref.ensures.value
    (rw c.if-not-branch.false at c.in_ok-next_item.ensures.item) left in
    command_named c.args.settings.now p whole h c.in_ok-command.command c.in_ok-command.ensures

pub returns-in_err-perform-clause-reads : goal.returns-in_err-perform-clause-reads
returns-in_err-perform-clause-reads c p whole left session =
    let e = err_from_is_err_and c.from_residual-in_err-perform.result c.from_residual-in_err-perform.ensures.1 in
    let h = has_first c.args.settings.now p whole _ _ _ _ _ _ _ c.new-items.ensures c.deref.ensures.value
    (rw c.if-not-branch.false at c.in_ok-next_item.ensures.item) left in
    rw (e.1, e.2)
    (performs_not c.args.settings.now p whole h.others h.behind (performed (proof_settings c.args.settings.now) (command_said _ c.in_ok-command.command) p)
    (command_comes c.args.settings.now p whole h c.in_ok-command.command c.in_ok-command.ensures) (c.in_err-perform.ensures.read p session))

pub returns-clause-reads : goal.returns-clause-reads
returns-clause-reads c p whole left session =
    let h = has_first c.args.settings.now p whole _ _ _ _ _ _ _ c.new-items.ensures c.deref.ensures.value
    (rw c.if-not-branch.false at c.in_ok-next_item.ensures.item) left in
    performs_well c.args.settings.now p whole h.others h.behind (performed (proof_settings c.args.settings.now) (command_said _ c.in_ok-command.command) p)
    h.left h.named.1
    (command_comes c.args.settings.now p whole h c.in_ok-command.command c.in_ok-command.ensures) (c.in_ok-perform.ensures.read p session)
