use Rattle.std.proofs.lemmas.Result.{on_ok_weaker}
use Rattle.alethe_printer.proofs.ClauseEnds.{clause_ends}
use Rattle.alethe_printer.proofs.commands.end_clause.Goals as goal

pub returns : goal.returns
returns c =
    on_ok_weaker c.begin_arguments.result (λ begun plan s v step at u sorts given.
    clause_ends plan s v c.args.proof.now c.args.command c.args.page.now c.begin_arguments.new.page c.args.stages.now.items c.push.new.self.items
    c.begin_arguments.new.stages.items c.push_rule.new.text.items step at c.requires.within
    (record { none = c.requires.nothing_left; tasks = c.begin_arguments.ensures.tasks; names = c.begin_arguments.ensures.names }) u given
    c.in_ok-push_rule.ensures c.in_ok-push.ensures.items begun) c.begin_arguments.ensures.begun
