use Rattle.std.proofs.Common.{sym, ◌∙◌}
use Rattle.rules_resolution.proofs.States.{mark_says}
use Rattle.rules_resolution.proofs.work.is_marked.Goals as goal

pub returns-in-Some-clause-yes : goal.returns-in-Some-clause-yes
returns-in-Some-clause-yes c falses marked e =
    sym (mark_says falses c.args.atom c.args.negative c.args.table.now c.args.marks.now c.in-Some.first marked c.in-Some.ensures.found) ∙ e

pub returns-in-Some-clause-no : goal.returns-in-Some-clause-no
returns-in-Some-clause-no c falses marked some e =
    sym (mark_says falses c.args.atom c.args.negative c.args.table.now c.args.marks.now c.in-Some.first marked c.in-Some.ensures.found) ∙ e
