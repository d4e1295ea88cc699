use Rattle.std.proofs.Common.{◌+◌, sym, ◌∙◌, subst}
use Rattle.proof_prune.specs.Firsts.{AreNumbersTo}
use Rattle.proof_prune.proofs.Listing.{one_number, same_numbers}
use Rattle.proof_prune.proofs.used.add_marked.Goals as goal

pub returns-in_ok-push : goal.returns-in_ok-push
returns-in_ok-push c =
    subst (AreNumbersTo c.args.marks.now (c.args.number + 1)) (sym c.in_ok-push.ensures.items)
    (one_number c.args.marks.now c.args.number c.args.numbers.now.items c.requires.before (sym c.is_marked.ensures ∙ c.if-is_marked.true))

pub returns-else-is_marked : goal.returns-else-is_marked
returns-else-is_marked c = same_numbers c.args.marks.now c.args.number c.args.numbers.now.items c.requires.before (sym c.is_marked.ensures ∙ c.if-is_marked.false)
