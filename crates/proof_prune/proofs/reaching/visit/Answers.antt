use Rattle.std.proofs.Common.{sym, ◌∙◌, arith}
use Rattle.proof_prune.proofs.Marks.{ok_then_3}
use Rattle.proof_prune.proofs.Stepping.{under_before, closes_within, marked, passed}
use Rattle.proof_prune.proofs.reaching.visit.Goals as goal

pub mark_under-requires-clause-under : goal.mark_under-requires-clause-under
mark_under-requires-clause-under c j u =
    let b = under_before c.args.proof.now c.count-commands.ensures.well_formed c.args.i c.requires.within j u in
    let n = c.requires.marks.count in
    let w = c.requires.within in omega arith

pub mark_under-requires-clause-closes : goal.mark_under-requires-clause-closes
mark_under-requires-clause-closes c k e = closes_within c.args.proof.now c.args.i k c.requires.within e

pub returns-then-is_reached : goal.returns-then-is_reached
returns-then-is_reached c =
    ok_then_3 c.mark_under.result c.mark_under.ensures.commands c.mark_under.ensures.count c.mark_under.ensures.scopes
    (λ more count scopes. marked c.args.proof.now c.count-commands.ensures.well_formed c.args.from c.args.i c.requires.within c.args.marks.now.commands.items c.args.marks.now.scopes.items c.requires.marks
    (sym c.is_reached.ensures ∙ c.if-is_reached.true) c.mark_under.new.marks.commands.items c.mark_under.new.marks.scopes.items more count scopes)

pub returns-else-is_reached : goal.returns-else-is_reached
returns-else-is_reached c =
    passed c.args.proof.now c.count-commands.ensures.well_formed c.args.from c.args.i c.requires.within c.args.marks.now.commands.items c.args.marks.now.scopes.items c.requires.marks
    (sym c.is_reached.ensures ∙ c.if-is_reached.false)
