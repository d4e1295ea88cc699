use Rattle.std.proofs.Common.{◌<◌, inl, inr, length, Contains, subst, arith}
use Rattle.pruned_proofs.proofs.Nested.{all_if}
use Rattle.proof_prune.proofs.Marks.{three_more, ok_then}
use Rattle.proof_prune.proofs.reaching.mark_under.Goals as goal

pub mark_all-requires : goal.mark_all-requires
mark_all-requires c =
    all_if (λ j. j < length c.mark.new.marks.items) c.premises.result.now
    (λ j has. let u = c.requires.under j (inl (subst (λ ps. Contains ps j) c.premises.ensures has)) in let n = c.mark.ensures.count in omega arith)

pub mark_scope-requires-clause-last : goal.mark_scope-requires-clause-last
mark_scope-requires-clause-last c j last =
    let u = c.requires.under j (inr last) in let n = c.mark.ensures.count in let m = c.mark_all.ensures.count in omega arith

pub returns-clause-commands : goal.returns-clause-commands
returns-clause-commands c =
    ok_then c.mark_scope.result c.mark_scope.ensures.commands
    (three_more c.args.proof.now c.args.i c.args.marks.now.commands.items c.mark.new.marks.items c.mark_all.new.marks.items c.mark_scope.new.marks.commands.items c.premises.result.now c.premises.ensures
    c.mark.ensures.more c.mark_all.ensures.more)
