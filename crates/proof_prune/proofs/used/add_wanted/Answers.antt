use Rattle.std.proofs.Common.{◌+◌, ◌++◌, sym, ◌∙◌, ap, subst}
use Rattle.proof_prune.specs.Wanted.{AreWantedTo}
use Rattle.proof_prune.proofs.Marks.{ok_then}
use Rattle.proof_prune.proofs.Wanted.{one_wanted, none_wanted}
use Rattle.proof_prune.proofs.used.add_wanted.Goals as goal

pub returns-then-is_wanted : goal.returns-then-is_wanted
returns-then-is_wanted c =
    ok_then c.append.result c.append.ensures
    (λ e. subst (AreWantedTo c.args.kept.now c.args.proof.now (c.args.i + 1)) (sym (e ∙ ap (λ xs. c.args.list.now.items ++ xs) c.clause.ensures))
    (one_wanted c.args.kept.now c.args.proof.now c.args.i c.args.list.now.items c.requires.before (sym c.is_wanted.ensures ∙ c.if-is_wanted.true)))

pub returns-else-is_wanted : goal.returns-else-is_wanted
returns-else-is_wanted c =
    none_wanted c.args.kept.now c.args.proof.now c.args.i c.args.list.now.items c.requires.before (sym c.is_wanted.ensures ∙ c.if-is_wanted.false)
