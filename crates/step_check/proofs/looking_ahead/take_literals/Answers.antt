use Rattle.rule_model.specs.Reading.{clause_at}
use Rattle.term_pool.specs.Views.{IsTerm}
use Rattle.term_pool.proofs.References.{refer_by_recursion}
use Rattle.step_check.proofs.looking_ahead.take_literals.Goals as goal
use Rattle.term_model.proofs.Lists.{all_joined}

pub commands-preserved : goal.commands-preserved
commands-preserved c = λ s v some.
    rw c.in_ok-extend_from_slice.ensures.items
    (all_joined (IsTerm s v) _ _ (c.commands.invariant s v some)
    (rw c.clause.ensures (refer_by_recursion s v _ (clause_at some.proof c.commands.i) (c.terms_correspond.ensures.clause s v c.args.proof.now some.proof c.commands.i some.stand))))
