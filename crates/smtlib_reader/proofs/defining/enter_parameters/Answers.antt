use Rattle.std.proofs.Common.{map, ◌∙◌}
use Rattle.problem_text.specs.Names.{itself}
use Rattle.smtlib_reader.specs.Parameters.{parameters_said}
use Rattle.smtlib_reader.proofs.DefinedParameters.{is_entered}
use Rattle.smtlib_reader.proofs.defining.enter_parameters.Goals as goal

pub bind-requires-clause-bound : goal.bind-requires-clause-bound
bind-requires-clause-bound c =
    let (v, sc, idle) = c.requires.idle in
    (v, map itself (parameters_said c.args.items.now c.args.parameters.now), rw c.deref.ensures.value (c.in_ok-leaves.ensures.bound v))

pub returns-clause-entered : goal.returns-clause-entered
returns-clause-entered c = λ v sc idle.
    let xs = parameters_said c.args.items.now c.args.parameters.now in
    let bound = c.in_ok-leaves.ensures.bound v in
    is_entered _ _ v _ (record { leaves = c.in_ok-leaves.leaves; sorts = c.in_ok-sorts.sorts }) _ _ _ _ xs sc c.list_parameters.ensures.symbols idle bound (c.in_ok-sorts.ensures.items ∙ c.sorts_from.ensures)
    (λ p scope keeps. c.in_ok-bind.ensures.bound v (map itself xs) p (rw c.deref.ensures.value bound) scope keeps) c.bind.ensures.own c.truncate.ensures
