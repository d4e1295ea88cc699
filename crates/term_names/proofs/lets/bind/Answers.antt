use Rattle.std.proofs.Common.{arith, ◌-◌, ◌∷◌, ap, ◌∙◌}
use Rattle.term_names.proofs.LetBinding.{bound-within, bound-leaf, bind-next}
use Rattle.term_names.proofs.lets.bind.Goals as goal

pub overflow_add-from : goal.overflow_add-from
overflow_add-from c =
    let (v, bs, bound) = c.requires.bound in
    let below = c.variables.invariant.0 in
    let within = bound-within _ v c.args.variables.now.leaves.now c.args.variables.now.values.now bs c.args.variables.now.from (c.variables.at - 1) bound c.requires.within (omega arith) in
    let count = c.len-values.ensures in
    omega arith

pub get-requires : goal.get-requires
get-requires c =
    let (v, bs, bound) = c.requires.bound in
    let below = c.variables.invariant.0 in
    bound-within _ v c.args.variables.now.leaves.now c.args.variables.now.values.now bs c.args.variables.now.from (c.variables.at - 1) bound c.requires.within (omega arith)

pub bind_one-requires : goal.bind_one-requires
bind_one-requires c =
    let (v, bs, bound) = c.requires.bound in
    let below = c.variables.invariant.0 in
    record { variable = bound-leaf _ v c.args.variables.now.leaves.now _ bs (c.variables.at - 1) 0 bound (omega arith) }

pub variables-preserved : goal.variables-preserved
variables-preserved c =
    let below = c.variables.invariant.0 in
    let (inner, split, many) = c.variables.invariant.3 in
    let (e, more) = c.in_ok-bind_one.ensures.inner in (
      omega arith,
      λ v bs ps h g.
          bind-next _ v c.args.replaces_lets c.args.variables.now.leaves.now c.args.variables.now.values.now c.args.variables.now.from c.variables.at c.get.result c.args.names.now.scope c.variables.names.scope
          c.bind_one.new.names.scope c.variables-test.true below c.get.ensures (c.in_ok-bind_one.ensures.bound v) (c.variables.invariant.1 v) bs ps h g,
      c.in_ok-bind_one.ensures.own ∙ c.variables.invariant.2,
      (e ∷ inner, more ∙ ap (λ xs. e ∷ xs) split, omega arith),
    )
