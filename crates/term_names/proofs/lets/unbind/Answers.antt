use Rattle.std.proofs.Common.{arith, ◌≡◌, ◌-◌, suc, drop, subst, sym, ◌∙◌}
use Rattle.term_names.specs.Scope.{Scoped}
use Rattle.term_names.proofs.LetBinding.{drop-tail}
use Rattle.term_names.proofs.lets.unbind.Goals as goal

pub variables-preserved : goal.variables-preserved
variables-preserved c =
    let within = c.variables.invariant.0 in
    let next : suc (c.args.count - c.variables.left) ≡ c.args.count - (c.variables.left - 1) = omega arith in
    let (e, same) = c.pop.ensures.scope in (
      omega arith,
      subst (λ n. c.pop.new.self.scope ≡ drop n c.args.names.now.scope) next
          (sym (drop-tail {X = Scoped} (c.args.count - c.variables.left) c.args.names.now.scope e c.pop.new.self.scope (sym c.variables.invariant.1 ∙ same))),
      c.pop.ensures.own ∙ c.variables.invariant.2,
    )
