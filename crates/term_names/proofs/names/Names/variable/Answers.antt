-- A name without a number is that of no variable.
use Rattle.std.proofs.Common.{◌∙◌, ap, sym}
use Rattle.term_names.specs.Scope.{OwnNames, bound_of}
use Rattle.term_names.proofs.HeldVariables.{bound-nowhere}
use Rattle.term_names.proofs.names.Names.variable.Goals as goal

pub returns-in_err-number : goal.returns-in_err-number
returns-in_err-number c =
    c.from_residual.ensures
    ∙ sym (bound-nowhere _ _ c.self.inside.held.items c.args.name.now c.self.invariant.1 c.in_err-number.ensures.once (sym c.in_err-number.ensures.number))
    ∙ ap (λ (n : OwnNames). bound_of n.scope c.args.name.now) c.self.view_is
