use Rattle.std.proofs.Common.{◌∙◌, sym}
use Rattle.term_names.proofs.BoundVariables.{bound_stands, bound_is_there}
use Rattle.term_names.proofs.using.bound_here.Goals as goal

pub unwrap-requires : goal.unwrap-requires
unwrap-requires c =
    let here = c.requires.leaf_of in
    rw c.variable.ensures (bound_is_there c.args.symbols.now c.args.names.now.scope c.args.leaf c.requires c.name.result.now (rw here at c.name.ensures))

pub returns : goal.returns
returns c =
    λ v p x h here bound.
    bound_stands c.args.symbols.now v c.args.names.now.scope p.scope h c.name.result.now x (rw here at c.name.ensures) bound c.unwrap.result
    (sym c.unwrap.ensures ∙ c.variable.ensures)
