use Rattle.std.proofs.Common.{◌∙◌, sym, Some, None}
use Rattle.term_names.proofs.ScopeNames.{leaf_is_bound}
use Rattle.term_names.proofs.looking_up.is_bound_here.Goals as goal

pub returns-in-Some : goal.returns-in-Some
returns-in-Some c =
    λ v p x h here.
    leaf_is_bound c.args.symbols.now c.leaves_differ.ensures.table v c.args.names.now.scope p.scope h c.args.leaf x here c.name.result.now (rw here at c.name.ensures)
    (Some c.in-Some.bound) (sym c.in-Some.is ∙ c.variable.ensures)

pub returns-in-None : goal.returns-in-None
returns-in-None c =
    λ v p x h here.
    leaf_is_bound c.args.symbols.now c.leaves_differ.ensures.table v c.args.names.now.scope p.scope h c.args.leaf x here c.name.result.now (rw here at c.name.ensures)
    None (sym c.in-None.is ∙ c.variable.ensures)
