use Rattle.std.proofs.Common.{◌∙◌, ap, map}
use Rattle.term_names.proofs.ValueParts.{part_from, within}
use Rattle.term_names.proofs.stacks.Values.sorts_from.Goals as goal

pub returns : goal.returns
returns c =
    part_from (λ v. v.sort) c.deref.result.now c.self.inside.sorts.items c.args.self.now c.self.inside.len c.args.n (within c.args.n c.args.self.now _ _ _ _ _ c.self.invariant.0 c.self.invariant.1 c.self.view_is c.requires) c.deref.ensures.value (c.self.invariant.0.sorts ∙ ap (map (λ v. v.sort)) c.self.view_is)
