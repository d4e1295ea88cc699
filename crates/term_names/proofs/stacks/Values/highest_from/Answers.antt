use Rattle.std.proofs.Common.{◌∙◌, ap, map}
use Rattle.term_names.specs.Stacks.{greatest}
use Rattle.term_names.proofs.ValueParts.{part_from, within}
use Rattle.term_names.proofs.stacks.Values.highest_from.Goals as goal

pub returns : goal.returns
returns c =
    c.greatest.ensures
    ∙ ap greatest (part_from (λ v. v.height) c.deref.result.now c.self.inside.heights.items c.args.self.now c.self.inside.len c.args.n (within c.args.n c.args.self.now _ _ _ _ _ c.self.invariant.0 c.self.invariant.1 c.self.view_is c.requires) c.deref.ensures.value (c.self.invariant.0.heights ∙ ap (map (λ v. v.height)) c.self.view_is))
