use Rattle.std.proofs.Common.{◌∙◌, ap, map, drop}
use Rattle.std.specs.List.{list_all}
use Rattle.term_names.proofs.ValueParts.{part_from, within, list_all-map}
use Rattle.term_names.proofs.stacks.Values.all_plain_from.Goals as goal

pub returns : goal.returns
returns c =
    c.all_true.ensures
    ∙ ap (list_all (λ b. b)) (part_from (λ v. v.plain) c.deref.result.now c.self.inside.plain.items c.args.self.now c.self.inside.len c.args.n (within c.args.n c.args.self.now _ _ _ _ _ c.self.invariant.0 c.self.invariant.1 c.self.view_is c.requires) c.deref.ensures.value (c.self.invariant.0.plain ∙ ap (map (λ v. v.plain)) c.self.view_is))
    ∙ list_all-map (λ v. v.plain) (drop c.args.n c.args.self.now)
