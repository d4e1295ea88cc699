-- All parts are cut at one place.
use Rattle.std.proofs.Common.{◌∙◌, ap, sym, refl, take, length, arith}
use Rattle.std.proofs.lemmas.List.{take_all}
use Rattle.term_names.specs.StackParts.{values_in, AreParts}
use Rattle.term_names.proofs.ValueParts.{values_of-same, values-length, AreParts-own, AreParts-take}
use Rattle.term_names.proofs.stacks.Values.truncate.Goals as goal

fewer : (c : goal.After-self-1) → AreParts c.args.n c.self.inside.terms.items c.self.inside.sorts.items c.self.inside.heights.items c.self.inside.plain.items (take c.args.n (values_in c.self.inside.len c.self.inside.terms.items c.self.inside.sorts.items c.self.inside.heights.items c.self.inside.plain.items))
fewer c = AreParts-take _ _ _ _ _ _ c.self.invariant.0 c.args.n (omega (arith, c.if-n-self.true))

pub invariant_of-self : goal.invariant_of-self
invariant_of-self c = (
  AreParts-own _ _ _ _ _ _ (fewer c),
  record {
    within = omega (arith, c.if-n-self.true, c.self.invariant.1.within);
    sorts = c.self.invariant.1.sorts;
    heights = c.self.invariant.1.heights;
    plain = c.self.invariant.1.plain;
  },
)

pub same-self : goal.same-self
same-self c = refl

pub returns-then-n-self : goal.returns-then-n-self
returns-then-n-self c = values_of-same _ _ _ _ _ _ (fewer c) ∙ ap (take c.args.n) c.self.view_is

pub returns-else-n-self : goal.returns-else-n-self
returns-else-n-self c = sym (take_all c.args.n c.args.self.now (omega (arith, c.if-n-self.false, ap length (sym c.self.view_is) ∙ values-length _ _ _ _ _ _ c.self.invariant.0 c.self.invariant.1.within)))
