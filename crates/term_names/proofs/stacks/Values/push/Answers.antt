-- Each part gets the value's part at its place, which is one of the lists' or their new end.
use Rattle.std.proofs.Common.{◌∙◌, ap, ◌≡◌, ◌++◌, ◌+◌, [], ◌∷◌, length, slice_set, arith}
use Rattle.term_names.specs.StackParts.{values_in, AreParts, HaveRoom}
use Rattle.term_names.proofs.ValueParts.{values_of-same, AreParts-own, AreParts-push, AreParts-longer, HaveRoom-push, HaveRoom-longer}
use Rattle.term_names.proofs.stacks.Values.push.Goals as goal

parts : (c : goal.After-self-6-1) → AreParts (c.self.inside.len + 1) (slice_set c.self.inside.terms.items c.self.inside.len c.args.value.term) (slice_set c.self.inside.sorts.items c.self.inside.len c.args.value.sort) (slice_set c.self.inside.heights.items c.self.inside.len c.args.value.height) (slice_set c.self.inside.plain.items c.self.inside.len c.args.value.plain) (values_in c.self.inside.len c.self.inside.terms.items c.self.inside.sorts.items c.self.inside.heights.items c.self.inside.plain.items ++ c.args.value ∷ [])
parts c = AreParts-push _ _ _ _ _ _ c.self.invariant.0 c.args.value (omega arith) c.self.invariant.1

pub invariant_of-self-2 : goal.invariant_of-self-2
invariant_of-self-2 c = (AreParts-own _ _ _ _ _ _ (parts c), HaveRoom-push _ _ _ _ _ c.self.invariant.1 c.args.value (omega arith))

pub returns-clause-pushed : goal.returns-clause-pushed
returns-clause-pushed c = values_of-same _ _ _ _ _ _ (parts c) ∙ ap (λ vs. vs ++ c.args.value ∷ []) c.self.view_is

longer : (c : goal.After-self-1) → AreParts (c.self.inside.len + 1) c.one_more.new.terms.items c.one_more.new.sorts.items c.one_more.new.heights.items c.one_more.new.plain.items (values_in c.self.inside.len c.self.inside.terms.items c.self.inside.sorts.items c.self.inside.heights.items c.self.inside.plain.items ++ c.args.value ∷ [])
longer c =
    let here : length c.self.inside.terms.items ≡ c.self.inside.len = omega arith in
    rw (c.in_ok-one_more.ensures.terms, c.in_ok-one_more.ensures.sorts, c.in_ok-one_more.ensures.heights, c.in_ok-one_more.ensures.plain) (AreParts-longer _ _ _ _ _ _ c.self.invariant.0 c.args.value here c.self.invariant.1)

room : (c : goal.After-self-1) → HaveRoom (c.self.inside.len + 1) c.one_more.new.terms.items c.one_more.new.sorts.items c.one_more.new.heights.items c.one_more.new.plain.items
room c = rw (c.in_ok-one_more.ensures.terms, c.in_ok-one_more.ensures.sorts, c.in_ok-one_more.ensures.heights, c.in_ok-one_more.ensures.plain) (HaveRoom-longer _ _ _ _ _ c.self.invariant.1 c.args.value)

pub invariant_of-self-then-at-len : goal.invariant_of-self-then-at-len
invariant_of-self-then-at-len c = (AreParts-own _ _ _ _ _ _ (longer c), room c)

pub returns-then-at-len-clause-pushed : goal.returns-then-at-len-clause-pushed
returns-then-at-len-clause-pushed c = values_of-same _ _ _ _ _ _ (longer c) ∙ ap (λ vs. vs ++ c.args.value ∷ []) c.self.view_is
