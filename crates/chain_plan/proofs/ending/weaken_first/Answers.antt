use Rattle.std.proofs.Common.{◌≡◌, slice_get, Some, sym, ◌∙◌, ap}
use Rattle.chain_plan.specs.Plans.{clause_of}
use Rattle.chain_plan.proofs.Joining.{firsts_have}
use Rattle.chain_plan.proofs.LastSteps.{going_alone, weakening_sound}
use Rattle.chain_plan.proofs.ending.weaken_first.Goals as goal

some_one : {X : Type 0} (x y : X) → Some x ≡ Some y → x ≡ y
some_one x y e = cc

pub returns-in_ok-add_weakening-in-Some-clause-sound : goal.returns-in_ok-add_weakening-in-Some-clause-sound
returns-in_ok-add_weakening-in-Some-clause-sound c t given sound going items =
    let before = c.args.steps.now.items in
    let alone = going_alone t given before c.args.carry.now going c.requires.first in
    let first : c.in-Some.source ≡ alone.source =
    some_one c.in-Some.source alone.source (sym c.in-Some.is ∙ (c.first_source.ensures ∙ ap (λ sources. slice_get sources 0) alone.is)) in
    rw (c.in_ok-add_weakening-in-Some.ensures, first)
    (weakening_sound t given before alone.source c.args.goal.now sound alone.stands
    (λ x there. c.requires.within x (firsts_have (clause_of given before alone.source) c.args.carry.now.list x alone.firsts there)) items)
