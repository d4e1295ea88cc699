use Rattle.std.proofs.Common.{◌≡◌, ◌+◌, ◌-◌, ◌∷◌, [], inl, inr, sym, ◌∙◌, ap, subst, arith, All, Contains}
use Rattle.term_model.proofs.Lists.{contains_head}
use Rattle.rule_model.specs.declared.rules.Rule.{Rule}
use Rattle.chain_plan.specs.Carried.{IsItem, IsTrueAlone}
use Rattle.chain_plan.specs.Towers.{item_of}
use Rattle.chain_plan.proofs.Begins.{begins_pair}
use Rattle.chain_plan.proofs.Bridging.{lowering_holds, lowering_items, of_two, two_items}
use Rattle.chain_plan.proofs.Joining.{firsts_had, firsts_have}
use Rattle.chain_plan.proofs.opposites.begin_with_pair.Goals as goal

pub lower-requires-clause-above : goal.lower-requires-clause-above
lower-requires-clause-above c = (begins_pair c.args.spellings.now c.args.number c.requires.above c.requires.room).above_top

pub lower-requires-clause-pair : goal.lower-requires-clause-pair
lower-requires-clause-pair c = (begins_pair c.args.spellings.now c.args.number c.requires.above c.requires.room).many

pub lower-requires-clause-there : goal.lower-requires-clause-there
lower-requires-clause-there c =
    let tautology = c.item.result ∷ c.item-2.result ∷ [] in
    subst (Contains c.begin_with.new.carry.list) c.item.ensures
    (firsts_have tautology c.begin_with.new.carry.list c.item.result c.in_ok-begin_with.ensures.list (contains_head c.item.result (c.item-2.result ∷ [])))

pub returns-clause-sound : goal.returns-clause-sound
returns-clause-sound c given sound =
    let t = c.args.spellings.now in
    let n = c.args.number in
    let b = begins_pair t n c.requires.above c.requires.room in
    let up : n + 3 ≡ n + 2 + 1 = omega arith in
    let e = two_items c.item.result c.item-2.result (item_of (n + 2 + 1)) (item_of n) (c.item.ensures ∙ ap item_of up) c.item-2.ensures in
    c.in_ok-lower.ensures.sound given
    (c.in_ok-begin_with.ensures.sound t given sound (subst (All (IsItem t)) (sym e) (lowering_items t (n + 2) n b.pair b.top))
    (subst (IsTrueAlone t Rule.NotNot) (sym e) (lowering_holds t (n + 2) n b.pair b.top)))

pub returns-clause-going : goal.returns-clause-going
returns-clause-going c given =
    let t = c.args.spellings.now in
    let n = c.args.number in
    let b = begins_pair t n c.requires.above c.requires.room in
    let up : n + 3 ≡ n + 2 + 1 = omega arith in
    let e = two_items c.item.result c.item-2.result (item_of (n + 2 + 1)) (item_of n) (c.item.ensures ∙ ap item_of up) c.item-2.ensures in
    c.in_ok-lower.ensures.going given
    (c.in_ok-begin_with.ensures.going t given (subst (All (IsItem t)) (sym e) (lowering_items t (n + 2) n b.pair b.top)))

pub returns-clause-list : goal.returns-clause-list
returns-clause-list c x there =
    let n = c.args.number in
    let down : n + 3 - 2 ≡ n + 1 = omega arith in
    let e = two_items c.item.result c.item-2.result (item_of (n + 3)) (item_of n) c.item.ensures c.item-2.ensures in
    elim (c.in_ok-lower.ensures.was x there) [
      | inl before ↦
          elim (of_two (item_of (n + 3)) (item_of n) x
          (subst (λ cs. Contains cs x) e
          (firsts_had (c.item.result ∷ c.item-2.result ∷ []) c.begin_with.new.carry.list x c.in_ok-begin_with.ensures.list before))) [
            | inl top ↦ absurd (c.in_ok-lower.ensures.gone (subst (Contains c.lower.new.carry.list) top there))
            | inr is ↦ inl is
          ]
      | inr is ↦ inr (is ∙ ap item_of down)
    ]
