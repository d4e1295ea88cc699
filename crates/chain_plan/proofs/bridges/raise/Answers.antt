use Rattle.std.proofs.Common.{◌≡◌, ◌≢◌, ◌+◌, ◌-◌, ◌∷◌, [], sym, ◌∙◌, ap, subst, arith, inl, inr, All, Contains}
use Rattle.term_model.proofs.Lists.{contains_head, contains_later}
use Rattle.rule_model.specs.declared.rules.Rule.{Rule}
use Rattle.rule_model.specs.Resolution.{IsJoined}
use Rattle.clause_chain.specs.declared.signed_term.SignedTerm.{SignedTerm}
use Rattle.chain_plan.specs.Carried.{IsItem, IsTrueAlone}
use Rattle.chain_plan.specs.Towers.{item_of}
use Rattle.chain_plan.proofs.Bridging.{room_above, raising_holds, raising_items, pair_items, raised_there, raised_was, two_items}
use Rattle.chain_plan.proofs.Towers.{negation_within}
use Rattle.chain_plan.proofs.bridges.raise.Goals as goal

pub bridge-requires-clause-on_right : goal.bridge-requires-clause-on_right
bridge-requires-clause-on_right c =
    let n = c.args.number in
    let e = two_items c.item.result c.item-2.result (item_of (n + 4)) (item_of (n + 1)) c.item.ensures c.item-2.ensures in
    subst (λ cs. Contains cs (item_of (n + 1))) (sym e)
    (contains_later (item_of (n + 4)) (item_of (n + 1)) (item_of (n + 1) ∷ []) (contains_head (item_of (n + 1)) []))

pub lower-requires-clause-above : goal.lower-requires-clause-above
lower-requires-clause-above c = (room_above c.args.spellings.now c.args.number c.requires.room c.requires.above).four_up

pub lower-requires-clause-pair : goal.lower-requires-clause-pair
lower-requires-clause-pair c = (room_above c.args.spellings.now c.args.number c.requires.room c.requires.above).pair

pub lower-requires-clause-there : goal.lower-requires-clause-there
lower-requires-clause-there c =
    let n = c.args.number in
    let e = two_items c.item.result c.item-2.result (item_of (n + 4)) (item_of (n + 1)) c.item.ensures c.item-2.ensures in
    raised_there n c.args.carry.now.list c.bridge.new.carry.list
    (subst (λ cs. IsJoined c.args.carry.now.list cs (item_of n) (item_of (n + 1)) c.bridge.new.carry.list) e c.in_ok-bridge.ensures.joined)

pub returns-clause-sound : goal.returns-clause-sound
returns-clause-sound c given sound =
    let t = c.args.spellings.now in
    let n = c.args.number in
    let room = room_above t n c.requires.room c.requires.above in
    let e = two_items c.item.result c.item-2.result (item_of (n + 4)) (item_of (n + 1)) c.item.ensures c.item-2.ensures in
    c.in_ok-lower.ensures.sound given
    (c.in_ok-bridge.ensures.sound t given sound (subst (All (IsItem t)) (sym e) (raising_items t n room))
    (subst (IsTrueAlone t Rule.NotNot) (sym e) (raising_holds t n room.zero_up room.one_up room.two_up room.three_up)))

pub returns-clause-going : goal.returns-clause-going
returns-clause-going c given going =
    let t = c.args.spellings.now in
    let n = c.args.number in
    let room = room_above t n c.requires.room c.requires.above in
    let e = two_items c.item.result c.item-2.result (item_of (n + 4)) (item_of (n + 1)) c.item.ensures c.item-2.ensures in
    c.in_ok-lower.ensures.going given
    (c.in_ok-bridge.ensures.going t given going room.zero_up
    (subst (λ cs. (x : SignedTerm) → Contains cs x → x ≢ item_of (n + 1) → IsItem t x) (sym e)
    (pair_items t (item_of (n + 4)) (item_of (n + 1)) (negation_within t (n + 4) room.four_up).0 (negation_within t (n + 1) room.one_up).0
    (item_of (n + 1)))))

pub returns-clause-there : goal.returns-clause-there
returns-clause-there c =
    let e : c.args.number + 4 - 2 ≡ c.args.number + 2 = omega arith in
    subst (λ k. Contains c.lower.new.carry.list (item_of k)) e c.in_ok-lower.ensures.there

pub returns-clause-was : goal.returns-clause-was
returns-clause-was c x there =
    let n = c.args.number in
    let e = two_items c.item.result c.item-2.result (item_of (n + 4)) (item_of (n + 1)) c.item.ensures c.item-2.ensures in
    let same : n + 4 - 2 ≡ n + 2 = omega arith in
    elim (c.in_ok-lower.ensures.was x there) [
      | inl before ↦
          elim (raised_was n c.args.carry.now.list c.bridge.new.carry.list x
          (subst (λ cs. IsJoined c.args.carry.now.list cs (item_of n) (item_of (n + 1)) c.bridge.new.carry.list) e c.in_ok-bridge.ensures.joined) before) [
            | inl was ↦ inl was
            | inr is ↦ absurd (c.in_ok-lower.ensures.gone (subst (Contains c.lower.new.carry.list) is there))
          ]
      | inr is ↦ inr (is ∙ ap item_of same)
    ]
