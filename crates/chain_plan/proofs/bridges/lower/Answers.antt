use Rattle.std.proofs.Common.{◌≡◌, ◌≢◌, ◌<◌, ◌+◌, ◌-◌, List, ◌∷◌, ◌++◌, [], length, true, sym, ◌∙◌, subst, arith, inl, inr, All, Contains}
use Rattle.rule_model.specs.declared.rules.Rule.{Rule}
use Rattle.rule_model.specs.Resolution.{IsJoined}
use Rattle.clause_chain.specs.declared.signed_term.SignedTerm.{SignedTerm}
use Rattle.chain_plan.specs.Carried.{IsItem, IsTrueAlone}
use Rattle.chain_plan.specs.Towers.{item_of}
use Rattle.chain_plan.proofs.Bridging.{lowering_holds, lowering_items, pair_items, lowered_there, lowered_was, lowered_gone, lowered_stays, two_items}
use Rattle.chain_plan.proofs.Towers.{pair_below, negation_within}
use Rattle.chain_plan.proofs.bridges.lower.Goals as goal

pub returns-clause-sound : goal.returns-clause-sound
returns-clause-sound c given sound =
    let t = c.args.spellings.now in
    let k = c.args.number in
    let within : k < length t.nots = let w = c.requires.above.within in omega arith in
    let pair = pair_below t c.requires.towers k within c.requires.pair in
    let e = two_items c.item.result c.item-2.result (item_of (k + 1)) (item_of (k - 2)) c.item.ensures c.item-2.ensures in
    c.in_ok-bridge.ensures.sound t given sound (subst (All (IsItem t)) (sym e) (lowering_items t k (k - 2) pair c.requires.above))
    (subst (IsTrueAlone t Rule.NotNot) (sym e) (lowering_holds t k (k - 2) pair c.requires.above))

pub returns-clause-going : goal.returns-clause-going
returns-clause-going c given going =
    let t = c.args.spellings.now in
    let k = c.args.number in
    let within : k < length t.nots = let w = c.requires.above.within in omega arith in
    let pair = pair_below t c.requires.towers k within c.requires.pair in
    let e = two_items c.item.result c.item-2.result (item_of (k + 1)) (item_of (k - 2)) c.item.ensures c.item-2.ensures in
    c.in_ok-bridge.ensures.going t given going c.requires.above
    (subst (λ cs. (x : SignedTerm) → Contains cs x → x ≢ item_of (k + 1) → IsItem t x) (sym e)
    (pair_items t (item_of (k + 1)) (item_of (k - 2)) (negation_within t k c.requires.above).1 (negation_within t (k - 2) pair.one).0 (item_of (k + 1))))

pub returns-clause-there : goal.returns-clause-there
returns-clause-there c =
    let t = c.args.spellings.now in
    let k = c.args.number in
    let within : k < length t.nots = let w = c.requires.above.within in omega arith in
    let pair = pair_below t c.requires.towers k within c.requires.pair in
    let e = two_items c.item.result c.item-2.result (item_of (k + 1)) (item_of (k - 2)) c.item.ensures c.item-2.ensures in
    lowered_there k (k - 2) c.args.carry.now.list c.bridge.new.carry.list pair.is
    (subst (λ cs. IsJoined c.args.carry.now.list cs (item_of k) (item_of (k + 1)) c.bridge.new.carry.list) e c.in_ok-bridge.ensures.joined)

pub returns-clause-gone : goal.returns-clause-gone
returns-clause-gone c there =
    let t = c.args.spellings.now in
    let k = c.args.number in
    let within : k < length t.nots = let w = c.requires.above.within in omega arith in
    let pair = pair_below t c.requires.towers k within c.requires.pair in
    let e = two_items c.item.result c.item-2.result (item_of (k + 1)) (item_of (k - 2)) c.item.ensures c.item-2.ensures in
    lowered_gone k (k - 2) c.args.carry.now.list c.bridge.new.carry.list pair.is
    (subst (λ cs. IsJoined c.args.carry.now.list cs (item_of k) (item_of (k + 1)) c.bridge.new.carry.list) e c.in_ok-bridge.ensures.joined) there

pub returns-clause-was : goal.returns-clause-was
returns-clause-was c x there =
    let k = c.args.number in
    let e = two_items c.item.result c.item-2.result (item_of (k + 1)) (item_of (k - 2)) c.item.ensures c.item-2.ensures in
    elim (lowered_was k (k - 2) c.args.carry.now.list c.bridge.new.carry.list x
    (subst (λ cs. IsJoined c.args.carry.now.list cs (item_of k) (item_of (k + 1)) c.bridge.new.carry.list) e c.in_ok-bridge.ensures.joined) there) [
      | inl was ↦ inl was.0
      | inr same ↦ inr same
    ]

pub returns-clause-stays : goal.returns-clause-stays
returns-clause-stays c x there =
    let k = c.args.number in
    let e = two_items c.item.result c.item-2.result (item_of (k + 1)) (item_of (k - 2)) c.item.ensures c.item-2.ensures in
    lowered_stays k (k - 2) c.args.carry.now.list c.bridge.new.carry.list x
    (subst (λ cs. IsJoined c.args.carry.now.list cs (item_of k) (item_of (k + 1)) c.bridge.new.carry.list) e c.in_ok-bridge.ensures.joined) there

pub returns-clause-first : goal.returns-clause-first
returns-clause-first c none = not_empty c.args.carry.now.pivots (c.args.number, true) (sym c.in_ok-bridge.ensures.pivots ∙ none)
  where
    not_empty : {X : Type 0} (xs : List X) (x : X) → xs ++ x ∷ [] ≡ [] → ⊥
    not_empty [] x e = cc
    not_empty (y ∷ xs) x e = cc
