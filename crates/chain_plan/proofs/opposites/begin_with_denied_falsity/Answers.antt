use Rattle.std.proofs.Common.{◌+◌, ◌∷◌, [], false, sym, ◌∙◌, ap, subst, All, Contains}
use Rattle.std.proofs.lemmas.List.Elements.{All-nil, All-cons}
use Rattle.rule_model.specs.declared.rules.Rule.{Rule}
use Rattle.chain_plan.specs.Carried.{IsItem, IsTrueAlone}
use Rattle.chain_plan.specs.Towers.{item_of}
use Rattle.chain_plan.proofs.Bridging.{falsity_holds, of_one, one_item_of}
use Rattle.chain_plan.proofs.Joining.{firsts_had}
use Rattle.chain_plan.proofs.Towers.{side_within}
use Rattle.chain_plan.proofs.opposites.begin_with_denied_falsity.Goals as goal

pub returns-clause-sound : goal.returns-clause-sound
returns-clause-sound c given sound =
    let t = c.args.spellings.now in
    let other = item_of (t.falsity + 1) in
    let e = one_item_of c.item.result other (c.item.ensures ∙ ap (λ n. item_of (n + 1)) c.falsity.ensures) in
    c.in_ok-begin_with.ensures.sound t given sound
    (subst (All (IsItem t)) (sym e)
    (All-cons (IsItem t) other [] (side_within t t.falsity false c.requires.towers.falsity_room.one) (All-nil (IsItem t))))
    (subst (IsTrueAlone t Rule.False) (sym e) (falsity_holds t c.requires.towers))

pub returns-clause-going : goal.returns-clause-going
returns-clause-going c given =
    let t = c.args.spellings.now in
    let other = item_of (t.falsity + 1) in
    let e = one_item_of c.item.result other (c.item.ensures ∙ ap (λ n. item_of (n + 1)) c.falsity.ensures) in
    c.in_ok-begin_with.ensures.going t given
    (subst (All (IsItem t)) (sym e)
    (All-cons (IsItem t) other [] (side_within t t.falsity false c.requires.towers.falsity_room.one) (All-nil (IsItem t))))

pub returns-clause-list : goal.returns-clause-list
returns-clause-list c x there =
    let t = c.args.spellings.now in
    let other = item_of (t.falsity + 1) in
    let e = one_item_of c.item.result other (c.item.ensures ∙ ap (λ n. item_of (n + 1)) c.falsity.ensures) in
    of_one other x (subst (λ cs. Contains cs x) e (firsts_had (c.item.result ∷ []) c.begin_with.new.carry.list x c.in_ok-begin_with.ensures.list there))
