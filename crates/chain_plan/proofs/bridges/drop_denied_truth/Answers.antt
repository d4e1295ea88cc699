use Rattle.std.proofs.Common.{◌≢◌, ◌+◌, [], true, false, true≢false, sym, ◌∙◌, ap, subst, arith, All, Contains}
use Rattle.std.proofs.lemmas.List.Elements.{All-nil, All-cons}
use Rattle.rule_model.specs.declared.rules.Rule.{Rule}
use Rattle.rule_model.specs.Resolution.{IsJoined}
use Rattle.clause_chain.specs.declared.signed_term.SignedTerm.{SignedTerm}
use Rattle.chain_plan.specs.Carried.{IsItem, IsTrueAlone}
use Rattle.chain_plan.specs.Towers.{HasNegation, item_of, side}
use Rattle.chain_plan.proofs.Bridging.{truth_holds, of_one, dropped_was, one_item_of}
use Rattle.chain_plan.proofs.Going.{keeps_itself}
use Rattle.chain_plan.proofs.Towers.{side_within}
use Rattle.chain_plan.proofs.bridges.drop_denied_truth.Goals as goal

pub returns-then-not-has : goal.returns-then-not-has
returns-then-not-has c =
    let t = c.args.spellings.now in
    record {
      sound = λ given s. s;
      going = λ given g. g;
      kept = keeps_itself c.args.steps.now.items;
      was = λ x there. (
        there,
        λ same. true≢false (sym (c.has.ensures.1 (subst (Contains c.args.carry.now.list)
            (same ∙ (ap (λ m. item_of (m + 1)) (sym c.truth-truth.ensures) ∙ sym c.item.ensures)) there)) ∙ c.if-not-has.true),
      );
      count = omega arith;
    }

pub returns-clause-sound : goal.returns-clause-sound
returns-clause-sound c given sound =
    let t = c.args.spellings.now in
    let other = side t.truth true in
    let e = one_item_of c.item-2.result other (c.item-2.ensures ∙ ap (λ n. side n true) c.truth-truth.ensures) in
    c.in_ok-bridge.ensures.sound t given sound
    (subst (All (IsItem t)) (sym e)
    (All-cons (IsItem t) other [] (side_within t t.truth true c.requires.towers.truth_room.one) (All-nil (IsItem t))))
    (subst (IsTrueAlone t Rule.True) (sym e) (truth_holds t c.requires.towers))

pub returns-clause-going : goal.returns-clause-going
returns-clause-going c given going =
    let t = c.args.spellings.now in
    let other = side c.truth-truth.result true in
    let e = one_item_of c.item-2.result other c.item-2.ensures in
    c.in_ok-bridge.ensures.going t given going (subst (HasNegation t) (sym c.truth-truth.ensures) c.requires.towers.truth_room.one)
    (subst (λ cs. (x : SignedTerm) → Contains cs x → x ≢ other → IsItem t x) (sym e) (λ x there differs. absurd (differs (of_one other x there))))

pub returns-clause-was : goal.returns-clause-was
returns-clause-was c x there =
    let t = c.args.spellings.now in
    let n = c.truth-truth.result in
    let other = side n true in
    let e = one_item_of c.item-2.result other c.item-2.ensures in
    let was = dropped_was n false c.args.carry.now.list c.bridge.new.carry.list x
    (subst (λ cs. IsJoined c.args.carry.now.list cs (side n false) other c.bridge.new.carry.list) e c.in_ok-bridge.ensures.joined) there in
    (was.0, subst (λ m. x ≢ side m false) c.truth-truth.ensures was.1)
