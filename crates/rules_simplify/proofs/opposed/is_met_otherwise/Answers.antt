use Rattle.std.proofs.Common.{Bool, refl, sym, ◌∙◌, subst}
use Rattle.term_model.proofs.Lists.{has_number}
use Rattle.rules_simplify.specs.Joins.{IsMetOtherwise}
use Rattle.rules_simplify.proofs.opposed.is_met_otherwise.Goals as goal

pub returns-then-negated : goal.returns-then-negated
returns-then-negated c =
    let there = has_number c.args.even.now.keys c.args.bare in
    let test = rw c.number.ensures.number at c.contains.ensures in
    subst (λ (b : Bool). IsMetOtherwise c.args.even.now.keys c.args.odd.now.keys c.args.even.now.keys c.add.new.set.keys c.args.bare b c.contains.result) (sym c.if-negated.true)
    (c.in_ok-add.ensures, refl, (λ e. there.0 (sym test ∙ e), λ h. test ∙ there.1 h))

pub returns : goal.returns
returns c =
    let there = has_number c.args.odd.now.keys c.args.bare in
    let test = rw c.number-2.ensures.number at c.contains-2.ensures in
    subst (λ (b : Bool). IsMetOtherwise c.args.even.now.keys c.args.odd.now.keys c.add-2.new.set.keys c.args.odd.now.keys c.args.bare b c.contains-2.result) (sym c.if-negated.false)
    (c.in_ok-add-2.ensures, refl, (λ e. there.0 (sym test ∙ e), λ h. test ∙ there.1 h))
