use Rattle.std.proofs.Common.{◌≡◌, rules}
use Rattle.std.proofs.lemmas.Result.{IfOk-weaker}
use Rattle.rules_ite.proofs.facts.are_same_up_to_flips.Goals as goal

pub returns-then-not-first-clause-flips : goal.returns-then-not-first-clause-flips
returns-then-not-first-clause-flips c t u p q these_first these_second those_first those_second = (
  λ e. absurd cc,
  λ h. absurd (let holds = (c.in_ok-first.ensures.same t p these_first those_first).1 h.0 in let fails = c.if-not-first.true in cc),
)

pub returns-clause-flips : goal.returns-clause-flips
returns-clause-flips c =
    let kept : c.same_up_to_flips.new.self ≡ c.args.terms.now = search rules in
    IfOk-weaker c.same_up_to_flips-2.result _ _ (λ b test t u p q these_first these_second those_first those_second.
    let same = test u q these_second those_second in (
      λ e. ((c.in_ok-first.ensures.same t p these_first those_first).0 c.if-not-first.false, same.0 e),
      λ h. same.1 h.1,
    )) (rw kept at c.same_up_to_flips-2.ensures.same)
