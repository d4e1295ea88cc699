use Rattle.rules_ite.proofs.SeveralLemmas.{few_terms, two_are}
use Rattle.rules_ite.proofs.StandingLemmas.{few_stand_for_none}
use Rattle.rules_ite.proofs.distinct.stands_for.Goals as goal

pub returns-then-list-lt2-clause-stands : goal.returns-then-list-lt2-clause-stands
returns-then-list-lt2-clause-stands c us t list sorted right =
    few_stand_for_none us t (few_terms c.args.symbols.now c.args.terms.now c.args.list.now us list c.if-list-lt2.true)

pub returns-then-list-eq2-clause-stands : goal.returns-then-list-eq2-clause-stands
returns-then-list-eq2-clause-stands c us t list sorted right =
    two_are c.args.symbols.now c.args.terms.now c.args.list.now us t c.get-first.result c.get-second.result c.is_inequality.result list c.if-list-eq2.true
    (rw c.get-first.ensures c.index-list-0.is) (rw c.get-second.ensures c.index-list-1.is)
    (λ x y first second. c.is_inequality.ensures.inequality x y t first second right)
