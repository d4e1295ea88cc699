use Rattle.std.proofs.Common.{◌≡◌, rules}
use Rattle.std.proofs.lemmas.Result.{IfOk-weaker}
use Rattle.rules_ite.proofs.SeveralLemmas.{truths_are, others_are}
use Rattle.rules_ite.proofs.distinct.stands_for_many.Goals as goal

pub returns-in-Bool-clause-stands : goal.returns-in-Bool-clause-stands
returns-in-Bool-clause-stands c us t list sorted right =
    let kept : c.sort_of.new.terms ≡ c.args.terms.now = search rules in
    truths_are c.args.symbols.now c.args.terms.now c.sort_of.result c.get-first.result c.sort_of.ensures.sort c.args.list.now us t c.is_over.result
    list c.requires.many (rw c.get-first.ensures c.index-list-0.is) sorted c.in-Bool.is ((rw kept at c.is_over.ensures.over) t right)

pub returns-in_default-clause-stands : goal.returns-in_default-clause-stands
returns-in_default-clause-stands c =
    let kept : c.sort_of.new.terms ≡ c.args.terms.now = search rules in
    IfOk-weaker c.is_conjunction.result _ _ (λ b test us t list sorted right.
    others_are c.args.symbols.now c.args.terms.now c.sort_of.result c.get-first.result c.sort_of.ensures.sort c.args.list.now us t b
    list c.requires.many (rw c.get-first.ensures c.index-list-0.is) sorted c.in_default.not-Bool (test us t list right)) (rw kept at c.is_conjunction.ensures.conjunction)
