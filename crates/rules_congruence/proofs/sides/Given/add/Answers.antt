use Rattle.std.proofs.lemmas.Result.{on_ok_weaker}
use Rattle.rules_congruence.proofs.GivenLemmas.{given_one, given_other}
use Rattle.rules_congruence.proofs.sides.Given.add.Goals as goal

pub returns-in_default-clause-added : goal.returns-in_default-clause-added
returns-in_default-clause-added c premises clause refers given =
    given_other c.args.symbols.now c.args.terms.now _ _ premises clause (c.in_default.ensures.other clause refers) given

pub returns-clause-added : goal.returns-clause-added
returns-clause-added c =
    on_ok_weaker c.push.result (λ pushed premises clause refers given.
    rw pushed
    (given_one c.args.symbols.now c.args.terms.now _ c.in-Some.sides _ premises clause (c.in-Some.ensures.unit clause refers) given)) c.push.ensures
