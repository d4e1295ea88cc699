use Rattle.schema_match.proofs.OverLemmas.{under_is_signed}
use Rattle.schema_match.proofs.signs.unsigned.Goals as goal

pub returns-in-Negation-clause-signed : goal.returns-in-Negation-clause-signed
returns-in-Negation-clause-signed c =
    rw c.in-Negation.is (under_is_signed c.args.symbols.now c.args.terms.now c.args.r c.under_not.result c.under_not.ensures.under)

pub returns-in-Negation-clause-other : goal.returns-in-Negation-clause-other
returns-in-Negation-clause-other c = rw c.in-Negation.is c.under_not.ensures.other
