use Rattle.rules_simplify.proofs.OperandLemmas.{negation_told}
use Rattle.rules_simplify.proofs.operands.is_negation_of.Goals as goal

pub returns-in_default-clause-negation : goal.returns-in_default-clause-negation
returns-in_default-clause-negation c t u negation refers = (λ e. absurd cc, λ e. absurd (c.in_default.ensures.other t u negation e))

pub returns-clause-negation : goal.returns-clause-negation
returns-clause-negation c t u negation refers =
    negation_told c.args.symbols.now c.args.terms.now (c.equal_exactly_where_terms_are.ensures c.args.symbols.now c.leaves_differ.ensures.table) c.in-Some.inner c.args.r t u c.is_same.result
    (c.in-Some.ensures.under t negation) refers c.is_same.ensures
