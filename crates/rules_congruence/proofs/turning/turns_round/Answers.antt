use Rattle.rules_congruence.proofs.TurningLemmas.{turns_by, no_literal_term, unit_is_term, literal_is_term}
use Rattle.rules_congruence.proofs.turning.turns_round.Goals as goal
use Rattle.term_parts.proofs.PartLemmas.{false_is}
use Rattle.schema_match.proofs.PremiseLemmas.{no_unit}

pub returns-in_default-clause-met : goal.returns-in_default-clause-met
returns-in_default-clause-met c ps ts premises clause =
    false_is (λ h. no_unit c.args.symbols.now c.args.terms.now c.args.premises.now ps _ c.in_default.ensures.other premises h.premise)

pub returns-in_default-literal-clause-met : goal.returns-in_default-literal-clause-met
returns-in_default-literal-clause-met c ps ts premises clause =
    false_is (λ h. no_literal_term c.args.symbols.now c.args.terms.now c.args.clause.now ts _ c.in_default-literal.ensures.other clause h.turned)

pub are_turned-requires-clause-old : goal.are_turned-requires-clause-old
are_turned-requires-clause-old c =
    unit_is_term c.args.symbols.now c.args.terms.now c.args.premises.now c.in-Some.old c.in-Some.ensures.unit c.requires.premises

pub are_turned-requires-clause-new : goal.are_turned-requires-clause-new
are_turned-requires-clause-new c =
    literal_is_term c.args.symbols.now c.args.terms.now c.args.clause.now c.in-Some-literal.new c.in-Some-literal.ensures.one c.requires.clause

pub returns-clause-met : goal.returns-clause-met
returns-clause-met c ps ts premises clause =
    turns_by c.args.symbols.now c.args.terms.now c.args.denied c.are_turned.result c.args.premises.now c.args.clause.now c.in-Some.old c.in-Some-literal.new ps ts
    c.in-Some.ensures.unit c.in-Some-literal.ensures.one premises clause c.are_turned.ensures.turned
