use Rattle.rules_congruence.proofs.TurningLemmas.{symmetric_by, not_lone, literal_is_term}
use Rattle.rules_congruence.proofs.turning.is_symmetric.Goals as goal
use Rattle.term_parts.proofs.PartLemmas.{false_is}

pub returns-in_default-clause-met : goal.returns-in_default-clause-met
returns-in_default-clause-met c ps ts premises clause =
    false_is (λ h. not_lone c.args.symbols.now c.args.terms.now c.args.premises.now c.args.clause.now ps ts _ c.in_default.ensures.other premises clause h.none h.literal)

pub has_turned_sides-requires : goal.has_turned_sides-requires
has_turned_sides-requires c =
    literal_is_term c.args.symbols.now c.args.terms.now c.args.clause.now c.in-Some.literal c.in-Some.ensures.lone.1 c.requires.clause

pub returns-clause-met : goal.returns-clause-met
returns-clause-met c ps ts premises clause =
    symmetric_by c.args.symbols.now c.args.terms.now c.has_turned_sides.result c.args.premises.now c.args.clause.now c.in-Some.literal ps ts
    c.in-Some.ensures.lone premises clause c.has_turned_sides.ensures.turned
