use Rattle.rules_resolution.proofs.TermLiterals.{literal_from_bare}
use Rattle.rules_resolution.proofs.references.literal.Goals as goal
use Rattle.term_pool.proofs.Keeping.{same_terms}

pub returns-clause-literal : goal.returns-clause-literal
returns-clause-literal c =
    literal_from_bare c.args.symbols.now c.args.terms.now c.strip_not-bare.new.self c.args.r c.strip_not-bare.result.0 c.strip_not-bare.result.1
    c.bare_literal.result c.strip_not-bare.ensures.keeps c.strip_not-bare.ensures.unchanged c.strip_not-bare.ensures.stripped c.bare_literal.ensures

pub returns-clause-same : goal.returns-clause-same
returns-clause-same c = same_terms _ _ c.strip_not-bare.ensures.keeps c.strip_not-bare.ensures.unchanged
