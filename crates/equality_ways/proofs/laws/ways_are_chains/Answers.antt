use Rattle.equality_ways.proofs.TermLemmas.{way_chain}
use Rattle.equality_ways.proofs.laws.ways_are_chains.Goals as goal

pub returns : goal.returns
returns c sides premises a b t u used are first last way =
    way_chain c.args.symbols.now c.args.terms.now (c.equal_exactly_where_terms_are.ensures c.args.symbols.now c.leaves_differ.ensures.table) sides premises are used a b t u first last way
