use Rattle.equality_ways.proofs.TermLemmas.{connected_both}
use Rattle.equality_ways.proofs.laws.connections_are_of_terms.Goals as goal

pub returns : goal.returns
returns c sides premises a b t u are first last =
    connected_both c.args.symbols.now c.args.terms.now (c.equal_exactly_where_terms_are.ensures c.args.symbols.now c.leaves_differ.ensures.table) sides premises are a b t u first last
