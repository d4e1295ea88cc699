use Rattle.flip_keys.specs.Assertions.{references_of}
use Rattle.flip_keys.proofs.Finding.{as_it_stands}
use Rattle.flip_keys.proofs.assertions.Assertions.has.Goals as goal

pub returns : goal.returns
returns c ts t refer right =
    let s = c.args.symbols.now in
    let a = c.args.self.now in
    let both = as_it_stands s c.args.terms.now (c.equal_exactly_where_terms_are.ensures s c.leaves_differ.ensures.table) c.args.r t right (references_of a) a.placed.keys c.requires.placed ts refer in
    (λ e. both.0 (c.is_placed.ensures.0 e), λ h. c.is_placed.ensures.1 (both.1 h))
