use Rattle.std.proofs.Common.{◌<◌, length, arith}
use Rattle.term_names.proofs.Alone.{symbol_made, symbol_takes, symbol_within}
use Rattle.term_names.proofs.using.symbol_alone.Goals as goal

pub returns-in_err-sort : goal.returns-in_err-sort
returns-in_err-sort c =
    λ v m is. rw c.from_residual.ensures (symbol_takes c.args.symbols.now c.args.leaf m is c.in_err-sort.ensures.sort)

pub leaf-requires : goal.leaf-requires
leaf-requires c =
    let below : c.args.leaf < length c.args.symbols.now.leaves = symbol_within c.args.symbols.now c.args.leaf c.requires.0 c.requires.1 in
    omega (arith, c.leaves_differ.ensures.few)

pub returns : goal.returns
returns c =
    λ v m is.
    symbol_made c.args.symbols.now v c.args.leaf c.leaf.result m c.in_ok-sort.sort c.leaf.ensures.stands is c.in_ok-sort.ensures.sort
