-- The leaves are those of variables.
use Rattle.term_reader.proofs.PushedVariables.{some_variable}
use Rattle.term_reader.proofs.single_terms.enter_each.Goals as goal

pub enter_variable-requires : goal.enter_variable-requires
enter_variable-requires c =
    let (xs, leaves) = c.requires in
    some_variable c.args.symbols.now c.args.leaves.now xs c.variables.at 0 leaves c.variables-test.true
