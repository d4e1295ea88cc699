use Rattle.std.proofs.Common.{arith, ◌<◌, length}
use Rattle.std.proofs.lemmas.Option.{slice_get_within}
use Rattle.bench_parts.proofs.SubstitutionLemmas.{is_variable}
use Rattle.bench_parts.proofs.substitution.variable_of.Goals as goal

pub returns-clause-variable : goal.returns-clause-variable
returns-clause-variable c =
    let within : c.in_ok-leaf.leaf < length c.variable.new.self.leaves = slice_get_within _ _ _ c.in_ok-leaf.ensures.leaf in
    let few = c.leaves_differ.ensures.few in
    is_variable _ _ _ _ c.in_ok-leaf.ensures.leaf (omega arith)
