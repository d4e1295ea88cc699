use Rattle.std.proofs.Common.{rules}
use Rattle.std.proofs.lemmas.List.Sorted.{IsNonDecreasingBy-from_sort_by_key}
use Rattle.equality_ways.specs.Tables.{entry_rank}
use Rattle.equality_ways.proofs.TableLemmas.{is_table}
use Rattle.equality_ways.proofs.table.table_of.Goals as goal

pub returns : goal.returns
returns c =
    let up = IsNonDecreasingBy-from_sort_by_key entry_rank _ c.sort_unstable_by_key.ensures.sorted (λ a r q k. search rules) in
    record { table = is_table c.args.sides.now c.in_ok-entries.entries.items (record { entries = c.sort_unstable_by_key.new.self }) c.in_ok-entries.ensures c.sort_unstable_by_key.ensures.permutation up }
