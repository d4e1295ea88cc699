use Rattle.std.proofs.Common.{rules, arith}
use Rattle.std.proofs.lemmas.Fn.{dedup_same}
use Rattle.std.proofs.lemmas.List.Sorted.{IsNonDecreasingBy-from_sort_by_key}
use Rattle.rules_resolution.specs.Occurrence.{rank_of}
use Rattle.rules_resolution.proofs.Premises.{length-clauses_of}
use Rattle.rules_resolution.proofs.Sorting.{same_rank, table_from_sorted}
use Rattle.rules_resolution.proofs.table.table_of.Goals as goal

pub returns : goal.returns
returns c =
    let up = IsNonDecreasingBy-from_sort_by_key rank_of _ c.in_ok-sort_by_key.ensures.sorted (λ a r q k. search rules) in
    let left = dedup_same _ same_rank _ (λ x y b f x' y' k. search rules) _ _ c.dedup_by_key.ensures.filtered in
    rw left (table_from_sorted _ _ _ _ (let n = length-clauses_of c.args.premises.now in omega arith) c.in_ok-table.ensures c.in_ok-sort_by_key.ensures.permutation up)
