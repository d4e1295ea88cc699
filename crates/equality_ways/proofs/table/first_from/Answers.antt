use Rattle.std.proofs.Common.{get_or, rules, arith}
use Rattle.std.specs.Bool.{nat_lt}
use Rattle.std.proofs.lemmas.Bool.{ltb-true, ltb-false}
use Rattle.std.proofs.lemmas.List.Sorted.{IsPartitionedBy-ltb, IsPartitionPoint-from_clause}
use Rattle.equality_ways.specs.declared.table.Entry.{Entry}
use Rattle.equality_ways.specs.Tables.{entry_rank}
use Rattle.equality_ways.proofs.table.first_from.Goals as goal

pub returns : goal.returns
returns c =
    let entries = c.args.entries.now in
    let point = IsPartitionPoint-from_clause (λ (e : Entry). nat_lt (entry_rank e) c.args.rank) entries c.partition_point.result c.partition_point.ensures.partitioned
    (IsPartitionedBy-ltb entry_rank entries c.args.rank c.requires) (λ a r q k. search rules) in
    record {
      within = c.partition_point.ensures.bound;
      before = λ k d below. ltb-true (entry_rank (get_or entries k d)) c.args.rank (point.0 k d (omega arith) below);
      after = λ k d from inside. ltb-false (entry_rank (get_or entries k d)) c.args.rank (point.1 k d from inside);
    }
