use Rattle.std.proofs.Common.{get_or, rules, arith}
use Rattle.std.specs.Bool.{nat_lt}
use Rattle.std.proofs.lemmas.Bool.{ltb-true, ltb-false}
use Rattle.std.proofs.lemmas.List.Sorted.{IsPartitionedBy-ltb, IsPartitionPoint-from_clause}
use Rattle.rules_congruence.specs.declared.links.Link.{Link}
use Rattle.rules_congruence.specs.Links.{link_rank}
use Rattle.rules_congruence.proofs.links.first_from.Goals as goal

pub returns : goal.returns
returns c =
    let links = c.args.links.now in
    let point = IsPartitionPoint-from_clause (λ (l : Link). nat_lt (link_rank l) c.args.rank) links c.partition_point.result c.partition_point.ensures.partitioned
    (IsPartitionedBy-ltb link_rank links c.args.rank c.requires) (λ a r q k. search rules) in
    record {
      within = c.partition_point.ensures.bound;
      before = λ k d below. ltb-true (link_rank (get_or links k d)) c.args.rank (point.0 k d (omega arith) below);
      after = λ k d from inside. ltb-false (link_rank (get_or links k d)) c.args.rank (point.1 k d from inside);
    }
