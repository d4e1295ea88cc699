use Rattle.std.proofs.Common.{rules}
use Rattle.std.proofs.lemmas.List.Sorted.{IsNonDecreasingBy-from_sort_by_key}
use Rattle.rules_congruence.specs.Links.{link_rank}
use Rattle.rules_congruence.proofs.LinkLemmas.{is_table}
use Rattle.rules_congruence.proofs.links.table_of.Goals as goal

pub returns : goal.returns
returns c =
    let up = IsNonDecreasingBy-from_sort_by_key link_rank _ c.sort_unstable_by_key.ensures.sorted (λ a r q k. search rules) in
    is_table c.args.pairs.now c.in_ok-links.links.items c.sort_unstable_by_key.new.self.items c.in_ok-links.ensures.links c.in_ok-links.ensures.small c.sort_unstable_by_key.ensures.permutation up
