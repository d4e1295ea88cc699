use Rattle.std.proofs.Common.{rules, ℕ}
use Rattle.std.proofs.lemmas.List.Sorted.{IsNonDecreasingBy-from_sort_by_key}
use Rattle.std.proofs.lemmas.Result.{IfOk-weaker}
use Rattle.worker_crew.proofs.order.in_order.Goals as goal

pub returns : goal.returns
returns g c =
    IfOk-weaker c.without_numbers.result _ _
    (λ all are. record {
      ordered = c.sort_unstable_by_key.new.self.items;
      same = c.sort_unstable_by_key.ensures.permutation;
      ascending = IsNonDecreasingBy-from_sort_by_key (λ (p : ℕ × g.row.P.Denot). p.0) _ c.sort_unstable_by_key.ensures.sorted (λ a r q k. search rules);
      are = are;
    })
    c.without_numbers.ensures
