-- Sorting moves coefficients.
use Rattle.std.proofs.Common.{◌<◌, sym, subst, ◌∙◌, rules}
use Rattle.std.specs.List.Sorted.{IsNonDecreasingBy, IsPermutation}
use Rattle.std.proofs.lemmas.List.Sorted.{IsNonDecreasingBy-from_sort_by_key}
use Rattle.rule_model.specs.Arith.{limit}
use Rattle.scaled_sums.specs.declared.coefficients.Coefficient.{Coefficient}
use Rattle.scaled_sums.proofs.Sums.{moved, sizes_moved}
use Rattle.scaled_sums.proofs.cancelling.cancels.Goals as goal

pub runs_cancel-requires-clause-rising : goal.runs_cancel-requires-clause-rising
runs_cancel-requires-clause-rising c =
    subst (IsNonDecreasingBy (λ (x : Coefficient). x.term)) (sym c.deref.ensures.value)
    (IsNonDecreasingBy-from_sort_by_key (λ (x : Coefficient). x.term) _ c.sort_unstable_by_key.ensures.sorted (λ a r q k. search rules))

pub runs_cancel-requires-clause-narrow : goal.runs_cancel-requires-clause-narrow
runs_cancel-requires-clause-narrow c =
    let moves : IsPermutation c.args.sum.now.items c.deref.result.now =
    subst (IsPermutation c.args.sum.now.items) (sym c.deref.ensures.value) c.sort_unstable_by_key.ensures.permutation in
    subst (λ n. n < limit) (sym (sizes_moved c.args.sum.now.items c.deref.result.now moves)) c.requires

pub returns : goal.returns
returns c =
    let moves : IsPermutation c.args.sum.now.items c.deref.result.now =
    subst (IsPermutation c.args.sum.now.items) (sym c.deref.ensures.value) c.sort_unstable_by_key.ensures.permutation in
    (λ yes r. sym (moved c.args.sum.now.items c.deref.result.now r moves) ∙ c.runs_cancel.ensures.0 yes r, λ all. c.runs_cancel.ensures.1 (λ r. moved c.args.sum.now.items c.deref.result.now r moves ∙ all r))
