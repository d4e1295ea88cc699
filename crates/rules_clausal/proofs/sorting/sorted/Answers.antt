use Rattle.std.proofs.Common.{◌≡◌, ◌∙◌, subst, arith, rules, IsPermutation}
use Rattle.std.proofs.lemmas.List.{take_all}
use Rattle.std.proofs.lemmas.List.Sorted.{IsNonDecreasingBy-from_sort}
use Rattle.smallvec.proofs.SmallVecLemmas.{items-with_items}
use Rattle.rules_clausal.proofs.sorting.sorted.Goals as goal

pub returns : goal.returns
returns c =
    let whole : c.loop-literal.literals.items ≡ c.args.clause.now = c.loop-literal.invariant ∙ take_all _ c.args.clause.now (omega arith) in
    rw (items-with_items c.loop-literal.literals c.sort_unstable.new.self (search rules)) (record {
      moved = subst (λ xs. IsPermutation xs c.sort_unstable.new.self) (c.deref_mut.ensures.value ∙ whole) c.sort_unstable.ensures.permutation;
      rising = IsNonDecreasingBy-from_sort (λ x. x) _ c.sort_unstable.ensures.sorted;
    })
