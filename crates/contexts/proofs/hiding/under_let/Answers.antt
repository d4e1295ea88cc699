use Rattle.std.proofs.Common.{◌≡◌, length, arith}
use Rattle.std.proofs.lemmas.Bool.Decides.{nat_tests}
use Rattle.std.proofs.lemmas.Result.{IfOk-weaker}
use Rattle.std.proofs.lemmas.List.Sorted.{Contains-permutation, IsPermutation-sym}
use Rattle.std.proofs.lemmas.List.{nil_from_length}
use Rattle.contexts.proofs.HidingLeaves.{hides_same, hides_under, hides_at}
use Rattle.contexts.proofs.hiding.under_let.Goals as goal

pub returns-then-is_empty-clause-hides : goal.returns-then-is_empty-clause-hides
returns-then-is_empty-clause-hides c =
    let none : length c.in_ok-new.new.items ≡ 0 = grind (arith, nat_tests) in
    hides_same _ _ _ _ _ _ _ (nil_from_length _ none) (rw (c.list-hidden.ensures, c.deref.ensures.value) at c.in_ok-new.ensures) c.in_ok-bound.ensures.leaves

pub returns-clause-hides : goal.returns-clause-hides
returns-clause-hides c =
    IfOk-weaker c.number.result _ _
    (λ under is.
    hides_at _ c.args.images.now _ _ _ _ _ is
    (hides_under _ c.args.images.now _ _ _ _ _ _ _ _
    (rw (c.list-hidden.ensures, c.deref.ensures.value) at c.in_ok-new.ensures) c.in_ok-bound.ensures.leaves
    (rw (c.list-hidden.ensures, c.bound_by.ensures.same, c.new-under.ensures.items) at c.in_ok-add_free.ensures.added)
    (rw (c.deref-2.ensures.value, c.add_free.ensures.same, c.bound_by.ensures.same) at c.in_ok-add_free-2.ensures.added)
    (λ k i. Contains-permutation _ _ k c.sort_unstable.ensures.permutation i)
    (λ k i. Contains-permutation _ _ k (IsPermutation-sym _ _ c.sort_unstable.ensures.permutation) i)))
    c.number.ensures.list
