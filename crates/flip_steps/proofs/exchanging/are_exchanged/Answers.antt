use Rattle.std.proofs.Common.{◌≡◌, arith}
use Rattle.std.proofs.lemmas.Bool.{eqb-true}
use Rattle.flip_steps.proofs.ExchangeLemmas.{turned_of}
use Rattle.flip_steps.proofs.exchanging.are_exchanged.Goals as goal

pub returns-then-number-clause-turned : goal.returns-then-number-clause-turned
returns-then-number-clause-turned c is_true =
    let h = c.requires in
    let x = c.in-Some.left in
    let y = c.in-Some-sides_of.right in
    let outer : c.in-Some.left.0 ≡ c.in-Some-sides_of.right.1 = omega arith in
    let last = eqb-true c.number-then-number.result c.number-then-number-2.result is_true in
    let inner : c.in-Some.left.1 ≡ c.in-Some-sides_of.right.0 = omega (arith, last) in
    turned_of c.args.at.now c.args.terms.now c.leaves_differ.ensures.table c.one_to_one.ensures c.args.a c.args.b h x y
    (c.in-Some.ensures.sides h.left h.left_refers) ((rw c.in-Some.ensures.same at c.in-Some-sides_of.ensures.sides) h.right h.right_refers) outer inner
