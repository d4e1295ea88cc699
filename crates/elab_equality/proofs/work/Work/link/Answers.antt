use Rattle.std.proofs.Common.{◌≡◌, ℕ, arith, subst}
use Rattle.equality_ways.specs.Ways.{turned_if}
use Rattle.equality_steps.specs.Links.{LinkEquates}
use Rattle.elab_equality.proofs.LinkLemmas.{pair_flips, pair_made, place_within, premise_says}
use Rattle.elab_equality.proofs.WalkLemmas.{not_false, not_true}
use Rattle.elab_equality.proofs.WorkLemmas.{done_err, done_none, done_ok}
use Rattle.elab_equality.proofs.work.Work.link.Goals as goal

pub returns-then-number-clause-linked : goal.returns-then-number-clause-linked
returns-then-number-clause-linked c = let e : c.args.a ≡ c.args.b = omega arith in e

pub returns-then-number-clause-done : goal.returns-then-number-clause-done
returns-then-number-clause-done c = done_none c.args.at.now c.args.terms.now c.args.self.now 2 _ c.requires.work

pub join-requires-clause-pair : goal.join-requires-clause-pair
join-requires-clause-pair c =
    pair_flips c.args.at.now c.args.terms.now c.args.given.now c.leaves_differ.ensures.table c.one_to_one.ensures c.requires.given c.args.a c.args.b c.requires.pair
    (c.in_default.ensures.none c.requires.given.sides c.requires.given.table_is)

pub premise-link-requires-clause-place : goal.premise-link-requires-clause-place
premise-link-requires-clause-place c =
    place_within c.args.at.now c.args.terms.now c.args.given.now c.requires.given c.in-Some.used c.args.a c.args.b
    (c.in-Some.ensures.found c.requires.given.sides c.requires.given.table_is)

pub symm-requires-clause-given : goal.symm-requires-clause-given
symm-requires-clause-given c =
    let p = c.args.at.now in
    let v = c.args.terms.now in
    let says = premise_says p v c.args.given.now c.requires.given c.args.self.now.block c.in-Some.used c.args.a c.args.b c.premise-link.result
    (c.in-Some.ensures.found c.requires.given.sides c.requires.given.table_is) c.premise-link.ensures in
    subst (λ x. LinkEquates p v c.args.self.now.block c.premise-link.result (turned_if {X = ℕ} x (c.args.a, c.args.b)).0 (turned_if {X = ℕ} x (c.args.a, c.args.b)).1)
    (not_false c.in-Some.used.turned c.if-not-used.false) says

pub symm-requires-clause-made : goal.symm-requires-clause-made
symm-requires-clause-made c = pair_made c.args.at.now c.args.terms.now c.args.a c.args.b c.requires.pair

pub returns-then-not-used-clause-linked : goal.returns-then-not-used-clause-linked
returns-then-not-used-clause-linked c =
    let p = c.args.at.now in
    let v = c.args.terms.now in
    let says = premise_says p v c.args.given.now c.requires.given c.args.self.now.block c.in-Some.used c.args.a c.args.b c.premise-link.result
    (c.in-Some.ensures.found c.requires.given.sides c.requires.given.table_is) c.premise-link.ensures in (
      λ (e : c.args.a ≡ c.args.b). absurd (omega (arith, e)),
      subst (λ x. LinkEquates p v c.args.self.now.block c.premise-link.result (turned_if {X = ℕ} x (c.args.a, c.args.b)).0 (turned_if {X = ℕ} x (c.args.a, c.args.b)).1)
          (not_true c.in-Some.used.turned c.if-not-used.true) says,
    )

pub returns-then-not-used-clause-done : goal.returns-then-not-used-clause-done
returns-then-not-used-clause-done c = done_none c.args.at.now c.args.terms.now c.args.self.now 2 _ c.requires.work

pub returns-in_err-turned-clause-done : goal.returns-in_err-turned-clause-done
returns-in_err-turned-clause-done c = done_err c.symm.new.self 2 c.from_residual.result c.in_err-turned.ensures.done c.from_residual.ensures.1

pub returns-clause-linked : goal.returns-clause-linked
returns-clause-linked c = (λ (e : c.args.a ≡ c.args.b). absurd (omega (arith, e)), c.in_ok-turned.ensures.linked)

pub returns-clause-done : goal.returns-clause-done
returns-clause-done c = done_ok 2 _ (omega arith) c.in_ok-turned.ensures.done
