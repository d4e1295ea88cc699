use Rattle.std.proofs.Common.{[], ◌∷◌, ◌∙◌, ◌++◌, refl, sym, ap, subst, arith}
use Rattle.term_model.proofs.Zips.{zip_length}
use Rattle.term_pool.specs.Views.{IsTerm}
use Rattle.elab_denials.specs.Matching.{AreLinkedAt}
use Rattle.elab_denials.proofs.MatchLemmas.{all_next, not_all, take_past, zip_next}
use Rattle.elab_denials.proofs.NeedLemmas.{clash}
use Rattle.elab_denials.proofs.matching.linked_pairs.Goals as goal

pub returns-then-lefts-rights-clause-none : goal.returns-then-lefts-rights-clause-none
returns-then-lefts-rights-clause-none c sides table h =
    c.if-lefts-rights.true (zip_length (AreLinkedAt c.args.at.now c.args.terms.now sides) c.args.lefts.now c.args.rights.now h)

pub places-init : goal.places-init
places-init c = record { same = refl; pairs = c.new-pairs.ensures.items; linked = λ sides table. tt }

pub is_linked-requires-clause-left : goal.is_linked-requires-clause-left
is_linked-requires-clause-left c =
    let test = c.places-test.true in
    rw c.places.invariant.same (subst (IsTerm c.args.at.now.symbols.now c.args.terms.now) (c.item-left.ensures 0) (c.requires.lefts c.places.place 0 (omega arith)))

pub is_linked-requires-clause-right : goal.is_linked-requires-clause-right
is_linked-requires-clause-right c =
    let test = c.places-test.true in
    let long = c.if-lefts-rights.false in
    rw c.places.invariant.same (subst (IsTerm c.args.at.now.symbols.now c.args.terms.now) (c.item-right.ensures 0) (c.requires.rights c.places.place 0 (omega arith)))

pub returns-then-not-linked-clause-none : goal.returns-then-not-linked-clause-none
returns-then-not-linked-clause-none c sides table =
    let tells = (rw c.places.invariant.same at c.in_ok-linked.ensures.linked) sides table in
    not_all (AreLinkedAt c.args.at.now c.args.terms.now sides) c.args.lefts.now c.args.rights.now c.places.place c.item-left.result c.item-right.result
    c.places-test.true (λ d. c.item-left.ensures d) (λ d. c.item-right.ensures d) (λ h. clash c.in_ok-linked.linked (tells.1 h) c.if-not-linked.true)

pub places-preserved : goal.places-preserved
places-preserved c = record {
  same = c.in_ok-linked.ensures.same ∙ c.places.invariant.same;
  pairs = c.in_ok-push.ensures.items
      ∙ (ap (λ x. c.places.pairs.items ++ x ∷ []) c.new.ensures ∙ ap (λ xs. xs ++ (c.item-left.result, c.item-right.result) ∷ []) c.places.invariant.pairs
      ∙ sym (zip_next c.args.lefts.now c.args.rights.now c.places.place c.item-left.result c.item-right.result c.places-test.true c.if-lefts-rights.false
      (λ d. c.item-left.ensures d) (λ d. c.item-right.ensures d)));
  linked = λ sides table.
      all_next (AreLinkedAt c.args.at.now c.args.terms.now sides) c.args.lefts.now c.args.rights.now c.places.place c.item-left.result c.item-right.result
      c.places-test.true c.if-lefts-rights.false (λ d. c.item-left.ensures d) (λ d. c.item-right.ensures d) (c.places.invariant.linked sides table)
      (((rw c.places.invariant.same at c.in_ok-linked.ensures.linked) sides table).0 c.if-not-linked.false);
}

pub returns-clause-pairs : goal.returns-clause-pairs
returns-clause-pairs c =
    let past = c.places-test.false in
    let long = c.if-lefts-rights.false in
    rw (take_past c.args.lefts.now c.places.place (λ less. omega (arith, past)), take_past c.args.rights.now c.places.place (λ less. omega (arith, past, long))) at c.places.invariant.pairs

pub returns-clause-linked : goal.returns-clause-linked
returns-clause-linked c sides table =
    let past = c.places-test.false in
    let long = c.if-lefts-rights.false in
    rw (take_past c.args.lefts.now c.places.place (λ less. omega (arith, past)), take_past c.args.rights.now c.places.place (λ less. omega (arith, past, long)))
    at (c.places.invariant.linked sides table)
