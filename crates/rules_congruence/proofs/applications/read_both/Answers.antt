use Rattle.std.proofs.Common.{◌≡◌, ◌<◌, ◌≤◌, ◌^◌, ◌∙◌, length, refl, sym, ap, arith, length-append}
use Rattle.std.proofs.lemmas.Bool.{OnTrue_from, OnFalse_from}
use Rattle.rules_congruence.proofs.CutLemmas.{none_read, read_more, both_longer, both_ended, one_rest, left_longer, right_longer, are_going}
use Rattle.rules_congruence.proofs.applications.read_both.Goals as goal

pub places-init : goal.places-init
places-init c = record {
  same = refl;
  long = ap length c.clear.ensures.items ∙ sym (ap length c.clear-2.ensures.items);
  read = λ s ts us one other. none_read s c.args.terms.now _ _ _ _ ts us c.clear.ensures.items c.clear-2.ensures.items one other;
}

pub returns-then-is_leaf-clause-other : goal.returns-then-is_leaf-clause-other
returns-then-is_leaf-clause-other c s ts us one other =
    let above : 2 ^ 30 ≤ c.places.first = grind arith in
    let low : c.places.second < 2 ^ 30 = grind arith in
    left_longer s c.args.terms.now c.args.uses c.places.left.items c.places.right.items c.places.first c.places.second ts us c.places.invariant.long
    (c.places.invariant.read s ts us one other) c.one_to_one.ensures c.terms_at.ensures.parts above low

pub returns-then-may_stop-clause-cut : goal.returns-then-may_stop-clause-cut
returns-then-may_stop-clause-cut c s ts us table one other =
    let same : c.places.first ≡ c.places.second = sym c.number.ensures.number ∙ (c.if-number.true ∙ c.number-in-places.ensures.number) in
    let may = c.may_stop.ensures c.if-may_stop.true in
    one_rest s c.args.terms.now c.args.uses c.places.left.items c.places.right.items c.places.first c.places.second ts us c.places.invariant.long
    (c.places.invariant.read s ts us one other) table c.one_to_one.ensures same (may.0, rw c.len.ensures.value at may.1)

pub cell_parts-one-requires : goal.cell_parts-one-requires
cell_parts-one-requires c =
    let above : 2 ^ 30 ≤ c.places.first = grind arith in
    let over : 2 ^ 30 ≤ c.places.second = grind arith in
    let given = c.requires in
    let going =
    are_going c.args.terms.now c.one_to_one.ensures c.terms_at.ensures.parts c.terms_at.ensures.lists c.args.lists.0 c.args.lists.1 given
    c.places.left.items c.places.right.items c.places.first c.places.second above over
    (c.places.invariant.read given.symbols given.ts given.us given.left given.right) in
    rw c.places.invariant.same going.left

pub cell_parts-other-requires : goal.cell_parts-other-requires
cell_parts-other-requires c =
    let above : 2 ^ 30 ≤ c.places.first = grind arith in
    let over : 2 ^ 30 ≤ c.places.second = grind arith in
    let given = c.requires in
    let going =
    are_going c.args.terms.now c.one_to_one.ensures c.terms_at.ensures.parts c.terms_at.ensures.lists c.args.lists.0 c.args.lists.1 given
    c.places.left.items c.places.right.items c.places.first c.places.second above over
    (c.places.invariant.read given.symbols given.ts given.us given.left given.right) in
    rw (c.cell_parts-one.ensures.same, c.places.invariant.same) going.right

pub places-smaller : goal.places-smaller
places-smaller c =
    let above : 2 ^ 30 ≤ c.places.first = grind arith in
    let over : 2 ^ 30 ≤ c.places.second = grind arith in
    let given = c.requires in
    let going =
    are_going c.args.terms.now c.one_to_one.ensures c.terms_at.ensures.parts c.terms_at.ensures.lists c.args.lists.0 c.args.lists.1 given
    c.places.left.items c.places.right.items c.places.first c.places.second above over
    (c.places.invariant.read given.symbols given.ts given.us given.left given.right) in
    let few = going.few in
    let more = ap length c.in_ok-push.ensures ∙ length-append c.places.left.items _ in
    omega arith

pub places-preserved : goal.places-preserved
places-preserved c =
    let above : 2 ^ 30 ≤ c.places.first = grind arith in
    let over : 2 ^ 30 ≤ c.places.second = grind arith in
    record {
      same = c.cell_parts-other.ensures.same ∙ (c.cell_parts-one.ensures.same ∙ c.places.invariant.same);
      long = both_longer c.places.left.items c.places.right.items _ _ _ _ c.in_ok-push.ensures c.in_ok-push-2.ensures c.places.invariant.long;
      read = λ s ts us one other.
          read_more s c.args.terms.now c.terms_at.ensures.parts c.places.left.items c.places.right.items _ _ c.places.first c.places.second _ _ _ _ ts us
          c.in_ok-push.ensures c.in_ok-push-2.ensures
          (record {
            high = above;
            item_is = rw c.places.invariant.same at c.cell_parts-one.ensures.first;
            rest_is = rw c.places.invariant.same at c.cell_parts-one.ensures.second;
          })
          (record {
            high = over;
            item_is = rw (c.cell_parts-one.ensures.same, c.places.invariant.same) at c.cell_parts-other.ensures.first;
            rest_is = rw (c.cell_parts-one.ensures.same, c.places.invariant.same) at c.cell_parts-other.ensures.second;
          })
          (c.places.invariant.read s ts us one other);
    }

pub returns-clause-cut : goal.returns-clause-cut
returns-clause-cut c =
    let under : c.places.first < 2 ^ 30 = grind arith in
    OnTrue_from c.is_leaf-2.result _ (λ e s ts us table one other.
    both_ended s c.args.terms.now c.args.uses c.places.left.items c.places.right.items c.places.first c.places.second ts us c.places.invariant.long
    (c.places.invariant.read s ts us one other) c.one_to_one.ensures under (c.is_leaf-2.ensures.0 e))

pub returns-clause-other : goal.returns-clause-other
returns-clause-other c =
    let under : c.places.first < 2 ^ 30 = grind arith in
    OnFalse_from c.is_leaf-2.result _ (λ e s ts us one other.
    let over : 2 ^ 30 ≤ c.places.second = grind arith in
    right_longer s c.args.terms.now c.args.uses c.places.left.items c.places.right.items c.places.first c.places.second ts us c.places.invariant.long
    (c.places.invariant.read s ts us one other) c.one_to_one.ensures c.terms_at.ensures.parts under over)
