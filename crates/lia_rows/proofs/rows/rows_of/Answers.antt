-- One assertion after the other.
use Rattle.std.proofs.Common.{◌≡◌, List, take, refl, sym, subst, ◌∙◌}
use Rattle.std.proofs.lemmas.List.{take_all}
use Rattle.term_model.specs.Terms.{Term}
use Rattle.term_pool.specs.Views.{RefersTo, ReferToAll}
use Rattle.lia_rows.specs.Found.{AreFound, IsAssertionAdded}
use Rattle.lia_rows.specs.Rows.{Row}
use Rattle.lia_rows.proofs.RowsSoFar.{none_found, some_before, one_more, stops}
use Rattle.lia_rows.proofs.rows.rows_of.Goals as goal

pub assertions-init : goal.assertions-init
assertions-init c = record {
  same = refl;
  found = none_found c.args.symbols.now c.args.terms.now (record { rows = c.new-3.result; assertions = c.new-4.result; columns = c.new-5.result })
      c.new-3.ensures.items c.new-4.ensures.items c.new-5.ensures.items;
}

pub add_assertion-requires-clause-rows : goal.add_assertion-requires-clause-rows
add_assertion-requires-clause-rows c =
    let s = c.args.symbols.now in
    let before = some_before s c.args.terms.now c.args.assertions.now c.assertions.assertion-index c.assertions.rows c.requires c.assertions.invariant.found in
    (before.0, subst (λ w. AreFound s w c.assertions.rows before.0) (sym c.assertions.invariant.same) before.1)

pub returns-then-not-going-clause-rows : goal.returns-then-not-going-clause-rows
returns-then-not-going-clause-rows c =
    let s = c.args.symbols.now in
    let r = c.assertion-item.result in
    let old = c.assertions.rows in
    let new = c.add_assertion.new.rows in
    stops s c.args.terms.now c.args.assertions.now c.assertions.assertion-index r old new c.in_ok-going.going c.assertions.invariant.found c.assertions-test.true c.assertion-item.is
    (subst (λ w. (before : List Row) (t : Term) → AreFound s w old before → RefersTo s w r t → IsAssertionAdded s w t before new c.in_ok-going.going) c.assertions.invariant.same
    c.in_ok-going.ensures.added) c.if-not-going.true

pub assertions-preserved : goal.assertions-preserved
assertions-preserved c =
    let s = c.args.symbols.now in
    let r = c.assertion-item.result in
    let old = c.assertions.rows in
    let new = c.add_assertion.new.rows in
    record {
      same = c.in_ok-going.ensures.same ∙ c.assertions.invariant.same;
      found =
          one_more s c.args.terms.now c.args.assertions.now c.assertions.assertion-index r old new c.in_ok-going.going c.assertions.invariant.found c.assertions-test.true
          c.assertion-item.is
          (subst (λ w. (before : List Row) (t : Term) → AreFound s w old before → RefersTo s w r t → IsAssertionAdded s w t before new c.in_ok-going.going)
          c.assertions.invariant.same c.in_ok-going.ensures.added) c.if-not-going.false;
    }

pub returns-clause-rows : goal.returns-clause-rows
returns-clause-rows c ts zip =
    c.assertions.invariant.found ts
    (subst (λ rs. ReferToAll c.args.symbols.now c.args.terms.now rs ts) (sym (take_all c.assertions.assertion-index c.args.assertions.now c.assertions-test.false)) zip)
