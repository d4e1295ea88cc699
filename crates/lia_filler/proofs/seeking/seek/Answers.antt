-- From the rows to the last column.
use Rattle.std.proofs.Common.{rules, ◌≡◌, ℕ, All, length, take, Contains, subst, sym, arith}
use Rattle.std.proofs.lemmas.List.{length-take-le}
use Rattle.lia_filler.specs.Plain.{IsPlainCombination}
use Rattle.lia_filler.specs.Elimination.{AreFit, IsDerived, IsNotOver}
use Rattle.lia_filler.proofs.Enough.{rows_are_fit, rows_are_enough, made_are_enough, none_over, found_is_plain}
use Rattle.lia_filler.proofs.seeking.seek.Goals as goal

pub each_once-requires : goal.each_once-requires
each_once-requires c = record { fit = rows_are_fit c.args.rows.now c.requires.few c.requires.narrow }

pub eliminate-requires-clause-fit : goal.eliminate-requires-clause-fit
eliminate-requires-clause-fit c = rows_are_fit c.args.rows.now c.requires.few c.requires.narrow

pub first_over-requires-clause-fit : goal.first_over-requires-clause-fit
first_over-requires-clause-fit c = rows_are_fit c.args.rows.now c.requires.few c.requires.narrow

pub columns-init : goal.columns-init
columns-init c = record {
  derived = c.in_ok-derived.ensures.derived;
  enough =
      rows_are_enough c.args.rows.now c.in_ok-derived.derived.items (AreFit.few (rows_are_fit c.args.rows.now c.requires.few c.requires.narrow))
      c.in_ok-derived.ensures.rows;
}

pub columns-preserved : goal.columns-preserved
columns-preserved c = record {
  derived = c.in_ok-derived-2.ensures.derived;
  enough =
      made_are_enough c.args.rows.now c.columns.column c.columns.derived.items (Contains c.in_ok-derived-2.derived.items) (omega arith)
      c.columns.invariant.derived (rw c.deref.ensures.value at c.in_ok-derived-2.ensures.made) c.columns.invariant.enough;
}

pub slice_bounds-found-end : goal.slice_bounds-found-end
slice_bounds-found-end c =
    omega (arith, c.in-Some.ensures.some.derived.each, AreFit.few (rows_are_fit c.args.rows.now c.requires.few c.requires.narrow))

pub slice_bounds-to_vec-end : goal.slice_bounds-to_vec-end
slice_bounds-to_vec-end c =
    let few = AreFit.few (rows_are_fit c.args.rows.now c.requires.few c.requires.narrow) in
    omega (arith, length-take-le (length c.args.rows.now) c.in-Some.found (omega (arith, c.in-Some.ensures.some.derived.each, few)))

pub returns-in-Some-clause-some : goal.returns-in-Some-clause-some
returns-in-Some-clause-some c =
    let items : c.in_ok-to_vec-in-Some.field-0.items ≡ take (length c.args.rows.now) c.in-Some.found = search rules in
    subst (IsPlainCombination c.args.rows.now) (sym items) (found_is_plain c.args.rows.now c.in-Some.found c.in-Some.ensures.some)

pub returns-clause-none : goal.returns-clause-none
returns-clause-none c =
    let last : c.columns.column ≡ 3 = omega arith in
    let derived = subst (λ (k : ℕ). All (IsDerived c.args.rows.now k) c.columns.derived.items) last c.columns.invariant.derived in
    let made = rw c.deref-2.ensures.value at c.in-None.ensures.none in
    made_are_enough c.args.rows.now 3 c.columns.derived.items (IsNotOver c.args.rows.now) (omega arith) derived made c.columns.invariant.enough
    (none_over c.args.rows.now)
