-- By the rows that are found.
use Rattle.std.proofs.Common.{◌≡◌, ◌≤◌, ◌^◌, ℤ, unsigned_abs, List, length, Vec, Global, Option, IfSome, IfNone, All, sym, ap, subst, ◌∙◌}
use Rattle.lia_filler.specs.Plain as plain
use Rattle.lia_rows.specs.Steps.{used}
use Rattle.lia_rows.proofs.FoundCombinations.{rows_told, some_told, few_rows, narrow_rows, no_refutation, each_has_multiplier, refutation}
use Rattle.lia_rows.proofs.refuting.refute.Goals as goal

pub sought-requires-clause-few : goal.sought-requires-clause-few
sought-requires-clause-few c =
    let s = c.args.symbols.now in
    let v = c.args.terms.now in
    let told = some_told s v c.args.assertions.now c.in_ok-found.found c.in-Some.rows c.in-Some.is c.in_ok-found.ensures.rows c.requires in
    subst (λ fs. plain.inequalities_of fs ≤ 8) (sym c.deref.ensures.value) (few_rows s v told.0 c.in-Some.rows told.1.0 told.1.1 told.1.2)

pub sought-requires-clause-narrow : goal.sought-requires-clause-narrow
sought-requires-clause-narrow c =
    let s = c.args.symbols.now in
    let v = c.args.terms.now in
    let told = some_told s v c.args.assertions.now c.in_ok-found.found c.in-Some.rows c.in-Some.is c.in_ok-found.ensures.rows c.requires in
    subst (All plain.IsSmallRow) (sym c.deref.ensures.value) (narrow_rows s v told.0 c.in-Some.rows told.1.0 told.1.1 told.1.2)

pub returns-in_default-combination-clause-found : goal.returns-in_default-combination-clause-found
returns-in_default-combination-clause-found c ts zip =
    let s = c.args.symbols.now in
    let v = c.args.terms.now in
    let told = rows_told s v c.args.assertions.now c.in_ok-found.found c.in-Some.rows c.in-Some.is c.in_ok-found.ensures.rows ts zip in
    no_refutation s v ts c.in-Some.rows told.0 told.1 told.2
    (subst (λ fs. (ms : List ℤ) → plain.IsPlainCombination fs ms → ⊥) c.deref.ensures.value
    (subst (λ o. IfNone o ((ms : List ℤ) → plain.IsPlainCombination c.deref.result.now ms → ⊥)) c.in_default-combination.is c.in_ok-combination.ensures.none))

pub used_of-requires : goal.used_of-requires
used_of-requires c =
    let s = c.args.symbols.now in
    let v = c.args.terms.now in
    let told = some_told s v c.args.assertions.now c.in_ok-found.found c.in-Some.rows c.in-Some.is c.in_ok-found.ensures.rows c.requires in
    let ms = c.in-Some-combination.multipliers.items in
    let combination : plain.IsPlainCombination c.in-Some.rows.rows.items ms =
    subst (λ fs. plain.IsPlainCombination fs ms) c.deref.ensures.value
    (subst (λ o. IfSome o (λ (xs : Vec ℤ Global). plain.IsPlainCombination c.deref.result.now xs.items)) c.in-Some-combination.is c.in_ok-combination.ensures.some) in
    ap length c.deref-2.ensures.value ∙ each_has_multiplier s v told.0 c.in-Some.rows told.1.0 told.1.1 told.1.2 ms combination ∙ sym (ap length c.deref-3.ensures.value)

pub returns-clause-found : goal.returns-clause-found
returns-clause-found c ts zip =
    let s = c.args.symbols.now in
    let v = c.args.terms.now in
    let told = rows_told s v c.args.assertions.now c.in_ok-found.found c.in-Some.rows c.in-Some.is c.in_ok-found.ensures.rows ts zip in
    let ms = c.in-Some-combination.multipliers.items in
    let combination : plain.IsPlainCombination c.in-Some.rows.rows.items ms =
    subst (λ fs. plain.IsPlainCombination fs ms) c.deref.ensures.value
    (subst (λ o. IfSome o (λ (xs : Vec ℤ Global). plain.IsPlainCombination c.deref.result.now xs.items)) c.in-Some-combination.is c.in_ok-combination.ensures.some) in
    let small : All (λ m. unsigned_abs m ≤ 2 ^ 105) ms =
    subst (λ o. IfSome o (λ (xs : Vec ℤ Global). All (λ m. unsigned_abs m ≤ 2 ^ 105) xs.items)) c.in-Some-combination.is c.in_ok-combination.ensures.small in
    let r = c.in_ok-refutation.refutation in
    refutation s v ts c.in-Some.rows told.0 told.1 told.2 (c.equal_exactly_where_terms_are.ensures s c.leaves_differ.ensures.table) ms r combination small
    (c.in_ok-refutation.ensures.assertions ∙ ap (λ xs. used c.deref-3.result.now xs) c.deref-2.ensures.value ∙ ap (λ xs. used xs c.in-Some.rows.assertions.items) c.deref-3.ensures.value)
    (c.in_ok-refutation.ensures.multipliers ∙ ap (λ xs. used xs xs) c.deref-3.ensures.value)
