use Rattle.std.proofs.Common.{◌≡◌, ℕ, List, arith, drop, sym, subst}
use Rattle.term_expansion.specs.Expanding.{SaysWhole}
use Rattle.term_expansion.specs.Values.{IsReplacement}
use Rattle.term_expansion.specs.declared.assignments.Assigned.{Assigned}
use Rattle.term_expansion.proofs.Images.{drop-at}
use Rattle.term_expansion.proofs.SaidReplacements.{says-start, says-next}
use Rattle.term_expansion.proofs.putting_in.begin.Goals as goal
use Rattle.term_expansion.specs.SymbolsAndTerms.{both}

pub bounds-init : goal.bounds-init
bounds-init c = (
  omega arith,
  λ s v q table few h. says-start s v _ c.args.replacement.now q few c.new-assignments.ensures h,
)

pub bounds-preserved : goal.bounds-preserved
bounds-preserved c = (
  let within = c.bounds.invariant.0 in omega arith,
  λ s v q table few h.
      says-next s v table _ c.push.new.self c.index-replacement-at.result (drop c.bounds.at c.args.replacement.now) _ (λ p k. c.bounds.invariant.1 s v p table few k) c.in_ok-push.ensures q
      (rw (drop-at c.args.replacement.now c.bounds.at c.index-replacement-at.result c.bounds-test.true c.bounds.invariant.0 c.index-replacement-at.is) at h),
)

pub returns-clause-says : goal.returns-clause-says
returns-clause-says c = λ s v q table few h.
    let end = c.bounds-test.false in
    let none : 0 ≡ c.bounds.at = omega arith in
    subst (λ (a : List Assigned). SaysWhole (both s v) a q) (sym c.new.ensures.assignments)
    (c.bounds.invariant.1 s v q table few (subst (λ (n : ℕ). IsReplacement (both s v) (drop n c.args.replacement.now) q) none h))
