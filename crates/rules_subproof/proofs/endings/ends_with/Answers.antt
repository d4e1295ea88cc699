use Rattle.std.proofs.Common.{◌-◌, ◌∙◌, sym, length, drop, false, IsTrue, refl, arith}
use Rattle.std.proofs.lemmas.Bool.{eqb-true, eq-eqb}
use Rattle.std.proofs.lemmas.Bool.Decides.{Decides-eqb}
use Rattle.std.proofs.lemmas.Slice.Eq.{slice_eq-Decides}
use Rattle.std.proofs.lemmas.List.{take_all, length-drop}
use Rattle.rules_subproof.proofs.EndLists.{ends_nowhere, too_long, ends_in_false, ends_whole}
use Rattle.rules_subproof.proofs.endings.ends_with.Goals as goal

not_true : IsTrue false → ⊥
not_true e = cc

pub returns-then-not-is_empty-clause-ends : goal.returns-then-not-is_empty-clause-ends
returns-then-not-is_empty-clause-ends c ts us literals inner =
    ends_whole c.args.symbols.now c.args.terms.now c.args.literals.now c.args.inner.now ts us literals inner c.args.place
    (λ p q t u h k. c.equal_exactly_where_terms_are.ensures c.args.symbols.now c.leaves_differ.ensures.table p q t u h k)
    (λ e. let clash = sym c.if-not-is_empty.true ∙ (c.is_empty.ensures ∙ eq-eqb _ _ e) in cc)
    c.eq.result
    (slice_eq-Decides Decides-eqb _ _ _
    (rw (take_all (length c.args.literals.now - c.args.place) (drop c.args.place c.args.literals.now) (let n = length-drop c.args.place c.args.literals.now in omega arith)) at c.eq.ensures))

pub returns-then-literals-place-clause-ends : goal.returns-then-literals-place-clause-ends
returns-then-literals-place-clause-ends c ts us literals inner = (
  λ e. ends_nowhere c.args.symbols.now c.args.terms.now c.args.literals.now c.args.inner.now ts us literals inner c.args.place
      (eqb-true _ _ (sym c.is_empty.ensures ∙ c.if-not-is_empty.false)) c.if-literals-place.true,
  λ h. refl,
)

pub returns-then-literals-place-2-clause-ends : goal.returns-then-literals-place-2-clause-ends
returns-then-literals-place-2-clause-ends c ts us literals inner = (
  λ e. absurd (not_true e),
  λ h. absurd (too_long c.args.symbols.now c.args.terms.now c.args.literals.now c.args.inner.now ts us literals inner c.args.place
      (eqb-true _ _ (sym c.is_empty.ensures ∙ c.if-not-is_empty.false)) c.requires.place c.if-literals-place.false c.if-literals-place-2.true h),
)

pub returns-clause-ends : goal.returns-clause-ends
returns-clause-ends c ts us literals inner =
    ends_in_false c.args.symbols.now c.args.terms.now c.args.literals.now c.args.inner.now ts us literals inner c.args.place
    (eqb-true _ _ (sym c.is_empty.ensures ∙ c.if-not-is_empty.false)) c.if-literals-place-2.false c.index-literals-place.result c.index-literals-place.is
    c.is_over.result c.is_over.ensures.over
