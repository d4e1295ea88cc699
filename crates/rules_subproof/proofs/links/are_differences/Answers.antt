use Rattle.std.proofs.Common.{◌∙◌, ◌+◌, drop, get_or, IsTrue, false, refl, sym, ap, subst, arith}
use Rattle.std.proofs.lemmas.Bool.{eqb-true, eq-eqb}
use Rattle.std.proofs.lemmas.List.{drop_more, drop_all}
use Rattle.rule_model.specs.Congruence.{AreDifferences}
use Rattle.rule_model.specs.Reading.{clause_at}
use Rattle.rules_subproof.specs.Lets.{clauses_at}
use Rattle.rules_subproof.proofs.Rests.{drop_here}
use Rattle.rules_subproof.proofs.Linking.{left_start, left_here, left_by, left_end, same_next, used_next, none_left, other_used, no_clause_left, differences_end}
use Rattle.rules_subproof.proofs.links.are_differences.Goals as goal

not_true : IsTrue false → ⊥
not_true e = cc

pub values-init : goal.values-init
values-init c = (
  refl,
  omega arith,
  λ of ts bound stands zip others. left_start c.args.symbols.now c.args.terms.now (AreDifferences (clauses_at of c.args.premises.now)) c.args.values.now c.args.anchor.now ts bound zip others,
)

pub values-preserved-then-eq : goal.values-preserved-then-eq
values-preserved-then-eq c =
    let s = c.args.symbols.now in
    let v = c.args.terms.now in
    let one = c.requires.one_each in
    let below = c.values-test.true in
    let x = c.index-values-place.result in
    let a = get_or c.args.anchor.now c.values.place c.index-anchor-place.result in (
      c.values.invariant.0,
      c.values.invariant.1,
      λ of ts bound stands zip others.
          same_next s v x _ a _ _ (clauses_at of (drop c.values.used c.args.premises.now))
          (λ t u l r. (c.equal_exactly_where_terms_are.ensures s c.leaves_differ.ensures.table x a.1 t u l r).0 (eqb-true _ _ (sym c.eq.ensures ∙ c.if-eq.true)))
          (left_here s v _ c.args.values.now c.args.anchor.now c.values.place x a _
          (drop_here c.args.values.now c.values.place x below c.index-values-place.is)
          (drop_more c.args.anchor.now c.values.place c.index-anchor-place.result (omega arith))
          (c.values.invariant.2 of ts bound stands zip others)),
    )

pub returns-then-used-premises-clause-linked : goal.returns-then-used-premises-clause-linked
returns-then-used-premises-clause-linked c of ts bound stands zip others =
    let s = c.args.symbols.now in
    let v = c.args.terms.now in
    let one = c.requires.one_each in
    let below = c.values-test.true in
    let x = c.index-values-place.result in
    let a = get_or c.args.anchor.now c.values.place c.index-anchor-place.result in
    let all = c.if-used-premises.true in
    let here =
    left_here s v _ c.args.values.now c.args.anchor.now c.values.place x a _
    (drop_here c.args.values.now c.values.place x below c.index-values-place.is)
    (drop_more c.args.anchor.now c.values.place c.index-anchor-place.result (omega arith))
    (c.values.invariant.2 of ts bound stands zip others) in (
      λ e. absurd (not_true e),
      λ g. absurd (none_left s v x _ a _ _
          (λ t u l r e. not_true (sym c.if-eq.false ∙ (c.eq.ensures ∙ eq-eqb _ _ ((c.equal_exactly_where_terms_are.ensures s c.leaves_differ.ensures.table x a.1 t u l r).1 e))))
          (left_by s v of (drop c.values.used c.args.premises.now) _ _ _ _ (drop_all c.values.used c.args.premises.now (omega arith)) here) g),
    )

pub returns-then-not-equates-clause-linked : goal.returns-then-not-equates-clause-linked
returns-then-not-equates-clause-linked c of ts bound stands zip others =
    let s = c.args.symbols.now in
    let v = c.args.terms.now in
    let one = c.requires.one_each in
    let below = c.values-test.true in
    let x = c.index-values-place.result in
    let a = get_or c.args.anchor.now c.values.place c.index-anchor-place.result in
    let within = c.values.invariant.1 in
    let some = c.if-used-premises.false in
    let is = rw c.values.invariant.0 at c.equates.ensures.equates in
    let here =
    left_here s v _ c.args.values.now c.args.anchor.now c.values.place x a _
    (drop_here c.args.values.now c.values.place x below c.index-values-place.is)
    (drop_more c.args.anchor.now c.values.place c.index-anchor-place.result (omega arith))
    (c.values.invariant.2 of ts bound stands zip others) in (
      λ e. absurd (not_true e),
      λ g. absurd (other_used s v x _ a _ _ (clause_at of (get_or c.args.premises.now c.values.used 0)) (clauses_at of (drop (c.values.used + 1) c.args.premises.now))
          (λ t u l r e. not_true (sym c.if-eq.false ∙ (c.eq.ensures ∙ eq-eqb _ _ ((c.equal_exactly_where_terms_are.ensures s c.leaves_differ.ensures.table x a.1 t u l r).1 e))))
          (λ t u l r e. not_true (subst IsTrue c.if-not-equates.true ((is of t u stands l r).1 e)))
          (left_by s v of (drop c.values.used c.args.premises.now) _ _ _ _ (drop_more c.args.premises.now c.values.used 0 (omega arith)) here) g),
    )

pub values-preserved : goal.values-preserved
values-preserved c =
    let s = c.args.symbols.now in
    let v = c.args.terms.now in
    let one = c.requires.one_each in
    let below = c.values-test.true in
    let x = c.index-values-place.result in
    let a = get_or c.args.anchor.now c.values.place c.index-anchor-place.result in
    let within = c.values.invariant.1 in
    let some = c.if-used-premises.false in
    let is = rw c.values.invariant.0 at c.equates.ensures.equates in (
      c.equates.ensures.same ∙ c.values.invariant.0,
      omega arith,
      λ of ts bound stands zip others.
          used_next s v x _ a _ _ (clause_at of (get_or c.args.premises.now c.values.used 0)) (clauses_at of (drop (c.values.used + 1) c.args.premises.now))
          (λ t u l r e. not_true (sym c.if-eq.false ∙ (c.eq.ensures ∙ eq-eqb _ _ ((c.equal_exactly_where_terms_are.ensures s c.leaves_differ.ensures.table x a.1 t u l r).1 e))))
          (λ t u l r. (is of t u stands l r).0 c.if-not-equates.false)
          (left_by s v of (drop c.values.used c.args.premises.now) _ _ _ _ (drop_more c.args.premises.now c.values.used 0 (omega arith))
          (left_here s v _ c.args.values.now c.args.anchor.now c.values.place x a _
          (drop_here c.args.values.now c.values.place x below c.index-values-place.is)
          (drop_more c.args.anchor.now c.values.place c.index-anchor-place.result (omega arith))
          (c.values.invariant.2 of ts bound stands zip others))),
    )

pub returns-clause-linked : goal.returns-clause-linked
returns-clause-linked c of ts bound stands zip others =
    let s = c.args.symbols.now in
    let v = c.args.terms.now in
    let one = c.requires.one_each in
    let past = c.values-test.false in
    let end =
    differences_end s v _ (clauses_at of (drop c.values.used c.args.premises.now))
    (left_end s v _ c.args.values.now c.args.anchor.now c.values.place _ (omega arith) (omega arith) (c.values.invariant.2 of ts bound stands zip others)) in (
      λ e. end.0 (ap (clauses_at of) (drop_all c.values.used c.args.premises.now (let all = eqb-true _ _ e in omega arith))),
      λ g. eq-eqb _ _ (no_clause_left of c.args.premises.now c.values.used c.values.invariant.1 (end.1 g)),
    )
