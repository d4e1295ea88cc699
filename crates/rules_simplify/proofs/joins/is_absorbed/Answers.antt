use Rattle.std.proofs.Common.{refl, inl, inr}
use Rattle.std.proofs.lemmas.Result.{IfOk-weaker}
use Rattle.schema_match.proofs.ReferLemmas.{contains_terms, contains_references}
use Rattle.rules_simplify.specs.Joins.{constant}
use Rattle.rules_simplify.proofs.JoinLemmas.{told_apart, constant_told}
use Rattle.rules_simplify.proofs.joins.is_absorbed.Goals as goal

pub returns-then-not-is_same-clause-absorbed : goal.returns-then-not-is_same-clause-absorbed
returns-then-not-is_same-clause-absorbed c ts t list right =
    let s = c.args.symbols.now in
    let v = c.args.terms.now in
    let one = c.equal_exactly_where_terms_are.ensures s c.leaves_differ.ensures.table in
    let is = constant_told s v one c.args.absorbing c.args.right c.constant-absorbed.result t right (c.constant-absorbed.ensures v) c.is_same.result c.is_same.ensures in
    (λ e. absurd cc, λ h. absurd (told_apart _ (is.1 h.0) c.if-not-is_same.true))

pub returns-then-has-clause-absorbed : goal.returns-then-has-clause-absorbed
returns-then-has-clause-absorbed c ts t list right =
    let s = c.args.symbols.now in
    let v = c.args.terms.now in
    let one = c.equal_exactly_where_terms_are.ensures s c.leaves_differ.ensures.table in
    let here = c.constant-absorbed.ensures v in
    let is = constant_told s v one c.args.absorbing c.args.right c.constant-absorbed.result t right here c.is_same.result c.is_same.ensures in (
      λ e. (is.0 c.if-not-is_same.false, inl (contains_terms s v one c.args.arguments.now.1 ts c.constant-absorbed.result (constant c.args.absorbing) list here (c.has.ensures.0 c.if-has.true))),
      λ h. refl,
    )

pub returns-clause-absorbed : goal.returns-clause-absorbed
returns-clause-absorbed c =
    let s = c.args.symbols.now in
    let v = c.args.terms.now in
    let one = c.equal_exactly_where_terms_are.ensures s c.leaves_differ.ensures.table in
    let here = c.constant-absorbed.ensures v in
    IfOk-weaker c.has_opposed.result _ _ (λ b test ts t list right.
    let is = constant_told s v one c.args.absorbing c.args.right c.constant-absorbed.result t right here c.is_same.result c.is_same.ensures in (
      λ e. (is.0 c.if-not-is_same.false, inr ((test ts list).0 e)),
      λ h. elim h.1 [
        | inl has ↦ absurd (told_apart _ (c.has.ensures.1 (contains_references s v one c.args.arguments.now.1 ts c.constant-absorbed.result (constant c.args.absorbing) list here has)) c.if-has.false)
        | inr opposed ↦ (test ts list).1 opposed
      ],
    )) c.has_opposed.ensures.opposed
