use Rattle.std.proofs.Common.{◌≡◌, ◌∙◌, sym, ap}
use Rattle.std.proofs.lemmas.Bool.{eqb-true, eq-eqb}
use Rattle.term_model.specs.Terms.{Term, not_of}
use Rattle.rules_subproof.proofs.negations.is_negation.Goals as goal

same_inner : (t a u : Term) → t ≡ not_of a → t ≡ not_of u → a ≡ u
same_inner t a u e f = let g : not_of a ≡ not_of u = sym e ∙ f in cc

pub returns-in_default-clause-negation : goal.returns-in_default-clause-negation
returns-in_default-clause-negation c t u refers others =
    (λ e. absurd cc, λ e. absurd (c.in_default.ensures.other t u refers e))

pub returns-clause-negation : goal.returns-clause-negation
returns-clause-negation c t u refers others =
    let under = c.in-Some.ensures.under t refers in
    let equal = c.equal_exactly_where_terms_are.ensures c.args.symbols.now c.leaves_differ.ensures.table c.in-Some.inner c.args.term under.inner u under.refers others in (
      λ e. under.is ∙ ap not_of (equal.0 (eqb-true c.in-Some.inner c.args.term (sym c.eq.ensures ∙ e))),
      λ e. c.eq.ensures ∙ eq-eqb c.in-Some.inner c.args.term (equal.1 (same_inner t under.inner u under.is e)),
    )
