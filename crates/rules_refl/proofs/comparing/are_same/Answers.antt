use Rattle.std.proofs.Common.{◌∙◌, sym}
use Rattle.std.proofs.lemmas.Bool.{eqb-true, eq-eqb}
use Rattle.rules_refl.proofs.Stating.{strictly}
use Rattle.rules_refl.proofs.comparing.are_same.Goals as goal

pub returns-in-Strict-clause-same : goal.returns-in-Strict-clause-same
returns-in-Strict-clause-same c t u one other =
    let both = c.equal_exactly_where_terms_are.ensures c.args.symbols.now c.leaves_differ.ensures.table c.args.a c.args.b t u one other in
    strictly c.args.mode c.in-Strict.is t u c.eq.result (
      λ e. both.0 (eqb-true c.args.a c.args.b (sym c.eq.ensures ∙ e)),
      λ e. c.eq.ensures ∙ eq-eqb c.args.a c.args.b (both.1 e),
    )
