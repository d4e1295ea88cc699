use Rattle.std.proofs.Common.{[], ◌∷◌, length, sym, subst}
use Rattle.rule_model.specs.declared.rules.Rule.{Rule}
use Rattle.equality_steps.specs.Blocks.{IsStepAt}
use Rattle.equality_steps.proofs.RuleLemmas.{weakening_step}
use Rattle.equality_steps.proofs.clausal.weakening.Goals as goal

pub push_clause-requires-clause-step : goal.push_clause-requires-clause-step
push_clause-requires-clause-step c =
    subst (λ rs. IsStepAt c.args.at.now c.args.terms.now c.args.block.now (length c.args.block.now)
    (record { rule = Rule.Weakening; clause = rs; premises = c.args.link ∷ []; pivots = [] })) (sym c.in_ok-literals.ensures)
    (weakening_step c.args.at.now c.args.terms.now c.leaves_differ.ensures.table c.one_to_one.ensures c.args.block.now c.requires.block c.args.link
    c.args.clause.now c.requires.given)
