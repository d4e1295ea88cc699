use Rattle.std.proofs.Common.{length, refl, subst}
use Rattle.rule_model.specs.declared.rules.Rule.{Rule}
use Rattle.equality_steps.specs.Blocks.{AddsStep, IsStepAt}
use Rattle.equality_steps.proofs.ResolutionLemmas.{left_of, resolution_step}
use Rattle.equality_steps.proofs.RuleLemmas.{by_parts, one_clause_of}
use Rattle.equality_steps.proofs.clausal.resolution.Goals as goal

pub push-requires-clause-step : goal.push-requires-clause-step
push-requires-clause-step c =
    let p = c.args.at.now in
    let v = c.args.terms.now in
    let steps = c.args.block.now in
    let table = c.leaves_differ.ensures.table in
    let one = c.equal_exactly_where_terms_are.ensures p.symbols.now table in
    by_parts (IsStepAt p v steps (length steps)) Rule.Resolution _ _ _ _ _ _ refl c.in_ok-premises.ensures c.in_ok-pivots.ensures
    (resolution_step p v one steps c.requires.block c.args.left c.args.right c.args.pivot.atom c.args.pivot.negation c.requires.given
    c.in_ok-clause.clause.items c.in_ok-clause.ensures (one_clause_of p v table c.one_to_one.ensures steps c.requires.block))

pub returns-clause-added : goal.returns-clause-added
returns-clause-added c ts us t l r refers =
    let p = c.args.at.now in
    let v = c.args.terms.now in
    let steps = c.args.block.now in
    let table = c.leaves_differ.ensures.table in
    let one = c.equal_exactly_where_terms_are.ensures p.symbols.now table in
    let found =
    left_of p v one steps c.requires.block c.args.left c.args.right c.args.pivot.atom c.args.pivot.negation c.requires.given
    c.in_ok-clause.clause.items c.in_ok-clause.ensures (one_clause_of p v table c.one_to_one.ensures steps c.requires.block) ts us t l r refers in
    record {
      clause = found.terms;
      resolvent = found.resolvent;
      adds = subst (AddsStep p v steps c.push.new.self c.in_ok-new.new found.terms) c.in_ok-pivots.ensures (c.in_ok-new.ensures.added found.terms found.refer);
    }
