use Rattle.std.proofs.Common.{subst}
use Rattle.equality_steps.specs.Clauses.{AddsLiterals}
use Rattle.equality_steps.specs.Denied.{congruent_clause}
use Rattle.equality_steps.proofs.DeniedLemmas.{adds_whole}
use Rattle.equality_steps.proofs.DeniedRules.{applied_later, equating_step}
use Rattle.equality_steps.proofs.StepLemmas.{block_later}
use Rattle.equality_steps.proofs.denied.eq_congruent_pred_equates.Goals as goal

pub push_clause-requires-clause-block : goal.push_clause-requires-clause-block
push_clause-requires-clause-block c =
    block_later c.args.at.now c.args.terms.now c.add_equation.new.terms c.add_equation.ensures.keeps c.args.block.now c.requires.block

pub push_clause-requires-clause-step : goal.push_clause-requires-clause-step
push_clause-requires-clause-step c =
    let p = c.args.at.now in
    let v = c.args.terms.now in
    let w = c.add_equation.new.terms in
    let keeps = c.add_equation.ensures.keeps in
    let steps = c.args.block.now in
    let block = block_later p v w keeps steps c.requires.block in
    let given = applied_later p v w keeps c.args.a c.args.b c.requires.given.applied_are in
    let added =
    subst (λ rs. AddsLiterals p.symbols.now w rs c.add_equation.new.clause.items (congruent_clause given.head given.ts given.us)) c.new-clause.ensures.items
    (c.in_ok-add_equation.ensures.added c.requires.given.applied_are.head c.requires.given.applied_are.ts c.requires.given.applied_are.us
    c.requires.given.applied_are.left_refers c.requires.given.applied_are.right_refers) in
    equating_step p w steps block c.add_equation.new.clause.items c.args.a c.args.b given c.requires.given.left c.requires.given.right
    (adds_whole p.symbols.now w c.add_equation.new.clause.items (congruent_clause given.head given.ts given.us) added)

pub returns-clause-added : goal.returns-clause-added
returns-clause-added c head ts us l r =
    let p = c.args.at.now in
    let w = c.add_equation.new.terms in
    let added =
    subst (λ rs. AddsLiterals p.symbols.now w rs c.add_equation.new.clause.items (congruent_clause head ts us)) c.new-clause.ensures.items
    (c.in_ok-add_equation.ensures.added head ts us l r) in
    c.in_ok-new.ensures.added (congruent_clause head ts us) (adds_whole p.symbols.now w c.add_equation.new.clause.items (congruent_clause head ts us) added)
