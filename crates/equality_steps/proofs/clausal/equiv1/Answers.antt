use Rattle.std.proofs.Common.{[], ◌∷◌, sym, subst}
use Rattle.rule_model.specs.declared.rules.Rule.{Rule}
use Rattle.equality_steps.specs.Blocks.{IsStepAt}
use Rattle.equality_steps.proofs.RuleLemmas.{equates_later, equiv1_step}
use Rattle.equality_steps.proofs.StepLemmas.{block_later, literals_later}
use Rattle.equality_steps.proofs.clausal.equiv1.Goals as goal

pub push_clause-requires-clause-block : goal.push_clause-requires-clause-block
push_clause-requires-clause-block c =
    block_later c.args.at.now c.args.terms.now c.negation_of.new.terms c.negation_of.ensures.keeps c.args.block.now c.requires.block

pub push_clause-requires-clause-step : goal.push_clause-requires-clause-step
push_clause-requires-clause-step c =
    let p = c.args.at.now in
    let v = c.args.terms.now in
    let w = c.negation_of.new.terms in
    let keeps = c.negation_of.ensures.keeps in
    let steps = c.args.block.now in
    let block = block_later p v w keeps steps c.requires.block in
    let given = equates_later p v w keeps steps c.args.link c.args.a c.args.b c.requires.given in
    let literals = literals_later p v w keeps (c.args.a ∷ []) c.requires.literal in
    subst (λ rs. IsStepAt p w steps (Rattle.std.proofs.Common.length steps)
    (record { rule = Rule.Equiv1; clause = rs; premises = c.args.link ∷ []; pivots = [] }))
    (sym c.in_ok-clause.ensures)
    (equiv1_step p w c.leaves_differ.ensures.table c.one_to_one.ensures steps block c.terms_have_one_sort.ensures.term c.args.link c.args.a c.args.b
    c.in_ok-denied.denied given literals (c.in_ok-denied.ensures.term given.left c.requires.given.left_refers))
