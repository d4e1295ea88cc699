use Rattle.std.proofs.Common.{subst}
use Rattle.equality_steps.specs.Clauses.{AddsLiterals}
use Rattle.equality_steps.specs.Denied.{way_clause}
use Rattle.equality_steps.proofs.DeniedLemmas.{adds_whole}
use Rattle.equality_steps.proofs.DeniedRules.{way_later, eq_transitive_step}
use Rattle.equality_steps.proofs.StepLemmas.{block_later}
use Rattle.equality_steps.proofs.denied.eq_transitive.Goals as goal

pub push_clause-requires-clause-block : goal.push_clause-requires-clause-block
push_clause-requires-clause-block c =
    block_later c.args.at.now c.args.terms.now c.add_way.new.terms c.add_way.ensures.keeps c.args.block.now c.requires.block

pub push_clause-requires-clause-step : goal.push_clause-requires-clause-step
push_clause-requires-clause-step c =
    let p = c.args.at.now in
    let v = c.args.terms.now in
    let w = c.add_way.new.terms in
    let keeps = c.add_way.ensures.keeps in
    let steps = c.args.block.now in
    let block = block_later p v w keeps steps c.requires.block in
    let given = way_later p v w keeps c.args.way.now c.requires.given in
    let added =
    subst (λ rs. AddsLiterals p.symbols.now w rs c.add_way.new.clause.items (way_clause given.first given.others)) c.new-clause.ensures.items
    (c.in_ok-add_way.ensures.added c.requires.given.first c.requires.given.others c.requires.given.refer) in
    eq_transitive_step p w steps block c.add_way.new.clause.items c.args.way.now given
    (adds_whole p.symbols.now w c.add_way.new.clause.items (way_clause given.first given.others) added)

pub returns-clause-added : goal.returns-clause-added
returns-clause-added c t us h =
    let p = c.args.at.now in
    let w = c.add_way.new.terms in
    let added =
    subst (λ rs. AddsLiterals p.symbols.now w rs c.add_way.new.clause.items (way_clause t us)) c.new-clause.ensures.items
    (c.in_ok-add_way.ensures.added t us h) in
    c.in_ok-new.ensures.added (way_clause t us) (adds_whole p.symbols.now w c.add_way.new.clause.items (way_clause t us) added)
