use Rattle.std.proofs.Common.{[], map}
use Rattle.term_model.specs.Terms.{Term}
use Rattle.equality_steps.specs.Denied.{implied_clause}
use Rattle.equality_blocks.proofs.StayLemmas.{made_later}
use Rattle.elab_denials.proofs.Results.{handed_on}
use Rattle.elab_denials.proofs.PredicateLemmas.{implied_made, implied_says, predicates_here}
use Rattle.elab_denials.proofs.WalkLemmas.{lacks_clause, went_clause}
use Rattle.elab_denials.proofs.WorkLemmas.{done_step, no_pivots}
use Rattle.elab_denials.proofs.predicates.stated_implied.Goals as goal

pub eq_congruent_pred_implies-requires-clause-given : goal.eq_congruent_pred_implies-requires-clause-given
eq_congruent_pred_implies-requires-clause-given c =
    let p = c.args.at.now in
    let one = c.equal_exactly_where_terms_are.ensures p.symbols.now c.leaves_differ.ensures.table in
    predicates_here p c.args.terms.now one c.args.a c.args.b c.requires.stated.pairs c.requires.stated.stated

pub returns-in_err-link-clause-went : goal.returns-in_err-link-clause-went
returns-in_err-link-clause-went c =
    let p = c.args.at.now in
    let v = c.args.terms.now in
    let one = c.equal_exactly_where_terms_are.ensures p.symbols.now c.leaves_differ.ensures.table in
    let k = c.requires.stated.stated.stated.are_applied in
    let ts = map (λ (e : Term × Term). e.0) k.es in
    let us = map (λ (e : Term × Term). e.1) k.es in
    went_clause p v c.eq_congruent_pred_implies.new.terms (implied_clause k.head ts us) c.in_err-link.ensures.keeps
    (implied_made p v one c.args.a c.args.b c.requires.stated.pairs c.requires.stated.stated)
    (c.in_err-link.ensures.placed k.head ts us k.left_refers k.right_refers)

pub returns-in_err-link-clause-full : goal.returns-in_err-link-clause-full
returns-in_err-link-clause-full c =
    let p = c.args.at.now in
    let v = c.args.terms.now in
    let one = c.equal_exactly_where_terms_are.ensures p.symbols.now c.leaves_differ.ensures.table in
    let k = c.requires.stated.stated.stated.are_applied in
    let ts = map (λ (e : Term × Term). e.0) k.es in
    let us = map (λ (e : Term × Term). e.1) k.es in
    handed_on c.from_residual.result _ _ c.from_residual.ensures.1 (λ full.
    lacks_clause p v c.eq_congruent_pred_implies.new.terms (implied_clause k.head ts us) c.in_err-link.ensures.keeps
    (implied_made p v one c.args.a c.args.b c.requires.stated.pairs c.requires.stated.stated)
    (c.in_err-link.ensures.full full k.head ts us k.left_refers k.right_refers))

pub returns-clause-says : goal.returns-clause-says
returns-clause-says c pairs t u h left right =
    let p = c.args.at.now in
    let v = c.args.terms.now in
    let one = c.equal_exactly_where_terms_are.ensures p.symbols.now c.leaves_differ.ensures.table in
    let k = h.stated.are_applied in
    implied_says p v c.eq_congruent_pred_implies.new.terms one c.in_ok-link.ensures.keeps c.args.a c.args.b pairs h c.eq_congruent_pred_implies.new.block c.in_ok-link.link t u left right
    (c.in_ok-link.ensures.added k.head (map (λ (e : Term × Term). e.0) k.es) (map (λ (e : Term × Term). e.1) k.es) k.left_refers k.right_refers).says

pub returns-clause-done : goal.returns-clause-done
returns-clause-done c =
    let p = c.args.at.now in
    let v = c.args.terms.now in
    let w = c.eq_congruent_pred_implies.new.terms in
    let one = c.equal_exactly_where_terms_are.ensures p.symbols.now c.leaves_differ.ensures.table in
    let k = c.requires.stated.stated.stated.are_applied in
    let ts = map (λ (e : Term × Term). e.0) k.es in
    let us = map (λ (e : Term × Term). e.1) k.es in
    let keeps = c.in_ok-link.ensures.keeps in
    done_step c.forms_stay.ensures p v w c.args.work.now c.eq_congruent_pred_implies.new.block c.in_ok-link.link (implied_clause k.head ts us) []
    keeps c.requires.work c.in_ok-link.ensures.block (c.in_ok-link.ensures.added k.head ts us k.left_refers k.right_refers)
    (λ x has. made_later p v w keeps x (implied_made p v one c.args.a c.args.b c.requires.stated.pairs c.requires.stated.stated x has)) (no_pivots p w)

pub returns-clause-went : goal.returns-clause-went
returns-clause-went c =
    let p = c.args.at.now in
    let v = c.args.terms.now in
    let one = c.equal_exactly_where_terms_are.ensures p.symbols.now c.leaves_differ.ensures.table in
    let k = c.requires.stated.stated.stated.are_applied in
    let ts = map (λ (e : Term × Term). e.0) k.es in
    let us = map (λ (e : Term × Term). e.1) k.es in
    went_clause p v c.eq_congruent_pred_implies.new.terms (implied_clause k.head ts us) c.in_ok-link.ensures.keeps
    (implied_made p v one c.args.a c.args.b c.requires.stated.pairs c.requires.stated.stated)
    (c.in_ok-link.ensures.placed k.head ts us k.left_refers k.right_refers)
