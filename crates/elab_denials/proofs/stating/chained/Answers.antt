use Rattle.std.proofs.Common.{[], ◌∷◌}
use Rattle.term_model.specs.Flips.{equality}
use Rattle.term_model.specs.Terms.{not_of}
use Rattle.equality_blocks.proofs.StayLemmas.{made_later}
use Rattle.elab_denials.proofs.Results.{handed_on}
use Rattle.elab_denials.proofs.StateLemmas.{way_here, way_made}
use Rattle.elab_denials.proofs.WalkLemmas.{lacks_clause, went_clause}
use Rattle.elab_denials.proofs.WorkLemmas.{done_step, no_pivots}
use Rattle.elab_denials.proofs.stating.chained.Goals as goal

pub eq_transitive-requires-clause-given : goal.eq_transitive-requires-clause-given
eq_transitive-requires-clause-given c = way_here c.args.at.now c.args.terms.now c.args.a c.args.b c.args.c c.requires.way

pub returns-in_err-link-clause-went : goal.returns-in_err-link-clause-went
returns-in_err-link-clause-went c =
    let p = c.args.at.now in
    let v = c.args.terms.now in
    let h = c.requires.way in
    went_clause p v c.eq_transitive.new.terms (not_of (equality h.one h.two) ∷ not_of (equality h.two h.three) ∷ equality h.one h.three ∷ [])
    c.in_err-link.ensures.keeps (way_made p v c.args.a c.args.b c.args.c h)
    (c.in_err-link.ensures.placed h.one (h.two ∷ h.three ∷ []) (h.one_refers, (h.two_refers, (h.three_refers, tt))))

pub returns-in_err-link-clause-full : goal.returns-in_err-link-clause-full
returns-in_err-link-clause-full c =
    let p = c.args.at.now in
    let v = c.args.terms.now in
    let h = c.requires.way in
    handed_on c.from_residual.result _ _ c.from_residual.ensures.1 (λ full.
    lacks_clause p v c.eq_transitive.new.terms (not_of (equality h.one h.two) ∷ not_of (equality h.two h.three) ∷ equality h.one h.three ∷ [])
    c.in_err-link.ensures.keeps (way_made p v c.args.a c.args.b c.args.c h)
    (c.in_err-link.ensures.full full h.one (h.two ∷ h.three ∷ []) (h.one_refers, (h.two_refers, (h.three_refers, tt)))))

pub returns-clause-says : goal.returns-clause-says
returns-clause-says c t u w l m r = (c.in_ok-link.ensures.added t (u ∷ w ∷ []) (l, (m, (r, tt)))).says

pub returns-clause-done : goal.returns-clause-done
returns-clause-done c =
    let p = c.args.at.now in
    let v = c.args.terms.now in
    let w = c.eq_transitive.new.terms in
    let h = c.requires.way in
    let keeps = c.in_ok-link.ensures.keeps in
    done_step c.forms_stay.ensures p v w c.args.work.now c.eq_transitive.new.block c.in_ok-link.link
    (not_of (equality h.one h.two) ∷ not_of (equality h.two h.three) ∷ equality h.one h.three ∷ []) [] keeps c.requires.work c.in_ok-link.ensures.block
    (c.in_ok-link.ensures.added h.one (h.two ∷ h.three ∷ []) (h.one_refers, (h.two_refers, (h.three_refers, tt))))
    (λ x has. made_later p v w keeps x (way_made p v c.args.a c.args.b c.args.c h x has)) (no_pivots p w)

pub returns-clause-went : goal.returns-clause-went
returns-clause-went c =
    let p = c.args.at.now in
    let v = c.args.terms.now in
    let h = c.requires.way in
    went_clause p v c.eq_transitive.new.terms (not_of (equality h.one h.two) ∷ not_of (equality h.two h.three) ∷ equality h.one h.three ∷ [])
    c.in_ok-link.ensures.keeps (way_made p v c.args.a c.args.b c.args.c h)
    (c.in_ok-link.ensures.placed h.one (h.two ∷ h.three ∷ []) (h.one_refers, (h.two_refers, (h.three_refers, tt))))
