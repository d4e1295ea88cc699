use Rattle.std.proofs.Common.{[], ◌∷◌}
use Rattle.term_model.specs.Terms.{not_of}
use Rattle.equality_blocks.proofs.StayLemmas.{made_later}
use Rattle.elab_denials.proofs.Results.{handed_on}
use Rattle.elab_denials.proofs.WorkLemmas.{both_made, done_step, lacks_term, no_pivots, went_term}
use Rattle.elab_denials.proofs.turning.implied.Goals as goal

pub returns-in_err-new-clause-went : goal.returns-in_err-new-clause-went
returns-in_err-new-clause-went c =
    let m = c.requires.made in
    went_term c.args.at.now c.args.terms.now c.equiv1.new.terms (not_of m.one) c.in_err-new.ensures.keeps m.denied_made
    (c.in_err-new.ensures.placed m.one m.one_refers)

pub returns-in_err-new-clause-full : goal.returns-in_err-new-clause-full
returns-in_err-new-clause-full c =
    let m = c.requires.made in
    handed_on c.from_residual.result _ _ c.from_residual.ensures.1 (λ full.
    lacks_term c.args.at.now c.args.terms.now c.equiv1.new.terms (not_of m.one) c.in_err-new.ensures.keeps m.denied_made
    (c.in_err-new.ensures.full full m.one m.one_refers))

pub returns-clause-says : goal.returns-clause-says
returns-clause-says c t u l r = (c.in_ok-new.ensures.added t u l r).says

pub returns-clause-done : goal.returns-clause-done
returns-clause-done c =
    let m = c.requires.made in
    let p = c.args.at.now in
    let v = c.args.terms.now in
    let w = c.equiv1.new.terms in
    let keeps = c.in_ok-new.ensures.keeps in
    done_step c.forms_stay.ensures p v w c.args.work.now c.equiv1.new.block c.in_ok-new.new (not_of m.one ∷ m.other ∷ []) [] keeps
    c.requires.work c.in_ok-new.ensures.block (c.in_ok-new.ensures.added m.one m.other m.one_refers m.other_refers)
    (both_made p w (not_of m.one) m.other (made_later p v w keeps (not_of m.one) m.denied_made) (made_later p v w keeps m.other m.other_made)) (no_pivots p w)

pub returns-clause-went : goal.returns-clause-went
returns-clause-went c =
    let m = c.requires.made in
    went_term c.args.at.now c.args.terms.now c.equiv1.new.terms (not_of m.one) c.in_ok-new.ensures.keeps m.denied_made
    (c.in_ok-new.ensures.placed m.one m.one_refers)
