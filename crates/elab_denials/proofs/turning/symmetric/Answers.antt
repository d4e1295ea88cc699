use Rattle.std.proofs.Common.{[], ◌∷◌}
use Rattle.term_model.specs.Flips.{equality}
use Rattle.equality_blocks.proofs.StayLemmas.{made_later}
use Rattle.elab_denials.proofs.Results.{handed_on}
use Rattle.elab_denials.proofs.WorkLemmas.{done_step, lacks_term, later, no_pivots, only_made, went_term}
use Rattle.elab_denials.proofs.turning.symmetric.Goals as goal

pub returns-in_err-link-clause-went : goal.returns-in_err-link-clause-went
returns-in_err-link-clause-went c =
    let m = c.requires.made in
    went_term c.args.at.now c.args.terms.now c.eq_symmetric.new.terms (equality m.left m.right) c.in_err-link.ensures.keeps m.made
    (c.in_err-link.ensures.placed m.left m.right m.left_refers m.right_refers)

pub returns-in_err-link-clause-full : goal.returns-in_err-link-clause-full
returns-in_err-link-clause-full c =
    let m = c.requires.made in
    handed_on c.from_residual.result _ _ c.from_residual.ensures.1 (λ full.
    lacks_term c.args.at.now c.args.terms.now c.eq_symmetric.new.terms (equality m.left m.right) c.in_err-link.ensures.keeps m.made
    (c.in_err-link.ensures.full full m.left m.right m.left_refers m.right_refers))

pub returns-clause-equates : goal.returns-clause-equates
returns-clause-equates c =
    let m = c.requires.made in
    let p = c.args.at.now in
    record {
      left = m.left;
      right = m.right;
      left_refers = later p c.args.terms.now c.eq_symmetric.new.terms c.in_ok-link.ensures.keeps c.args.whole m.left m.left_refers;
      right_refers = later p c.args.terms.now c.eq_symmetric.new.terms c.in_ok-link.ensures.keeps c.args.turned m.right m.right_refers;
      says = (c.in_ok-link.ensures.added m.left m.right m.left_refers m.right_refers).says;
    }

pub returns-clause-done : goal.returns-clause-done
returns-clause-done c =
    let m = c.requires.made in
    let p = c.args.at.now in
    let v = c.args.terms.now in
    let w = c.eq_symmetric.new.terms in
    let x = equality m.left m.right in
    done_step c.forms_stay.ensures p v w c.args.work.now c.eq_symmetric.new.block c.in_ok-link.link (x ∷ []) [] c.in_ok-link.ensures.keeps
    c.requires.work c.in_ok-link.ensures.block (c.in_ok-link.ensures.added m.left m.right m.left_refers m.right_refers)
    (only_made p w x (made_later p v w c.in_ok-link.ensures.keeps x m.made)) (no_pivots p w)

pub returns-clause-went : goal.returns-clause-went
returns-clause-went c =
    let m = c.requires.made in
    went_term c.args.at.now c.args.terms.now c.eq_symmetric.new.terms (equality m.left m.right) c.in_ok-link.ensures.keeps m.made
    (c.in_ok-link.ensures.placed m.left m.right m.left_refers m.right_refers)
