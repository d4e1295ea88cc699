use Rattle.term_model.specs.Flips.{equality}
use Rattle.equality_steps.proofs.Results.{if_err}
use Rattle.elab_denials.proofs.WorkLemmas.{lacks_term, went_term}
use Rattle.elab_denials.proofs.literals.equality.Goals as goal

pub equality_of-requires-clause-left : goal.equality_of-requires-clause-left
equality_of-requires-clause-left c = record { means = c.requires.made.left; refers = c.requires.made.left_refers }

pub equality_of-requires-clause-right : goal.equality_of-requires-clause-right
equality_of-requires-clause-right c = record { means = c.requires.made.right; refers = c.requires.made.right_refers }

pub returns-in_err-q-clause-went : goal.returns-in_err-q-clause-went
returns-in_err-q-clause-went c =
    let m = c.requires.made in
    went_term c.args.at.now c.args.terms.now c.equality_of.new.terms (equality m.left m.right) c.in_err-q.ensures.keeps m.made
    (c.in_err-q.ensures.placed m.left m.right m.left_refers m.right_refers)

pub returns-in_err-q-clause-full : goal.returns-in_err-q-clause-full
returns-in_err-q-clause-full c =
    let m = c.requires.made in
    if_err c.from_residual.result _ (λ e is.
    lacks_term c.args.at.now c.args.terms.now c.equality_of.new.terms (equality m.left m.right) c.in_err-q.ensures.keeps m.made
    (c.in_err-q.ensures.full m.left m.right m.left_refers m.right_refers))

pub returns-clause-went : goal.returns-clause-went
returns-clause-went c =
    let m = c.requires.made in
    went_term c.args.at.now c.args.terms.now c.equality_of.new.terms (equality m.left m.right) c.in_ok-q.ensures.keeps m.made
    (c.in_ok-q.ensures.placed m.left m.right m.left_refers m.right_refers)
