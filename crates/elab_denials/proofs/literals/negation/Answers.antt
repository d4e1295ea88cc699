use Rattle.term_model.specs.Terms.{not_of}
use Rattle.equality_steps.proofs.Results.{if_err}
use Rattle.elab_denials.proofs.WorkLemmas.{lacks_term, went_term}
use Rattle.elab_denials.proofs.literals.negation.Goals as goal

pub returns-in_err-q-clause-went : goal.returns-in_err-q-clause-went
returns-in_err-q-clause-went c =
    let t = c.requires.term in
    went_term c.args.at.now c.args.terms.now c.negation_of.new.terms (not_of t.means) c.in_err-q.ensures.keeps (c.requires.made t.means t.refers)
    (c.in_err-q.ensures.placed t.means t.refers)

pub returns-in_err-q-clause-full : goal.returns-in_err-q-clause-full
returns-in_err-q-clause-full c =
    let t = c.requires.term in
    if_err c.from_residual.result _ (λ e is.
    lacks_term c.args.at.now c.args.terms.now c.negation_of.new.terms (not_of t.means) c.in_err-q.ensures.keeps (c.requires.made t.means t.refers)
    (c.in_err-q.ensures.full t.means t.refers))

pub returns-clause-went : goal.returns-clause-went
returns-clause-went c =
    let t = c.requires.term in
    went_term c.args.at.now c.args.terms.now c.negation_of.new.terms (not_of t.means) c.in_ok-q.ensures.keeps (c.requires.made t.means t.refers)
    (c.in_ok-q.ensures.placed t.means t.refers)
