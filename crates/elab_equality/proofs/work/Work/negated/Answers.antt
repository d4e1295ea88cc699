use Rattle.term_model.specs.Terms.{not_of}
use Rattle.flip_steps.proofs.OrderLemmas.{refers_later}
use Rattle.elab_equality.proofs.AssertLemmas.{move_none, term_done, term_err}
use Rattle.elab_equality.proofs.work.Work.negated.Goals as goal

pub negation_of-requires : goal.negation_of-requires
negation_of-requires c = record { means = c.requires.made.term; refers = c.requires.made.refers }

pub returns-in_err-negation-clause-done : goal.returns-in_err-negation-clause-done
returns-in_err-negation-clause-done c =
    let m = c.requires.made in
    let e = c.in_err-negation.ensures in
    term_err c.args.at.now c.args.terms.now c.negation_of.new.terms c.args.self.now c.args.self.now 0 (not_of m.term) e.keeps m.made
    (e.placed m.term m.refers) c.from_residual.result c.from_residual.ensures.1 (λ full. e.full m.term m.refers)

pub returns-clause-negation : goal.returns-clause-negation
returns-clause-negation c =
    let m = c.requires.made in
    let e = c.in_ok-negation.ensures in
    record {
      term = m.term;
      refers = refers_later c.args.at.now.symbols.now c.args.terms.now c.negation_of.new.terms c.args.a m.term e.keeps m.refers;
      negation_refers = e.term m.term m.refers;
    }

pub returns-clause-done : goal.returns-clause-done
returns-clause-done c =
    let m = c.requires.made in
    let e = c.in_ok-negation.ensures in
    term_done c.args.at.now c.args.terms.now c.negation_of.new.terms c.args.self.now c.args.self.now 0 (not_of m.term) e.keeps m.made
    (e.placed m.term m.refers) c.in_ok-negation.negation (move_none c.args.at.now c.args.terms.now c.negation_of.new.terms e.keeps c.args.self.now c.requires.work)
