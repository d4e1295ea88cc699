use Rattle.std.proofs.Common.{refl}
use Rattle.term_model.specs.Flips.{equality}
use Rattle.term_model.specs.Terms.{Term}
use Rattle.term_pool.specs.Placing.{LacksRoomFor}
use Rattle.term_pool.specs.Views.{RefersTo}
use Rattle.rule_model.specs.declared.kinds.Family.{Family}
use Rattle.rule_model.specs.declared.rules.Rule.{Rule}
use Rattle.elab_equality.proofs.WorkLemmas.{added_done, ends_new, full_at_one}
use Rattle.elab_equality.proofs.work.Work.reflexive.Goals as goal

pub eq_reflexive-requires-clause-given : goal.eq_reflexive-requires-clause-given
eq_reflexive-requires-clause-given c =
    let m = c.requires.itself in
    record { sort = m.sort; term = m.term; refers = m.refers; fits = m.fits }

pub returns-clause-done : goal.returns-clause-done
returns-clause-done c =
    let m = c.requires.itself in
    let s = c.args.at.now.symbols.now in
    let u = c.args.terms.now in
    let v = c.eq_reflexive.new.terms in
    added_done c.args.at.now u v c.args.self.now (record { block = c.eq_reflexive.new.block; forms = c.args.self.now.forms }) (equality m.term m.term) c.requires.work
    c.eq_reflexive.ensures.keeps m.made refl c.eq_reflexive.result c.eq_reflexive.ensures.block (c.eq_reflexive.ensures.added m.term m.refers)
    (c.eq_reflexive.ensures.placed m.term m.refers)
    (full_at_one c.eq_reflexive.result (RefersTo s u c.args.a) (λ (x : Term). LacksRoomFor s v.pass (equality x x)) m.term m.refers c.eq_reflexive.ensures.full)

pub returns-clause-ends : goal.returns-clause-ends
returns-clause-ends c =
    let m = c.requires.itself in
    ends_new c.args.at.now c.args.terms.now c.eq_reflexive.new.terms c.args.self.now.block c.eq_reflexive.new.block c.args.a c.args.a m.term m.term Rule.EqReflexive
    c.eq_reflexive.result (record { family = Family.Congruence; is = refl }) c.eq_reflexive.ensures.keeps m.refers m.refers
    (c.eq_reflexive.ensures.added m.term m.refers) c.eq_reflexive.ensures.by
