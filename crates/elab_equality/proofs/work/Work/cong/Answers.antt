use Rattle.std.proofs.Common.{refl}
use Rattle.term_model.specs.Flips.{equality}
use Rattle.term_model.specs.Terms.{Term}
use Rattle.term_pool.specs.Placing.{LacksRoomFor}
use Rattle.term_pool.specs.Views.{RefersTo}
use Rattle.rule_model.specs.declared.kinds.Family.{Family}
use Rattle.rule_model.specs.declared.rules.Rule.{Rule}
use Rattle.elab_equality.proofs.WorkLemmas.{added_done, ends_new, equates_new, full_at}
use Rattle.elab_equality.proofs.work.Work.cong.Goals as goal

pub returns-clause-linked : goal.returns-clause-linked
returns-clause-linked c =
    let m = c.requires.made in
    equates_new c.args.at.now c.args.terms.now c.cong.new.terms c.args.self.now.block c.cong.new.block c.args.a c.args.b m.left m.right c.cong.result
    c.cong.ensures.keeps m.left_refers m.right_refers (c.cong.ensures.added m.left m.right m.left_refers m.right_refers)

pub returns-clause-done : goal.returns-clause-done
returns-clause-done c =
    let m = c.requires.made in
    let s = c.args.at.now.symbols.now in
    let u = c.args.terms.now in
    let v = c.cong.new.terms in
    added_done c.args.at.now u v c.args.self.now (record { block = c.cong.new.block; forms = c.args.self.now.forms }) (equality m.left m.right) c.requires.work
    c.cong.ensures.keeps m.made refl c.cong.result c.cong.ensures.block (c.cong.ensures.added m.left m.right m.left_refers m.right_refers)
    (c.cong.ensures.placed m.left m.right m.left_refers m.right_refers)
    (full_at c.cong.result (RefersTo s u c.args.a) (RefersTo s u c.args.b) (λ (x y : Term). LacksRoomFor s v.pass (equality x y)) m.left m.right m.left_refers
    m.right_refers c.cong.ensures.full)

pub returns-clause-ends : goal.returns-clause-ends
returns-clause-ends c =
    let m = c.requires.made in
    ends_new c.args.at.now c.args.terms.now c.cong.new.terms c.args.self.now.block c.cong.new.block c.args.a c.args.b m.left m.right Rule.Cong c.cong.result
    (record { family = Family.Congruence; is = refl }) c.cong.ensures.keeps m.left_refers m.right_refers
    (c.cong.ensures.added m.left m.right m.left_refers m.right_refers) c.cong.ensures.by
