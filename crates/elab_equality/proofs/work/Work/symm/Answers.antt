use Rattle.std.proofs.Common.{refl}
use Rattle.term_model.specs.Flips.{equality}
use Rattle.term_model.specs.Terms.{Term}
use Rattle.term_pool.specs.Placing.{LacksRoomFor}
use Rattle.term_pool.specs.Views.{RefersTo}
use Rattle.elab_equality.proofs.WorkLemmas.{added_done, equates_new, full_at}
use Rattle.elab_equality.proofs.work.Work.symm.Goals as goal

pub returns-clause-linked : goal.returns-clause-linked
returns-clause-linked c =
    let m = c.requires.made in
    equates_new c.args.at.now c.args.terms.now c.symm.new.terms c.args.self.now.block c.symm.new.block c.args.b c.args.a m.left m.right c.symm.result
    c.symm.ensures.keeps m.left_refers m.right_refers (c.symm.ensures.added m.right m.left m.right_refers m.left_refers)

pub returns-clause-done : goal.returns-clause-done
returns-clause-done c =
    let m = c.requires.made in
    let s = c.args.at.now.symbols.now in
    let u = c.args.terms.now in
    let v = c.symm.new.terms in
    added_done c.args.at.now u v c.args.self.now (record { block = c.symm.new.block; forms = c.args.self.now.forms }) (equality m.left m.right) c.requires.work
    c.symm.ensures.keeps m.made refl c.symm.result c.symm.ensures.block (c.symm.ensures.added m.right m.left m.right_refers m.left_refers)
    (c.symm.ensures.placed m.right m.left m.right_refers m.left_refers)
    (full_at c.symm.result (RefersTo s u c.args.a) (RefersTo s u c.args.b) (λ (x y : Term). LacksRoomFor s v.pass (equality y x)) m.right m.left m.right_refers
    m.left_refers c.symm.ensures.full)
