use Rattle.std.proofs.Common.{refl}
use Rattle.term_model.specs.Flips.{equality}
use Rattle.term_model.specs.Terms.{Term}
use Rattle.term_pool.specs.Placing.{LacksRoomFor}
use Rattle.term_pool.specs.Views.{RefersTo}
use Rattle.elab_equality.proofs.WorkLemmas.{added_done, equates_new, full_at}
use Rattle.elab_equality.proofs.work.Work.in_context.Goals as goal

pub returns-clause-linked : goal.returns-clause-linked
returns-clause-linked c =
    let m = c.requires.made in
    equates_new c.args.at.now c.args.terms.now c.refl.new.terms c.args.self.now.block c.refl.new.block c.args.a c.args.b m.left m.right c.refl.result
    c.refl.ensures.keeps m.left_refers m.right_refers (c.refl.ensures.added m.left m.right m.left_refers m.right_refers)

pub returns-clause-done : goal.returns-clause-done
returns-clause-done c =
    let m = c.requires.made in
    let s = c.args.at.now.symbols.now in
    let u = c.args.terms.now in
    let v = c.refl.new.terms in
    added_done c.args.at.now u v c.args.self.now (record { block = c.refl.new.block; forms = c.args.self.now.forms }) (equality m.left m.right) c.requires.work
    c.refl.ensures.keeps m.made refl c.refl.result c.refl.ensures.block (c.refl.ensures.added m.left m.right m.left_refers m.right_refers)
    (c.refl.ensures.placed m.left m.right m.left_refers m.right_refers)
    (full_at c.refl.result (RefersTo s u c.args.a) (RefersTo s u c.args.b) (λ (x y : Term). LacksRoomFor s v.pass (equality x y)) m.left m.right m.left_refers
    m.right_refers c.refl.ensures.full)
