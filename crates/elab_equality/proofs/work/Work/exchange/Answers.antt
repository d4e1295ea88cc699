use Rattle.std.proofs.Common.{refl}
use Rattle.term_model.specs.Flips.{equality}
use Rattle.term_model.specs.Terms.{Term}
use Rattle.term_pool.specs.Placing.{LacksRoomFor}
use Rattle.term_pool.specs.Views.{RefersTo}
use Rattle.elab_equality.proofs.WorkLemmas.{added_done, equates_new, full_at}
use Rattle.elab_equality.proofs.work.Work.exchange.Goals as goal

pub returns-clause-linked : goal.returns-clause-linked
returns-clause-linked c =
    let m = c.requires.made in
    equates_new c.args.at.now c.args.terms.now c.eq_symmetric.new.terms c.args.self.now.block c.eq_symmetric.new.block c.args.whole c.args.turned m.left m.right c.eq_symmetric.result
    c.eq_symmetric.ensures.keeps m.left_refers m.right_refers (c.eq_symmetric.ensures.added m.left m.right m.left_refers m.right_refers)

pub returns-clause-done : goal.returns-clause-done
returns-clause-done c =
    let m = c.requires.made in
    let s = c.args.at.now.symbols.now in
    let u = c.args.terms.now in
    let v = c.eq_symmetric.new.terms in
    added_done c.args.at.now u v c.args.self.now (record { block = c.eq_symmetric.new.block; forms = c.args.self.now.forms }) (equality m.left m.right) c.requires.work
    c.eq_symmetric.ensures.keeps m.made refl c.eq_symmetric.result c.eq_symmetric.ensures.block (c.eq_symmetric.ensures.added m.left m.right m.left_refers m.right_refers)
    (c.eq_symmetric.ensures.placed m.left m.right m.left_refers m.right_refers)
    (full_at c.eq_symmetric.result (RefersTo s u c.args.whole) (RefersTo s u c.args.turned) (λ (x y : Term). LacksRoomFor s v.pass (equality x y)) m.left m.right m.left_refers
    m.right_refers c.eq_symmetric.ensures.full)
