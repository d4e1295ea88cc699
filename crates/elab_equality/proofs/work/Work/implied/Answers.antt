use Rattle.std.proofs.Common.{[], ◌∷◌, refl}
use Rattle.term_model.specs.Terms.{not_of}
use Rattle.flip_steps.proofs.OrderLemmas.{refers_later}
use Rattle.equality_blocks.proofs.StayLemmas.{made_later}
use Rattle.elab_equality.specs.declared.work.Work.{Work}
use Rattle.elab_equality.proofs.AssertLemmas.{made_both, no_pivots, step_move, term_done, term_err}
use Rattle.elab_equality.proofs.AssumeEndLemmas.{literal_at}
use Rattle.elab_equality.proofs.work.Work.implied.Goals as goal

pub equiv1-requires-clause-literal : goal.equiv1-requires-clause-literal
equiv1-requires-clause-literal c =
    let m = c.requires.made in
    literal_at c.args.at.now c.args.terms.now c.args.a m.left m.left_refers m.fits

pub returns-in_err-new-clause-done : goal.returns-in_err-new-clause-done
returns-in_err-new-clause-done c =
    let m = c.requires.made in
    let e = c.in_err-new.ensures in
    term_err c.args.at.now c.args.terms.now c.equiv1.new.terms c.args.self.now (record { block = c.equiv1.new.block; forms = c.args.self.now.forms }) 1 (not_of m.left)
    e.keeps m.denied_made (e.placed m.left m.left_refers) c.from_residual.result c.from_residual.ensures.1 (λ full. e.full full m.left m.left_refers)

pub returns-clause-says : goal.returns-clause-says
returns-clause-says c =
    let m = c.requires.made in
    let p = c.args.at.now in
    let e = c.in_ok-new.ensures in
    record {
      left = m.left;
      right = m.right;
      left_refers = refers_later p.symbols.now c.args.terms.now c.equiv1.new.terms c.args.a m.left e.keeps m.left_refers;
      right_refers = refers_later p.symbols.now c.args.terms.now c.equiv1.new.terms c.args.b m.right e.keeps m.right_refers;
      says = (e.added m.left m.right m.left_refers m.right_refers).says;
    }

pub returns-clause-done : goal.returns-clause-done
returns-clause-done c =
    let m = c.requires.made in
    let p = c.args.at.now in
    let u = c.args.terms.now in
    let v = c.equiv1.new.terms in
    let e = c.in_ok-new.ensures in
    let new : Work = record { block = c.equiv1.new.block; forms = c.args.self.now.forms } in
    term_done p u v c.args.self.now new 1 (not_of m.left) e.keeps m.denied_made (e.placed m.left m.left_refers) c.in_ok-new.new
    (step_move p u v c.args.self.now new (not_of m.left ∷ m.right ∷ []) [] c.requires.work e.keeps refl
    (made_both p v (not_of m.left) m.right (made_later p u v e.keeps (not_of m.left) m.denied_made) (made_later p u v e.keeps m.right m.right_made)) (no_pivots p v)
    c.in_ok-new.new e.block (e.added m.left m.right m.left_refers m.right_refers))
