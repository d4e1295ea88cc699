use Rattle.std.proofs.Common.{[], ◌∷◌, refl}
use Rattle.term_pool.proofs.ReadingLemmas.{keeps-same}
use Rattle.elab_equality.specs.declared.work.Work.{Work}
use Rattle.elab_equality.proofs.AssertLemmas.{made_one, move_done, no_pivots, step_move}
use Rattle.elab_equality.proofs.AssumeEndLemmas.{literal_at}
use Rattle.elab_equality.proofs.WorkLemmas.{done_memory}
use Rattle.elab_equality.proofs.work.Work.asserted.Goals as goal

pub assume-requires-clause-outer : goal.assume-requires-clause-outer
assume-requires-clause-outer c = c.requires.asserted.outer

pub assume-requires-clause-asserted : goal.assume-requires-clause-asserted
assume-requires-clause-asserted c = c.requires.asserted.among

pub assume-requires-clause-literal : goal.assume-requires-clause-literal
assume-requires-clause-literal c =
    let m = c.requires.asserted in
    literal_at c.args.at.now c.args.terms.now c.args.a m.term m.refers m.fits

pub returns-in_err-link-clause-done : goal.returns-in_err-link-clause-done
returns-in_err-link-clause-done c =
    done_memory c.args.at.now c.args.terms.now c.args.self.now (record { block = c.assume.new.block; forms = c.args.self.now.forms }) 1 c.from_residual.result
    c.from_residual.ensures.1

pub returns-clause-says : goal.returns-clause-says
returns-clause-says c =
    let m = c.requires.asserted in
    record { term = m.term; refers = m.refers; says = (c.in_ok-link.ensures.added m.term m.refers).says }

pub returns-clause-done : goal.returns-clause-done
returns-clause-done c =
    let m = c.requires.asserted in
    let p = c.args.at.now in
    let v = c.args.terms.now in
    let new : Work = record { block = c.assume.new.block; forms = c.args.self.now.forms } in
    move_done p v c.args.self.now new 1 c.in_ok-link.link
    (step_move p v v c.args.self.now new (m.term ∷ []) [] c.requires.work (keeps-same v v refl) refl (made_one p v m.term m.made) (no_pivots p v) c.in_ok-link.link
    c.in_ok-link.ensures.block (c.in_ok-link.ensures.added m.term m.refers))
