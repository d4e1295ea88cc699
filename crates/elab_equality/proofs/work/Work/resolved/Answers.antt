use Rattle.std.proofs.Common.{[], ◌∷◌, false, refl, arith}
use Rattle.term_model.specs.Terms.{not_of}
use Rattle.term_pool.proofs.ReadingLemmas.{keeps-same}
use Rattle.flip_steps.proofs.UnitLemmas.{extends_itself}
use Rattle.elab_equality.specs.declared.work.Work.{Work}
use Rattle.elab_equality.proofs.AssertLemmas.{move_done, one_pivot, step_move}
use Rattle.elab_equality.proofs.AssumeEndLemmas.{atom_made, implied_later, left_alone, opposed, others_made, unit_later}
use Rattle.elab_equality.proofs.AssumeLemmas.{deniable, literals_later}
use Rattle.elab_equality.proofs.WorkLemmas.{done_err, done_memory, done_then}
use Rattle.elab_equality.proofs.work.Work.resolved.Goals as goal

pub negated-requires-clause-made : goal.negated-requires-clause-made
negated-requires-clause-made c = deniable c.args.at.now c.args.terms.now c.args.a c.args.b c.requires.made

pub returns-in_err-negation-clause-done : goal.returns-in_err-negation-clause-done
returns-in_err-negation-clause-done c = done_err c.args.self.now 1 c.from_residual.result c.in_err-negation.ensures.done c.from_residual.ensures.1

pub resolution-requires-clause-block : goal.resolution-requires-clause-block
resolution-requires-clause-block c = c.in_ok-negation.ensures.done.moved.work.block

pub resolution-requires-clause-given : goal.resolution-requires-clause-given
resolution-requires-clause-given c =
    let p = c.args.at.now in
    let u = c.args.terms.now in
    let v = c.negated.new.terms in
    let steps = c.args.self.now.block in
    let keeps = c.in_ok-negation.ensures.done.keeps in
    opposed p v c.leaves_differ.ensures.table c.one_to_one-2.ensures steps c.args.left c.args.right c.args.a c.args.b
    (implied_later p u v keeps steps steps (extends_itself steps) c.args.left c.args.a c.args.b c.requires.left)
    (unit_later p u v keeps steps steps (extends_itself steps) c.args.right c.args.a c.requires.right)
    (literals_later p u v keeps c.args.a c.args.b c.requires.made) c.in_ok-negation.negation c.in_ok-negation.ensures.negation

pub returns-in_err-new-clause-done : goal.returns-in_err-new-clause-done
returns-in_err-new-clause-done c =
    done_then 1 (omega arith) c.in_ok-negation.ensures.done
    (done_memory c.args.at.now c.negated.new.terms c.args.self.now (record { block = c.resolution.new.block; forms = c.args.self.now.forms }) 1
    c.from_residual-in_err-new.result c.from_residual-in_err-new.ensures.1)

pub returns-clause-says : goal.returns-clause-says
returns-clause-says c =
    let p = c.args.at.now in
    let u = c.args.terms.now in
    let v = c.negated.new.terms in
    let steps = c.args.self.now.block in
    let keeps = c.in_ok-negation.ensures.done.keeps in
    let on_left = implied_later p u v keeps steps steps (extends_itself steps) c.args.left c.args.a c.args.b c.requires.left in
    let on_right = unit_later p u v keeps steps steps (extends_itself steps) c.args.right c.args.a c.requires.right in
    let found = c.in_ok-new.ensures.added (not_of on_left.left ∷ on_left.right ∷ []) (on_right.term ∷ []) on_left.left on_left.says on_right.says on_left.left_refers in
    record {
      term = on_left.right;
      refers = on_left.right_refers;
      clause = found.clause;
      says = found.adds.says;
      each = left_alone p v c.leaves_differ.ensures.table c.one_to_one-2.ensures steps c.args.left c.args.right c.args.a c.args.b on_left on_right
          (literals_later p u v keeps c.args.a c.args.b c.requires.made) c.resolvents_have_other_literals.ensures found.clause found.resolvent;
    }

pub returns-clause-done : goal.returns-clause-done
returns-clause-done c =
    let p = c.args.at.now in
    let u = c.args.terms.now in
    let v = c.negated.new.terms in
    let steps = c.args.self.now.block in
    let keeps = c.in_ok-negation.ensures.done.keeps in
    let on_left = implied_later p u v keeps steps steps (extends_itself steps) c.args.left c.args.a c.args.b c.requires.left in
    let on_right = unit_later p u v keeps steps steps (extends_itself steps) c.args.right c.args.a c.requires.right in
    let made = literals_later p u v keeps c.args.a c.args.b c.requires.made in
    let found = c.in_ok-new.ensures.added (not_of on_left.left ∷ on_left.right ∷ []) (on_right.term ∷ []) on_left.left on_left.says on_right.says on_left.left_refers in
    let new : Work = record { block = c.resolution.new.block; forms = c.args.self.now.forms } in
    done_then 1 (omega arith) c.in_ok-negation.ensures.done
    (move_done p v c.args.self.now new 1 c.in_ok-new.new
    (step_move p v v c.args.self.now new found.clause ((c.args.a, false) ∷ []) c.in_ok-negation.ensures.done.moved.work (keeps-same v v refl) refl
    (others_made p v c.leaves_differ.ensures.table c.one_to_one-2.ensures steps c.args.left c.args.right c.args.a c.args.b on_left on_right made
    c.resolvents_have_other_literals.ensures found.clause found.resolvent)
    (one_pivot p v c.args.a (atom_made p v c.leaves_differ.ensures.table c.one_to_one-2.ensures steps c.args.left c.args.right c.args.a c.args.b on_left on_right made))
    c.in_ok-new.new c.in_ok-new.ensures.block found.adds))
