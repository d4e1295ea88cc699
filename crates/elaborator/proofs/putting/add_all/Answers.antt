use Rattle.elaborator.specs.Reached.{state_of}
use Rattle.elaborator.proofs.Adding.{add_may, add_next}
use Rattle.elaborator.proofs.Extending.{extended_none}
use Rattle.elaborator.proofs.putting.add_all.Goals as goal

pub steps-init : goal.steps-init
steps-init c = extended_none (state_of c.args.written.now) c.requires.tidy

pub add-requires-clause-may : goal.add-requires-clause-may
add-requires-clause-may c =
    add_may c.args.added.now c.steps.step-index c.step-item.result (state_of c.args.written.now) (state_of c.steps.written) c.steps.invariant c.requires.tidy
    c.steps-test.true c.step-item.is c.requires.may c.requires.few

pub steps-preserved : goal.steps-preserved
steps-preserved c =
    add_next c.args.added.now c.steps.step-index c.step-item.result (state_of c.args.written.now) (state_of c.steps.written) c.steps.invariant c.requires.tidy
    c.steps-test.true c.step-item.is c.requires.may c.requires.few (state_of c.add.new.written) c.in_ok-add.ensures.written
