use Rattle.std.proofs.Common.{◌∙◌, ap, take_all}
use Rattle.term_expansion.specs.Expanding.{key_of}
use Rattle.term_expansion.proofs.KeyLemmas.{key-start, key-next}
use Rattle.term_expansion.proofs.expanding.key.Goals as goal

pub leaves-init : goal.leaves-init
leaves-init c =
    key-start c.push.new.self.items c.new-key.result.items c.args.assignments.now c.args.r c.number.result c.new-key.ensures.items c.in_ok-push.ensures.items c.number.ensures.number

pub leaves-preserved : goal.leaves-preserved
leaves-preserved c =
    key-next c.leaves.key.items c.push-in-leaves.new.self.items c.push-in-leaves-2.new.self.items c.args.assignments.now c.args.r c.leaves.k-index c.number_at.result c.args.leaves.now
    c.leaves-test.true c.leaves.invariant c.in_ok-push-2.ensures.items c.in_ok-push-3.ensures.items c.number_at.ensures

pub returns : goal.returns
returns c = c.leaves.invariant ∙ ap (key_of c.args.r c.args.assignments.now) (take_all c.leaves.k-index c.args.leaves.now c.leaves-test.false)
