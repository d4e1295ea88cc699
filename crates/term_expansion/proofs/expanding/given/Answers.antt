use Rattle.std.proofs.Common.{◌∙◌, sym, ap, List, ℕ, length, get_or, take_all, subst}
use Rattle.term_expansion.specs.Expanding.{AreValuesGiven}
use Rattle.term_expansion.proofs.KeyLemmas.{given-start, found-next, missed-next, one_more_each}
use Rattle.term_expansion.proofs.expanding.given.Goals.{in-Some+in_ok-push+in_ok-push-2, in_default}
use Rattle.term_expansion.proofs.expanding.given.Goals as goal

pub leaves-init : goal.leaves-init
leaves-init c = (
  λ ks rs h. given-start ks rs c.new.result.items c.new-2.result.items c.new.ensures.items c.new-2.ensures.items,
  ap length c.new.ensures.items ∙ sym (ap length c.new-2.ensures.items),
)

pub leaves-preserved : goal.leaves-preserved
leaves-preserved c =
    let values = c.args.values.now in
    let leaves = c.args.leaves.now in
    let gs = c.leaves.given.variables.items in
    let ps = c.leaves.given.values.items in
    elim c.match-get.branch [
      | in-Some+in_ok-push+in_ok-push-2 w ↦ rw w.given-is (
        found-next values leaves gs ps w.push.new.self.items w.push-in-Some.new.self.items c.leaves.k-index w.in-Some.value.now c.leaves-test.true w.in-Some.ensures.value w.in_ok-push.ensures.items w.in_ok-push-2.ensures.items c.leaves.invariant.0,
        one_more_each gs ps w.push.new.self.items w.push-in-Some.new.self.items (get_or leaves c.leaves.k-index 0) w.in-Some.value.now w.in_ok-push.ensures.items w.in_ok-push-2.ensures.items c.leaves.invariant.1,
      )
      | in_default w ↦ rw w.given-is (missed-next values leaves gs ps c.leaves.k-index c.leaves-test.true w.in_default.ensures.value c.leaves.invariant.0, c.leaves.invariant.1)
    ]

pub returns-clause-given : goal.returns-clause-given
returns-clause-given c = λ ks rs h.
    subst (λ (ls : List ℕ). AreValuesGiven ls ks rs c.leaves.given.variables.items c.leaves.given.values.items) (take_all c.leaves.k-index c.args.leaves.now c.leaves-test.false) (c.leaves.invariant.0 ks rs h)

pub returns-clause-one_each : goal.returns-clause-one_each
returns-clause-one_each c = c.leaves.invariant.1
