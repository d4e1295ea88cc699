use Rattle.std.proofs.Common.{false, refl, sym, ◌∙◌, ◌<◌, length}
use Rattle.clause_chain.specs.Places.{place_in}
use Rattle.clause_chain.proofs.Keys.{of}
use Rattle.clause_chain.proofs.Leaving.{written_left, written_gone}
use Rattle.clause_chain.proofs.chain.Chain.write.Goals.{then-is_left+in_ok-push, else-is_left}
use Rattle.clause_chain.proofs.chain.Chain.write.Goals as goal

pub added-preserved : goal.added-preserved
added-preserved c =
    let added = c.self.inside.added.items in
    let table = place_in c.self.inside.places in
    let below : c.added.place < length added = rw c.deref-item-items.ensures.value at c.added-test.true in
    let answer = rw c.deref-item-items.ensures.value at c.is_left.ensures in
    elim c.if-is_left.branch [
      | then-is_left+in_ok-push w ↦
          rw (
            w.list-is,
            w.in_ok-push.ensures.items,
            c.added.invariant,
            written_left table c.added.place added (of 0 false) below (sym answer ∙ w.if-is_left.true),
          )
          (rw c.deref-item-items.ensures.value refl)
      | else-is_left w ↦
          rw (w.list-is, c.added.invariant, written_gone table c.added.place added (of 0 false) below (sym answer ∙ w.if-is_left.false)) refl
    ]
