use Rattle.std.proofs.Common.{◌∙◌, ℕ, List, refl}
use Rattle.std.specs.Borrow.{Bor}
use Rattle.term_pool.specs.Views.{ReferToAll}
use Rattle.rules_congruence.proofs.GivenLemmas.{given_none, given_next}
use Rattle.rules_congruence.proofs.Referring.{none_zip}
use Rattle.rules_congruence.proofs.sides.premised.Goals as goal

pub loop-premise-init : goal.loop-premise-init
loop-premise-init c = (refl, λ ps refer. rw (c.none-given.ensures.pairs, c.none-given.ensures.only, none_zip (λ (references : Bor (List ℕ)) clause. ReferToAll c.args.symbols.now c.args.terms.now references.now clause) ps refer) (given_none c.args.symbols.now c.args.terms.now))

pub loop-premise-preserved : goal.loop-premise-preserved
loop-premise-preserved c = (
  c.add.ensures.same ∙ c.loop-premise.invariant.0,
  given_next c.args.symbols.now c.args.terms.now c.args.premises.now c.loop-premise.premise-index _ c.loop-premise.given.pairs.items c.add.new.self.pairs.items c.loop-premise.given.only c.add.new.self.only
      c.loop-premise-test.true c.premise-item.is c.loop-premise.invariant.1 (rw c.loop-premise.invariant.0 at c.in_ok-add.ensures.added),
)
