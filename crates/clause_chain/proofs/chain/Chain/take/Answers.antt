use Rattle.std.proofs.Common.{subst}
use Rattle.rule_model.specs.Resolution.{LeavesWithout}
use Rattle.clause_chain.specs.Places.{left_from, place_in}
use Rattle.clause_chain.proofs.Keys.{differs}
use Rattle.clause_chain.proofs.Leaving.{left_taken, taken_places, stands_before}
use Rattle.clause_chain.proofs.chain.Chain.take.Goals as goal

pub invariant_of-self : goal.invariant_of-self
invariant_of-self c =
    taken_places (place_in c.self.inside.places) (place_in c.remove.new.self) c.args.item c.remove.ensures.updates.1
    (λ y other. c.remove.ensures.updates.2 y (differs c.args.item y other)) c.self.inside.added.items c.self.invariant

pub returns-clause-left : goal.returns-clause-left
returns-clause-left c =
    subst (λ l. LeavesWithout c.args.item l (left_from (place_in c.remove.new.self) 0 c.self.inside.added.items)) c.self.view_is
    (left_taken (place_in c.self.inside.places) (place_in c.remove.new.self) c.args.item c.remove.ensures.updates.1
    (λ y other. c.remove.ensures.updates.2 y (differs c.args.item y other)) 0 c.self.inside.added.items)

pub returns-clause-alone : goal.returns-clause-alone
returns-clause-alone c = stands_before (place_in c.remove.new.self) c.self.inside.added.items
