use Rattle.std.proofs.Common.{◌↔◌, Contains, IsTrue, subst}
use Rattle.clause_chain.specs.Places.{place_in}
use Rattle.clause_chain.proofs.Leaving.{has_tells}
use Rattle.clause_chain.proofs.chain.Chain.has.Goals as goal

pub returns : goal.returns
returns c =
    subst (λ l. IsTrue c.contains_key.result ↔ Contains l c.args.item) c.self.view_is
    (has_tells (place_in c.self.inside.places) c.self.inside.added.items c.args.item c.contains_key.result c.self.invariant c.contains_key.ensures)
