use Rattle.std.proofs.Common.{◌↔◌, Contains, IsTrue, subst, sym}
use Rattle.clause_chain.proofs.Onwards.{found_tells}
use Rattle.clause_chain.proofs.following.stands_in.Goals as goal

pub returns : goal.returns
returns c = subst (λ b. IsTrue b ↔ Contains c.args.clause.now c.args.item) (sym c.contains.ensures.value) (found_tells c.args.item c.args.clause.now)
