use Rattle.std.proofs.Common.{[], take}
use Rattle.rule_model.specs.Resolution.{IsFirstsOf}
use Rattle.clause_chain.proofs.chain.add_all.Given as goal

abbrev pub invariant-items : goal.invariant-items
invariant-items l = IsFirstsOf [] (take l.item-index l.items) l.chain
