use Rattle.std.proofs.Common.{sym, ◌∙◌}
use Rattle.proof_prune.proofs.reaching.mark_scope.Goals as goal

pub mark_last-requires-clause-last : goal.mark_last-requires-clause-last
mark_last-requires-clause-last c j e = c.requires.last j (c.in-Some.scope, sym c.closes.ensures ∙ c.in-Some.is, e)
