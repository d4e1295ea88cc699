use Rattle.std.proofs.Common.{sym, subst}
use Rattle.equality_steps.specs.Links.{LinkSays}
use Rattle.equality_steps.proofs.StepLemmas.{block_later, says_later, says_more}
use Rattle.equality_steps.proofs.laws.blocks_stay.Goals as goal

pub returns-clause-none : goal.returns-clause-none
returns-clause-none c p v site = record { site = site; each = λ number a there. cc }

pub returns-clause-block : goal.returns-clause-block
returns-clause-block c p v w steps keeps block = block_later p v w keeps steps block

pub returns-clause-link : goal.returns-clause-link
returns-clause-link c p v w old new link clause keeps extends says =
    subst (λ steps. LinkSays p w steps link clause) (sym extends.is)
    (says_more p w old extends.added link clause (says_later p v w keeps old link clause says))
