use Rattle.rules_resolution.proofs.signed.signed_term.Goals as goal

pub returns-in-None-clause-signed : goal.returns-in-None-clause-signed
returns-in-None-clause-signed c t refers = (rw c.number-in-None.ensures.number refers, λ u e. c.in-None.ensures.other t u refers e)
