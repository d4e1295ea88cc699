use Rattle.contexts.proofs.FrameLemmas.{right_stays, bindings_stay}
use Rattle.contexts.proofs.kept.substitutions_stay.Goals as goal

pub returns-clause-right : goal.returns-clause-right
returns-clause-right c v w x keeps right = right_stays v w x keeps right

pub returns-clause-bindings : goal.returns-clause-bindings
returns-clause-bindings c s v w bindings q keeps stand = bindings_stay s v w bindings q keeps stand
