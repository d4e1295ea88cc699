use Rattle.proof_prune.proofs.Existing.{some_core}
use Rattle.proof_prune.proofs.Found.{one_reference}
use Rattle.proof_prune.proofs.laws.cores_exist.Goals as goal

pub returns : goal.returns
returns c = λ s v refs proof marks assertions ts table pass stand refer asserted.
    some_core s v table pass (one_reference s v pass (λ a t u. c.trees_of_terms.ensures.one_term s a t u table)) refs proof stand
    (λ i. c.commands_correspond.ensures.rule s v refs proof i stand) (λ i. c.commands_correspond.ensures.scope s v refs proof i stand)
    (λ i. c.terms_correspond.ensures.clause s v refs proof i stand) marks assertions ts refer asserted
