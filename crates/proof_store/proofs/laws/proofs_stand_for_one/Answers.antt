-- By the terms of trees.
use Rattle.proof_store.proofs.OneProof.{one_proof, some_proof}
use Rattle.proof_store.proofs.laws.proofs_stand_for_one.Goals as goal

pub returns-clause-some : goal.returns-clause-some
returns-clause-some c s v refs h = some_proof s v refs h

pub returns-clause-one : goal.returns-clause-one
returns-clause-one c s v refs p q table known h k =
    one_proof s v known (λ a t u g g'. c.trees_of_terms.ensures.one_term s a t u table g g') refs p q h k
