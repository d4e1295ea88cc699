use Rattle.reread_laws.proofs.SameIds.{same_up_to_ids, same_hole_words}
use Rattle.reread_laws.proofs.laws.numbered_proofs_are_the_same.Goals as goal

pub returns-clause-ids : goal.returns-clause-ids
returns-clause-ids c = λ proof. same_up_to_ids proof

pub returns-clause-holes : goal.returns-clause-holes
returns-clause-holes c = λ proof i statuses. same_hole_words proof i statuses
