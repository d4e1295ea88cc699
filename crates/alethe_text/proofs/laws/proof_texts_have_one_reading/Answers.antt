-- A text stands for one list of items, and those have one reading.
use Rattle.alethe_text.proofs.OneProof.{one_proof, one_fault, no_fault, one_of_both}
use Rattle.alethe_text.proofs.laws.proof_texts_have_one_reading.Goals as goal

pub returns-clause-proof : goal.returns-clause-proof
returns-clause-proof c = λ source settings before. one_proof source settings before c.items_are_unique.ensures.text

pub returns-clause-fault : goal.returns-clause-fault
returns-clause-fault c = λ source settings before. one_fault source settings before c.items_are_unique.ensures.text c.faults_are_unique.ensures.none c.faults_are_unique.ensures.one

pub returns-clause-not_both : goal.returns-clause-not_both
returns-clause-not_both c = λ source settings before. no_fault source settings before c.items_are_unique.ensures.text c.faults_are_unique.ensures.none

pub returns-clause-judged : goal.returns-clause-judged
returns-clause-judged c = one_of_both
