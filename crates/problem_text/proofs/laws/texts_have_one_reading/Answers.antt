-- A text stands for one list of items, and those have one reading.
use Rattle.problem_text.proofs.OneReading.{one_script, one_fault, no_fault, one_of_both}
use Rattle.problem_text.proofs.laws.texts_have_one_reading.Goals as goal

pub returns-clause-script : goal.returns-clause-script
returns-clause-script c = one_script c.items_are_unique.ensures.text

pub returns-clause-fault : goal.returns-clause-fault
returns-clause-fault c = one_fault c.items_are_unique.ensures.text c.faults_are_unique.ensures.none c.faults_are_unique.ensures.one

pub returns-clause-not_both : goal.returns-clause-not_both
returns-clause-not_both c = no_fault c.items_are_unique.ensures.text c.faults_are_unique.ensures.none

pub returns-clause-judged : goal.returns-clause-judged
returns-clause-judged c = one_of_both
